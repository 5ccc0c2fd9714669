use Rattle.std.proofs.Common.{sym, subst}
use Rattle.std.proofs.lemmas.Int.{to_z-of_z}
use Rattle.detail_pieces.specs.declared.sides.ViewAxis.{ViewAxis}
use Rattle.detail_pieces.specs.inner.Places.{IsCrossing}
use Rattle.detail_pieces.proofs.crossings.crossing.Goals as goal

pub returns-in-Across : goal.returns-in-Across
returns-in-Across c =
    let at_fits = c.ranges.at in
    subst (λ (u : ViewAxis). IsCrossing c.args.line.now u c.args.at c.crossing_across.result) (sym c.in-Across.is) (simp to_z-of_z at c.crossing_across.ensures)

pub returns-in-Upward : goal.returns-in-Upward
returns-in-Upward c =
    let at_fits = c.ranges.at in
    subst (λ (u : ViewAxis). IsCrossing c.args.line.now u c.args.at c.crossing_upward.result) (sym c.in-Upward.is) (simp to_z-of_z at c.crossing_upward.ensures)
