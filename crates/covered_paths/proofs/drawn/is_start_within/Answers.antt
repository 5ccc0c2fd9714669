use Rattle.std.proofs.Common.{◌≡◌, true, sym, subst, ◌∙◌, rules, FitsSigned}
use Rattle.std.specs.Int.{w64}
use Rattle.std.proofs.lemmas.Int.{to_z-of_z}
use Rattle.covered_paths.specs.declared.extent.Extent.{Extent}
use Rattle.covered_paths.specs.inner.Boxes.{is_missed}
use Rattle.covered_paths.proofs.Outside.{own_away}
use Rattle.covered_paths.proofs.drawn.is_start_within.Goals as goal

pub returns-then-is_missed : goal.returns-then-is_missed
returns-then-is_missed c =
    let leg = c.args.leg.now in
    let x_near = leg.x1_near in
    let y_near = leg.y1_near in
    let far : FitsSigned w64 c.args.far = search rules in
    let across : FitsSigned w64 leg.x1 = search rules in
    let down : FitsSigned w64 leg.y1 = search rules in
    let missed = simp to_z-of_z at c.is_missed.ensures in
    sym (own_away c.args.far c.requires.not_negative leg c.args.other.now (subst (λ (e : Extent). is_missed c.args.far leg.x1 leg.y1 e ≡ true) c.extent_around.ensures (sym missed ∙ c.if-is_missed.true)))
