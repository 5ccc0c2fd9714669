use Rattle.std.proofs.Common.{rules, FitsSigned, sym, ◌∙◌}
use Rattle.std.specs.Int.{w32, w64}
use Rattle.std.proofs.lemmas.Int.{to_z-of_z}
use Rattle.lattice.specs.Cuts.{plane_of}
use Rattle.solid_mesh.specs.Solids.{solid_part}
use Rattle.drawn_strips.proofs.TraceAxes.{told_high, told_low}
use Rattle.drawn_strips.proofs.trace_strips.is_cut.Goals as goal

pub returns-then-from_high : goal.returns-then-from_high
returns-then-from_high c =
    let least : FitsSigned w64 c.from-least.result = search rules in
    let most : FitsSigned w64 c.from-most.result = search rules in
    let place : FitsSigned w64 c.at.result = search rules in
    let low : FitsSigned w32 c.coordinate.result = search rules in
    let high : FitsSigned w32 c.coordinate-2.result = search rules in
    let least_is = simp to_z-of_z at c.from-least.ensures in
    let most_is = simp to_z-of_z at c.from-most.ensures in
    told_high (plane_of c.args.cut.now) (solid_part c.args.solid.now).corners c.ends_on-ends.result.first c.ends_on-ends.result.last c.axis-axis.result c.at.result c.from-least.result c.from-most.result
    c.is_amid_from_high.result c.axis-axis.ensures c.at.ensures.place (least_is ∙ c.coordinate.ensures.value) (most_is ∙ c.coordinate-2.ensures.value) c.ends_on-ends.ensures.first c.ends_on-ends.ensures.last
    (sym c.from_high.ensures ∙ c.if-from_high.true) (simp to_z-of_z at c.is_amid_from_high.ensures)

pub returns-else-from_high : goal.returns-else-from_high
returns-else-from_high c =
    let least : FitsSigned w64 c.from-least.result = search rules in
    let most : FitsSigned w64 c.from-most.result = search rules in
    let place : FitsSigned w64 c.at-else-from_high.result = search rules in
    let low : FitsSigned w32 c.coordinate.result = search rules in
    let high : FitsSigned w32 c.coordinate-2.result = search rules in
    let least_is = simp to_z-of_z at c.from-least.ensures in
    let most_is = simp to_z-of_z at c.from-most.ensures in
    told_low (plane_of c.args.cut.now) (solid_part c.args.solid.now).corners c.ends_on-ends.result.first c.ends_on-ends.result.last c.axis-axis.result c.at-else-from_high.result c.from-least.result c.from-most.result
    c.is_amid_from_low.result c.axis-axis.ensures c.at-else-from_high.ensures.place (least_is ∙ c.coordinate.ensures.value) (most_is ∙ c.coordinate-2.ensures.value) c.ends_on-ends.ensures.first c.ends_on-ends.ensures.last
    (sym c.from_high.ensures ∙ c.if-from_high.false) (simp to_z-of_z at c.is_amid_from_low.ensures)
