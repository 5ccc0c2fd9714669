use Rattle.std.proofs.Common.{rules, FitsSigned}
use Rattle.std.specs.Int.{w64}
use Rattle.std.proofs.lemmas.Int.{to_z-of_z}
use Rattle.sheet_summary.proofs.Lines.{near_between, far_outside}
use Rattle.sheet_summary.proofs.cuts.is_near_end.Goals as goal

pub returns-then-is_between : goal.returns-then-is_between
returns-then-is_between c =
    let twice : FitsSigned w64 c.args.twice = search rules in
    let least : FitsSigned w64 c.args.least = search rules in
    let greatest : FitsSigned w64 c.args.greatest = search rules in
    let before : FitsSigned w64 c.before-before.result = search rules in
    let behind : FitsSigned w64 c.behind-behind.result = search rules in
    let extent : FitsSigned w64 c.twice_extent-extent.result = search rules in
    near_between c.args.twice c.args.least c.args.greatest c.before-before.result c.behind-behind.result c.twice_extent-extent.result
    (simp to_z-of_z at c.before-before.ensures.value) (simp to_z-of_z at c.behind-behind.ensures.value) (simp to_z-of_z at c.twice_extent-extent.ensures)
    c.is_between.result c.is_close_to_one.result (simp to_z-of_z at c.is_between.ensures) c.if-is_between.true (simp to_z-of_z at c.is_close_to_one.ensures)

pub returns-else-is_between : goal.returns-else-is_between
returns-else-is_between c =
    let twice : FitsSigned w64 c.args.twice = search rules in
    let least : FitsSigned w64 c.args.least = search rules in
    let greatest : FitsSigned w64 c.args.greatest = search rules in
    let before : FitsSigned w64 c.before-before.result = search rules in
    let behind : FitsSigned w64 c.behind-behind.result = search rules in
    let extent : FitsSigned w64 c.twice_extent-extent.result = search rules in
    far_outside c.args.twice c.args.least c.args.greatest c.before-before.result c.behind-behind.result c.twice_extent-extent.result
    (simp to_z-of_z at c.before-before.ensures.value) (simp to_z-of_z at c.behind-behind.ensures.value) (simp to_z-of_z at c.twice_extent-extent.ensures)
    c.is_between.result (simp to_z-of_z at c.is_between.ensures) c.if-is_between.false
