use Rattle.std.proofs.Common.{List, take, ◌+◌, sym, subst}
use Rattle.std.proofs.lemmas.List.{take_all}
use Rattle.lattice.specs.Points.{of_spot}
use Rattle.line_merge.proofs.Zips.{zip_more}
use Rattle.cut_plane.specs.declared.segments.Segment.{Segment}
use Rattle.sheet_plan.specs.Sheets.{IsShownAt}
use Rattle.stroke_paths.specs.declared.path.Point.{Point}
use Rattle.section_look.specs.Looks.{IsOutline}
use Rattle.section_look.proofs.fills.outline.Goals as goal

pub loop-segment-preserved : goal.loop-segment-preserved
loop-segment-preserved c place at =
    let sheet = c.args.sheet.now in
    let xs = c.args.loop_segments.now in
    let i = c.loop-segment.segment-index in
    let R = λ (x : Segment) (p : Point). IsShownAt sheet place (of_spot x.a) p.x p.y in
    subst (λ (ys : List Point). IsOutline sheet place (take (i + 1) xs) ys) (sym {A = List Point} c.in_ok-push.ensures.items)
    (zip_more R xs c.loop-segment.points.items i c.segment-item.result c.shown.result c.loop-segment-test.true c.segment-item.is (c.loop-segment.invariant place at) (c.shown.ensures place at))

pub returns : goal.returns
returns c place at =
    subst (λ (xs : List Segment). IsOutline c.args.sheet.now place xs c.loop-segment.points.items) (take_all c.loop-segment.segment-index c.args.loop_segments.now c.loop-segment-test.false) (c.loop-segment.invariant place at)
