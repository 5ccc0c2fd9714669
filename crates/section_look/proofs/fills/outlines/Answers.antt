use Rattle.std.proofs.Common.{List, take, ◌+◌, sym, subst, Vec, Global}
use Rattle.std.proofs.lemmas.List.{take_all}
use Rattle.line_merge.proofs.Zips.{zip_more}
use Rattle.cut_plane.specs.declared.segments.Segment.{Segment}
use Rattle.stroke_paths.specs.declared.path.Point.{Point}
use Rattle.section_look.specs.Looks.{AreOutlines, IsOutline}
use Rattle.section_look.proofs.fills.outlines.Goals as goal

pub loop-loop_segments-preserved : goal.loop-loop_segments-preserved
loop-loop_segments-preserved c place at =
    let sheet = c.args.sheet.now in
    let xs = c.args.loops.now in
    let i = c.loop-loop_segments.loop_segments-index in
    let R = λ (x : Vec Segment Global) (y : Vec Point Global). IsOutline sheet place x.items y.items in
    let y = c.in_ok-outline.field-0 in
    subst (λ (ys : List (Vec Point Global)). AreOutlines sheet place (take (i + 1) xs) ys) (sym {A = List (Vec Point Global)} c.in_ok-push.ensures.items)
    (zip_more R xs c.loop-loop_segments.all.items i c.loop_segments-item.result y c.loop-loop_segments-test.true c.loop_segments-item.is (c.loop-loop_segments.invariant place at)
    (subst (λ (zs : List Segment). IsOutline sheet place zs y.items) c.deref.ensures.value (c.in_ok-outline.ensures place at)))

pub returns : goal.returns
returns c place at =
    subst (λ (xs : List (Vec Segment Global)). AreOutlines c.args.sheet.now place xs c.loop-loop_segments.all.items) (take_all c.loop-loop_segments.loop_segments-index c.args.loops.now c.loop-loop_segments-test.false) (c.loop-loop_segments.invariant place at)
