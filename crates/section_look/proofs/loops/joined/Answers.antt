use Rattle.std.proofs.Common.{◌++◌, List, take, sym, ap, ◌∙◌}
use Rattle.cut_plane.specs.Loops.{joined}
use Rattle.cut_plane.specs.declared.segments.Segment.{Segment}
use Rattle.section_look.specs.Regions.{lists_of}
use Rattle.section_look.proofs.Lists.{lists_take_more}
use Rattle.section_look.proofs.LoopPlaces.{joined_more}
use Rattle.section_look.proofs.loops.joined.Goals as goal

pub loop-segment_list-preserved : goal.loop-segment_list-preserved
loop-segment_list-preserved c =
    let vs = c.args.loops.now in
    let i = c.loop-segment_list.segment_list-index in
    let v = c.segment_list-item.result in
    c.in_ok-extend_from_slice.ensures.items
    ∙ (λ t. c.loop-segment_list.invariant t ++ c.deref.ensures.value t)
    ∙ sym (joined_more (lists_of (take i vs)) v.items)
    ∙ ap (λ (xs : List (List Segment)). joined xs) (sym (lists_take_more vs i v c.loop-segment_list-test.true c.segment_list-item.is))
