use Rattle.std.proofs.Common.{◌≡◌, take}
use Rattle.cut_plane.specs.Loops.{joined}
use Rattle.section_look.specs.Regions.{lists_of}
use Rattle.section_look.proofs.loops.joined.Given as goal

abbrev pub invariant-loop-segment_list : goal.invariant-loop-segment_list
invariant-loop-segment_list l = l.segments.items ≡ joined (lists_of (take l.segment_list-index l.loops))
