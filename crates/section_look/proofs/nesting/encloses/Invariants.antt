use Rattle.std.proofs.Common.{take}
use Rattle.lattice.specs.Points.{of_dir, of_spot}
use Rattle.cut_plane.proofs.Odd.{IsOddCount}
use Rattle.section_look.proofs.nesting.encloses.Given as goal

abbrev pub invariant-loop-segment : goal.invariant-loop-segment
invariant-loop-segment l = IsOddCount (of_dir l.d) (of_spot l.p) (take l.segment-index l.loop_segments) l.odd
