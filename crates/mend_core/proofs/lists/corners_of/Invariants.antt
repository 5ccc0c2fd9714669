use Rattle.std.proofs.Common.{◌≡◌, take}
use Rattle.solid_mesh.specs.Solids.{solid_part}
use Rattle.mend_core.proofs.lists.corners_of.Given as goal

abbrev pub invariant-loop-i : goal.invariant-loop-i
invariant-loop-i l = l.corners.items ≡ take l.i (solid_part l.solid).corners
