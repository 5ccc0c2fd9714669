use Rattle.lattice.specs.Cuts.{plane_of}
use Rattle.solid_mesh.specs.Solids.{solid_part}
use Rattle.cut_plane.proofs.Sweeps.{AreSwept}
use Rattle.cut_plane.proofs.loops.borders.Given as goal

abbrev pub invariant-loop-tri : goal.invariant-loop-tri
invariant-loop-tri l = AreSwept (plane_of l.cut) (solid_part l.solid) l.tri l.marks.items l.segments.items l.loops.items
