use Rattle.lattice.specs.Cuts.{plane_of}
use Rattle.solid_mesh.specs.Solids.{solid_part}
use Rattle.cut_plane.specs.inner.Walks.{unmarked}
use Rattle.cut_plane.proofs.Rounds.{IsWalk}
use Rattle.cut_plane.proofs.loops.go_round.Given as goal

abbrev pub invariant-loop-tri : goal.invariant-loop-tri
invariant-loop-tri l = IsWalk (plane_of l.cut) (solid_part l.solid) l.start l.fn.marks l.fn.segments.items l.marks l.segments.items l.tri

-- each triangle is marked once
abbrev pub decreases-loop-tri : goal.decreases-loop-tri
decreases-loop-tri l = unmarked l.marks
