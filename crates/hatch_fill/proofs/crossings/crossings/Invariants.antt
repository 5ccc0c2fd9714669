use Rattle.std.proofs.Common.{take}
use Rattle.lattice.specs.Points.{of_dir}
use Rattle.hatch_fill.specs.inner.Crossings.{AreCrossings}
use Rattle.hatch_fill.specs.inner.Parts.{AreJoined}
use Rattle.hatch_fill.proofs.crossings.crossings.Given as goal

-- the places are those of the segments so far
abbrev pub invariant-loop-segment : goal.invariant-loop-segment
invariant-loop-segment l = AreJoined (AreCrossings (of_dir l.d) l.spacing) (take l.segment-index l.segments) l.places.items
