use Rattle.lattice.specs.Cuts.{plane_of}
use Rattle.span_slow.proofs.InSection.{AreRightUpTo}
use Rattle.span_slow.proofs.section.within_section.Given as goal

-- the intervals are right up to the place reached
abbrev pub invariant-loop-place : goal.invariant-loop-place
invariant-loop-place l = AreRightUpTo (plane_of l.section.cut) l.solid l.edge l.place-items l.place-index l.from l.within.items
