use Rattle.span_count.proofs.CarriedCounts.{AreCarriedUpTo}
use Rattle.span_count.proofs.carry.carried.Given as goal

-- the spans are right up to the place reached, and the sums are those of the crossings so far
abbrev pub invariant-loop-x : goal.invariant-loop-x
invariant-loop-x l = AreCarriedUpTo l.fn.from l.fn.to l.crossings l.fn.first.left l.fn.first.right l.x-index l.at l.left l.right l.spans.items
