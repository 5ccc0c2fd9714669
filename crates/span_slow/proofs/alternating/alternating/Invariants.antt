use Rattle.span_slow.proofs.Turns.{AreTold}
use Rattle.span_slow.proofs.alternating.alternating.Given as goal

-- the spans are right up to the end of the intervals so far
abbrev pub invariant-loop-x : goal.invariant-loop-x
invariant-loop-x l = AreTold l.united l.x-index l.from l.spans.items
