use Rattle.std.proofs.Common.{List, ◌++◌, drop}
use Rattle.lattice.specs.declared.spans.Span.{Span}
use Rattle.span_slow.proofs.ClippedSpans.{AreClippedEach}
use Rattle.span_slow.proofs.clip.clipped.Given as goal

-- with what the rest of the spans will add, it is what all of them add
abbrev pub invariant-loop-span : goal.invariant-loop-span
invariant-loop-span l = (more : List Span) → AreClippedEach l.part (drop l.span-index l.spans) more → AreClippedEach l.part l.spans (l.clipped.items ++ more)
