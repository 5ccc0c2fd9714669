use Rattle.std.proofs.Common.{◌≡◌, List, [], ◌∷◌, ◌++◌, take}
use Rattle.std.specs.List.{AllZip}
use Rattle.span_count.specs.declared.span.CountSpan.{CountSpan}
use Rattle.lattice.specs.declared.spans.Span.{Span}
use Rattle.view_lines.specs.inner.Told.{IsToldBy, AreJoined}
use Rattle.view_lines.proofs.strips.spans_of.Given as goal

-- the spans so far, with the last one, are those that the counts so far tell
abbrev pub invariant-loop-span : goal.invariant-loop-span
invariant-loop-span l =
    (first : CountSpan) × (l.fn.counts ≡ first ∷ l.others)
    × (singles : List Span) × AllZip IsToldBy (first ∷ take l.span-index l.others) singles × AreJoined singles (l.spans.items ++ l.last ∷ [])
