-- Counts that follow one another.
use Rattle.std.specs.Prelude.{◌<◌, length, List}
use Rattle.exact_frac.specs.declared.Frac.{Frac}
use Rattle.span_count.specs.CountSpans.{Follow}
use Rattle.span_count.specs.declared.span.CountSpan.{CountSpan}

-- where there are any, they follow one another
abbrev pub AreChained : List CountSpan → Type 0
AreChained counts = 0 < length counts → (from : Frac) × (to : Frac) × Follow from counts to
