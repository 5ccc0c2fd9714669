-- The spans of a drawn edge, by its number.
use Rattle.std.specs.Prelude.{◌≡◌, ℕ}
use Rattle.geometry.specs.Parts.{Edge, IsNumbered}
use Rattle.cross_find.specs.Sights.{SightState}
use Rattle.span_count.specs.declared.span.EdgeSpans.{EdgeSpans}
use Rattle.span_count.specs.CountSpans.{AreCountSpans}

-- the entry is that of the edge with the number i, and its spans are right
pub record IsEntry (x : SightState) (i : ℕ) (entry : EdgeSpans) : Type 0 where
  pub edge : entry.edge ≡ i
  pub spans : (e : Edge x.part) → IsNumbered x.halves i e → AreCountSpans x.direction e entry.spans.items
