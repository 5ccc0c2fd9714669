-- When spans of an edge are right in a cut view: over its part beyond the plane, where it is hidden and where it is not.
use Rattle.std.specs.Prelude.{◌↔◌, ℤ, pos, ◌<ℤ◌, IsTrue, List, All}
use Rattle.lattice.specs.declared.spans.Span.{Span}
use Rattle.lattice.specs.Cuts.{Plane}
use Rattle.geometry.specs.Faces.{share_point}
use Rattle.geometry.specs.Parts.{Part, Edge}
use Rattle.geometry.specs.Cuts.{IsHiddenInCut, IsOrdinaryInCut}
use Rattle.geometry.specs.Places.{IsBetween, HasNoEndAt}
use Rattle.cut_plane.specs.Beyond.{CoverBeyond}
use Rattle.span_slow.specs.Spans.{Alternate}

-- at each ordinary point strictly within the span, what it tells is so
abbrev pub IsAnswerInCut : Plane → {s : Part} → Edge s → Span → Type 0
IsAnswerInCut c {s = s} e x = (n m : ℤ) → pos 0 <ℤ m → IsBetween x.from x.to n m → IsOrdinaryInCut c s (share_point e.a e.b n m) → IsTrue x.hidden ↔ IsHiddenInCut c s (share_point e.a e.b n m)

pub record AreCutSpans (c : Plane) {s : Part} (e : Edge s) (spans : List Span) : Type 0 where
  pub covers : CoverBeyond c e spans
  pub ends : All (λ x. HasNoEndAt (IsOrdinaryInCut c s) e x.from x.to) spans
  pub answers : All (IsAnswerInCut c e) spans
  pub alternate : Alternate spans
