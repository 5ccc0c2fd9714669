-- When spans of an edge are right: where the edge is hidden and where it is not.
use Rattle.std.specs.Prelude.{◌≢◌, List, [], ◌∷◌, All}
use Rattle.lattice.specs.declared.spans.Span.{Span}
use Rattle.lattice.specs.Triple.{Triple}
use Rattle.geometry.specs.Parts.{Part, Edge}
use Rattle.geometry.specs.Places.{HasNoOrdinaryEnd}
use Rattle.geometry.specs.Spans.{CoverEdge, IsAnswer}

-- of two neighbours one is hidden and one is not
abbrev pub Alternate : List Span → Type 0
Alternate [] = Unit {0}
Alternate (x ∷ []) = Unit {0}
Alternate (x ∷ y ∷ xs) = (x.hidden ≢ y.hidden) × Alternate (y ∷ xs)

pub record AreSpans (d : Triple) {s : Part} (e : Edge s) (spans : List Span) : Type 0 where
  pub covers : CoverEdge spans
  pub ends : All (λ x. HasNoOrdinaryEnd d e x.from x.to) spans
  pub answers : All (IsAnswer d e) spans
  pub alternate : Alternate spans
