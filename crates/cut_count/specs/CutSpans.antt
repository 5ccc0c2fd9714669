-- When counted spans of an edge are right in a cut view: over its part beyond the plane, how many faces are nearer on each side, and the section.
use Rattle.std.specs.Prelude.{◌≡◌, ℕ, ℤ, pos, ◌<ℤ◌, List, [], ◌∷◌, All}
use Rattle.exact_frac.specs.declared.Frac.{Frac}
use Rattle.intervals.specs.declared.interval.Interval.{Interval}
use Rattle.lattice.specs.Cuts.{Plane}
use Rattle.geometry.specs.Cuts.{IsOrdinaryInCut}
use Rattle.geometry.specs.Faces.{share_point}
use Rattle.geometry.specs.Parts.{Part, Edge, IsNumbered}
use Rattle.geometry.specs.Places.{IsBetween, HasNoEndAt}
use Rattle.cut_plane.specs.Diagonals.{IsUnderBorder}
use Rattle.span_count.specs.declared.span.CountSpan.{CountSpan}
use Rattle.span_count.specs.declared.span.EdgeSpans.{EdgeSpans}
use Rattle.span_count.specs.CountSpans.{Follow}
use Rattle.cut_plane.specs.Beyond.{IsPartBeyond}
use Rattle.cut_count_laws.specs.CutCounts.{AreCutCountsAt}

-- the spans follow one another over the part, if there is one
abbrev pub CoverPart : List (Interval Frac) → List CountSpan → Type 0
CoverPart [] spans = spans ≡ []
CoverPart (x ∷ []) spans = Follow x.from spans x.to
CoverPart (x ∷ y ∷ xs) spans = ⊥

-- over the part of the edge that is beyond the plane
abbrev pub CoverBeyond : Plane → {s : Part} → Edge s → List CountSpan → Type 0
CoverBeyond c e spans = (xs : List (Interval Frac)) × IsPartBeyond c e xs × CoverPart xs spans

-- at each ordinary point strictly within the span that has no border on its line of sight, they are the two counts
abbrev pub IsRightInCut : Plane → {s : Part} → Edge s → CountSpan → Type 0
IsRightInCut c {s = s} e x = (n m : ℤ) → pos 0 <ℤ m → IsBetween x.from x.to n m → IsOrdinaryInCut c s (share_point e.a e.b n m) → ¬ IsUnderBorder c s (share_point e.a e.b n m) →
    AreCutCountsAt c e (share_point e.a e.b n m) x.left x.right

pub record AreCutCountSpans (c : Plane) {s : Part} (e : Edge s) (spans : List CountSpan) : Type 0 where
  pub covers : CoverBeyond c e spans
  pub ends : All (λ x. HasNoEndAt (IsOrdinaryInCut c s) e x.from x.to) spans
  pub right : All (IsRightInCut c e) spans

-- the entry is that of the edge with the number i, and its spans are right
pub record IsCutEntry (c : Plane) (s : Part) (halves : List ℕ) (i : ℕ) (entry : EdgeSpans) : Type 0 where
  pub edge : entry.edge ≡ i
  pub spans : (e : Edge s) → IsNumbered halves i e → AreCutCountSpans c e entry.spans.items
