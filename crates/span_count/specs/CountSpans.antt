-- When spans of an edge are right: how many faces are nearer on each side.
use Rattle.std.specs.Prelude.{◌≡◌, ◌≢◌, ◌↔◌, ℕ, ◌+◌, ℤ, pos, ◌<ℤ◌, List, [], ◌∷◌, All}
use Rattle.exact_frac.specs.declared.Frac.{Frac}
use Rattle.lattice.specs.Triple.{Triple}
use Rattle.lattice.specs.Points.{Point}
use Rattle.geometry.specs.Faces.{share_point}
use Rattle.geometry.specs.Parts.{Part, Edge}
use Rattle.geometry.specs.Places.{IsEarlier, IsSame, IsBetween, HasNoOrdinaryEnd}
use Rattle.geometry.specs.Views.{IsHidden, IsOrdinary}
use Rattle.geometry.specs.Counts.{AreCounted, to_left, to_right}
use Rattle.span_count.specs.declared.span.CountSpan.{CountSpan}

-- the spans follow one another from a place to a place
abbrev pub Follow : Frac → List CountSpan → Frac → Type 0
Follow from [] to = IsSame from to
Follow from (x ∷ xs) to = IsSame x.from from × IsEarlier x.from x.to × Follow x.to xs to

-- from 0 to 1
abbrev pub CoverEdge : List CountSpan → Type 0
CoverEdge spans = (from : Frac) × (to : Frac) × (from.num ≡ pos 0) × (to.num ≡ to.den) × Follow from spans to

-- they are the two counts at p, and p is hidden exactly where they are not both 0
pub record AreCountsAt (d : Triple) {s : Part} (e : Edge s) (p : Point) (left right : ℕ) : Type 0 where
  pub on_left : AreCounted to_left d e p left
  pub on_right : AreCounted to_right d e p right
  pub hidden : IsHidden d s p ↔ (left + right ≢ 0)

-- so at each ordinary point strictly within the span
abbrev pub IsRight : Triple → {s : Part} → Edge s → CountSpan → Type 0
IsRight d {s = s} e x = (n m : ℤ) → pos 0 <ℤ m → IsBetween x.from x.to n m → IsOrdinary d s (share_point e.a e.b n m) →
    AreCountsAt d e (share_point e.a e.b n m) x.left x.right

pub record AreCountSpans (d : Triple) {s : Part} (e : Edge s) (spans : List CountSpan) : Type 0 where
  pub covers : CoverEdge spans
  pub ends : All (λ x. HasNoOrdinaryEnd d e x.from x.to) spans
  pub right : All (IsRight d e) spans
