-- The intervals of an edge in which something is so, such as that a face hides it.
use Rattle.std.specs.Prelude.{◌≡◌, ◌≢◌, ◌⊎◌, ◌↔◌, ℤ, pos, ◌<ℤ◌, ◌≤ℤ◌, IsTrue, List, [], ◌∷◌, ◌++◌, All, Contains}
use Rattle.exact_frac.specs.declared.Frac.{Frac}
use Rattle.lattice.specs.Triple.{Triple}
use Rattle.lattice.specs.Points.{Point}
use Rattle.geometry.specs.Faces.{share_point}
use Rattle.geometry.specs.Parts.{Part, Edge}
use Rattle.geometry.specs.Views.{IsOrdinary}
use Rattle.hiding_laws.specs.Values.{value_at}
use Rattle.intervals.specs.declared.interval.Interval.{Interval}
use Rattle.span_slow.specs.declared.linear.Linear.{Linear}
use Rattle.lattice.specs.declared.spans.Span.{Span}
use Rattle.geometry.specs.Places.{IsPlace, IsSame, IsValue, IsBetween, IsFromTo, HasNoEndAt}
use Rattle.geometry.specs.Spans.{CoverEdge}
use Rattle.span_slow.specs.Spans.{Alternate}
use Rattle.cut_plane.specs.Beyond.{IsStretch, IsWithinAny}

-- ---- where values that are linear along an edge are at least 0
abbrev pub AreNonnegative : List Linear → ℤ → ℤ → Type 0
AreNonnegative [] n m = Unit {0}
AreNonnegative (v ∷ vs) n m = (pos 0 ≤ℤ value_at v.start v.end n m) × AreNonnegative vs n m

-- one of them changes, and is 0 here
abbrev pub HasRoot : List Linear → Frac → Type 0
HasRoot [] r = ⊥
HasRoot (v ∷ vs) r = ((v.start ≢ v.end) × (value_at v.start v.end r.num r.den ≡ pos 0)) ⊎ HasRoot vs r

-- 0, 1, or where one of them is 0
abbrev pub IsRootOrEnd : List Linear → Frac → Type 0
IsRootOrEnd linears r = (r.num ≡ pos 0) ⊎ (r.num ≡ r.den) ⊎ HasRoot linears r

-- the closed interval, perhaps empty, is where all of them are at least 0
pub record IsWhereNonnegative (linears : List Linear) (x : Interval Frac) : Type 0 where
  pub exactly : (n m : ℤ) → pos 0 <ℤ m → pos 0 ≤ℤ n → n ≤ℤ m → IsFromTo x.from x.to n m ↔ AreNonnegative linears n m
  pub from_end : IsRootOrEnd linears x.from
  pub to_end : IsRootOrEnd linears x.to
  pub from_place : IsPlace x.from
  pub to_place : IsPlace x.to

-- ---- lists of intervals
-- at each inner point of the edge that O holds of, P holds exactly if it is strictly within an interval; no interval ends at such a point
pub record AreWhereAt (O : Point → Type 0) {s : Part} (e : Edge s) (P : Point → Type 0) (xs : List (Interval Frac)) : Type 0 where
  pub stretches : All IsStretch xs
  pub ends : All (λ x. HasNoEndAt O e x.from x.to) xs
  pub exactly : (n m : ℤ) → pos 0 <ℤ n → n <ℤ m → O (share_point e.a e.b n m) → P (share_point e.a e.b n m) ↔ IsWithinAny xs n m

-- the same of the ordinary points of a plain view
abbrev pub AreWhere : Triple → {s : Part} → Edge s → (Point → Type 0) → List (Interval Frac) → Type 0
AreWhere d {s = s} e P xs = AreWhereAt (IsOrdinary d s) e P xs

-- the new list is the old one with such intervals
pub record AreAddedAt (O : Point → Type 0) {s : Part} (e : Edge s) (P : Point → Type 0) (old new : List (Interval Frac)) : Type 0 where
  pub added : List (Interval Frac)
  pub all : new ≡ old ++ added
  pub right : AreWhereAt O e P added

abbrev pub AreAdded : Triple → {s : Part} → Edge s → (Point → Type 0) → List (Interval Frac) → List (Interval Frac) → Type 0
AreAdded d {s = s} e P old new = AreAddedAt (IsOrdinary d s) e P old new

-- ---- from intervals to spans
-- n / m is an end of an interval
abbrev pub IsAtEnd : List (Interval Frac) → ℤ → ℤ → Type 0
IsAtEnd xs n m = (x : Interval Frac) × Contains xs x × (IsValue x.from n m ⊎ IsValue x.to n m)

-- 0, 1, or an end of an interval
abbrev pub IsIntervalEnd : List (Interval Frac) → Frac → Type 0
IsIntervalEnd xs r = (r.num ≡ pos 0) ⊎ (r.num ≡ r.den) ⊎ ((x : Interval Frac) × Contains xs x × (IsSame r x.from ⊎ IsSame r x.to))

-- the span tells exactly what is within the intervals, but for their ends
abbrev pub TellsWithin : List (Interval Frac) → Span → Type 0
TellsWithin xs x = (n m : ℤ) → pos 0 <ℤ m → IsBetween x.from x.to n m → ¬ IsAtEnd xs n m → IsTrue x.hidden ↔ IsWithinAny xs n m

pub record AreSpansOf (xs : List (Interval Frac)) (spans : List Span) : Type 0 where
  pub covers : CoverEdge spans
  pub ends : All (λ x. IsIntervalEnd xs x.from × IsIntervalEnd xs x.to) spans
  pub tells : All (TellsWithin xs) spans
  pub alternate : Alternate spans
