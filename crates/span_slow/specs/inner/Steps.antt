-- What each step does on the way from linears to intervals, and from intervals to spans.
use Rattle.std.specs.Prelude.{◌≡◌, ◌⊎◌, ◌↔◌, ℤ, pos, ◌<ℤ◌, ◌≤ℤ◌, Bool, List, [], ◌∷◌, ◌++◌, All, Contains}
use Rattle.exact_frac.specs.declared.Frac.{Frac}
use Rattle.hiding_laws.specs.Values.{value_at}
use Rattle.intervals.specs.declared.interval.Interval.{Interval}
use Rattle.span_slow.specs.declared.linear.Linear.{Linear}
use Rattle.lattice.specs.declared.spans.Span.{Span}
use Rattle.geometry.specs.Places.{IsPlace, IsEarlier, IsSame, IsBetween, IsFromTo}
use Rattle.geometry.specs.Spans.{Follow}
use Rattle.span_slow.specs.Spans.{Alternate}
use Rattle.span_slow.specs.inner.Hidden.{IsRootOrEnd}

-- the new interval is where the old one is and the value is at least 0
pub record IsClipped (old : Interval Frac) (v : Linear) (new : Interval Frac) : Type 0 where
  pub exactly : (n m : ℤ) → pos 0 <ℤ m → pos 0 ≤ℤ n → n ≤ℤ m → IsFromTo new.from new.to n m ↔ (IsFromTo old.from old.to n m × (pos 0 ≤ℤ value_at v.start v.end n m))
  pub from_end : IsSame new.from old.from ⊎ IsRootOrEnd (v ∷ []) new.from
  pub to_end : IsSame new.to old.to ⊎ IsRootOrEnd (v ∷ []) new.to
  pub from_place : IsPlace new.from
  pub to_place : IsPlace new.to

-- ---- what is added to a list
-- the span from one to the other, if it has an inside
abbrev pub IsSpanAdded : Frac → Frac → Bool → List Span → List Span → Type 0
IsSpanAdded from to hidden old new =
    (IsEarlier from to × ((x : Span) × IsSame x.from from × IsSame x.to to × (x.hidden ≡ hidden) × (new ≡ old ++ x ∷ []))) ⊎ ((¬ IsEarlier from to) × (new ≡ old))

-- ---- what of spans is within a part of the edge
-- the later of two places; the first where they are equal
abbrev pub IsLaterOf : Frac → Frac → Frac → Type 0
IsLaterOf a b r = (IsEarlier a b × IsSame r b) ⊎ ((¬ IsEarlier a b) × IsSame r a)

-- the earlier of two places; the first where they are equal
abbrev pub IsEarlierOf : Frac → Frac → Frac → Type 0
IsEarlierOf a b r = (IsEarlier b a × IsSame r b) ⊎ ((¬ IsEarlier b a) × IsSame r a)

-- what of the span is within the part, if that has an inside
abbrev pub IsClippedAdded : Interval Frac → Span → List Span → List Span → Type 0
IsClippedAdded part x old new = (from : Frac) × (to : Frac) × IsLaterOf part.from x.from from × IsEarlierOf part.to x.to to × IsSpanAdded from to x.hidden old new

-- an end of the part, or an end of the span strictly inside the part
abbrev pub IsClippedEnd : Interval Frac → Span → Frac → Type 0
IsClippedEnd part x r = (IsSame r part.from ⊎ IsSame r part.to) ⊎ (IsBetween part.from part.to r.num r.den × (IsSame r x.from ⊎ IsSame r x.to))

-- y tells of a part of the edge what x tells
pub record IsClippedSpan (part : Interval Frac) (x y : Span) : Type 0 where
  pub within : (n m : ℤ) → pos 0 <ℤ m → IsBetween y.from y.to n m → IsBetween x.from x.to n m × IsBetween part.from part.to n m
  pub ends : IsClippedEnd part x y.from × IsClippedEnd part x y.to
  pub same_hidden : y.hidden ≡ x.hidden

-- they follow one another over the part, each within one of the spans, and neighbours differ
pub record AreClipped (part : Interval Frac) (spans clipped : List Span) : Type 0 where
  pub covers : Follow part.from clipped part.to
  pub each : All (λ y. (x : Span) × Contains spans x × IsClippedSpan part x y) clipped
  pub alternate : Alternate clipped
