-- Counts that are carried along a part of an edge, over crossings.
use Rattle.std.specs.Prelude.{◌≡◌, ◌⊎◌, ℕ, ◌<◌, ◌^◌, ℤ, pos, neg_ℤ, ◌+ℤ◌, ◌*ℤ◌, ◌<ℤ◌, ◌≤ℤ◌, cond, List, All, Contains}
use Rattle.std.specs.Int.Signed.{lt_z}
use Rattle.exact_frac.specs.declared.Frac.{Frac}
use Rattle.geometry.specs.Places.{IsSame, IsBetween}
use Rattle.hiding_laws.specs.Sums.{total}
use Rattle.cross_find.specs.declared.meter.Crossing.{Crossing}
use Rattle.span_count.specs.declared.span.CountSpan.{CountSpan}
use Rattle.span_count.specs.declared.step.Sides.{Sides}
use Rattle.span_count.specs.CountSpans.{Follow}

-- far within the limits of 64 bits
abbrev pub IsSmall : ℤ → Type 0
IsSmall z = (neg_ℤ (pos (2 ^ 45)) ≤ℤ z) × (z ≤ℤ pos (2 ^ 45))

pub record AreSmall (c : Sides) : Type 0 where
  pub left : IsSmall c.left
  pub right : IsSmall c.right

-- the change at a crossing, if it is before the place n / m
abbrev pub change_before : (Crossing → ℤ) → ℤ → ℤ → Crossing → ℤ
change_before change n m x = cond (lt_z (x.at.num *ℤ m) (n *ℤ x.at.den)) (change x) (pos 0)

-- what a sum is as a count
abbrev pub IsCountOf : ℤ → ℕ → Type 0
IsCountOf z n = (c : ℕ) → c < 2 ^ 32 → z ≡ pos c → n ≡ c

-- strictly between the two places, n is the first count with the changes that are before
abbrev pub IsCarried : (Crossing → ℤ) → List Crossing → ℤ → Frac → Frac → ℕ → Type 0
IsCarried change crossings first from to count = (n m : ℤ) → pos 0 <ℤ m → IsBetween from to n m → IsCountOf (first +ℤ total (change_before change n m) crossings) count

-- one of the two places, or that of a crossing
abbrev pub IsCrossingEnd : Frac → Frac → List Crossing → Frac → Type 0
IsCrossingEnd from to crossings r = IsSame r from ⊎ IsSame r to ⊎ ((x : Crossing) × Contains crossings x × IsSame r x.at)

-- the spans between the crossings, from the one place to the other, with these counts before all crossings
pub record AreCarried (from to : Frac) (crossings : List Crossing) (left right : ℤ) (spans : List CountSpan) : Type 0 where
  pub covers : Follow from spans to
  pub ends : All (λ x. IsCrossingEnd from to crossings x.from × IsCrossingEnd from to crossings x.to) spans
  pub on_left : All (λ x. IsCarried (λ y. y.left) crossings left x.from x.to x.left) spans
  pub on_right : All (λ x. IsCarried (λ y. y.right) crossings right x.from x.to x.right) spans
