-- Segments that run along hatch lines, and what they cover.
use Rattle.std.proofs.Common.{◌≡◌, inl, inr, ℕ, ◌≤◌, List, [], ◌∷◌, ◌++◌, Contains, refl, sym, ap, ◌∙◌, arith}
use Rattle.std.specs.Prelude.{if◌then◌else◌, ℤ, pos, ◌*ℤ◌, ◌<ℤ◌, ◌≤ℤ◌}
use Rattle.std.specs.List.{All}
use Rattle.std.specs.Ordering.{int_cmp, is_lt, ordering_reverse, ordering_then}
use Rattle.std.specs.declared.cmp.Ordering.{Ordering}
use Rattle.std.specs.declared.cmp.Ordering.TheVariants.{Less, Equal, Greater}
use Rattle.std.proofs.lemmas.Int.{ints, by_lt_z}
use Rattle.std.proofs.lemmas.List.Elements.{All-push, All-append, Contains-push, Contains-append_left, Contains-append_right}
use Rattle.integers.proofs.Comparisons.{at_most_of_same, same_of_both, at_most_itself}
use Rattle.integers.proofs.Orders.{mul_less, equal_of_cmp}
use Rattle.exact_frac.specs.Frac.{order_of}
use Rattle.intervals.specs.declared.interval.Interval.{Interval}
use Rattle.lattice.specs.Triple.{Triple}
use Rattle.cut_plane.specs.declared.segments.Segment.{Segment}
use Rattle.hatch_fill.specs.declared.places.HatchPlace.{HatchPlace}
use Rattle.hatch_fill.proofs.PlaceOrders.{place_order_total}
use Rattle.hatch_fill.specs.inner.Numbers.{IsFirstNumber}
use Rattle.hatch_fill.specs.inner.Places.{place_order}
use Rattle.hatch_fill.specs.inner.Stretches.{between, AreEndsAlong, IsStretchOf, HasStretch, AreStretches}
use Rattle.hatch_fill.proofs.MeetingLists.{numbers_apart}

-- the first number from a U - V on that a hatch line has is that line's
pub first_is : (n w : ℤ) (spacing : ℕ) (first number : ℤ) → 1 ≤ spacing → pos 0 <ℤ w → IsFirstNumber n w spacing first → n ≡ (number *ℤ pos spacing) *ℤ w → first ≡ number
first_is n w spacing first number some positive h e = same_of_both first number ((h number).1 (at_most_of_same n _ e)) (by_lt_z first number (λ l. absurd (none l)) (λ l. l))
  where
    apart : (a b c : ℤ) → a ≡ b → a ≤ℤ c → c <ℤ b → ⊥
    apart a b c e f g = omega (arith, ints)

    none : first <ℤ number → ⊥
    none l = apart n ((number *ℤ pos spacing) *ℤ w) ((first *ℤ pos spacing) *ℤ w) e ((h first).0 (at_most_itself first)) (mul_less (first *ℤ pos spacing) (number *ℤ pos spacing) w positive (numbers_apart first number spacing some l))

-- ---- the interval between two places, if it has an inside
pub by_less : (s t : HatchPlace) (P : List (Interval HatchPlace) → Type 0) → (place_order s t ≡ Less → P (record { from = s; to = t } ∷ [])) → (¬ (place_order s t ≡ Less) → P []) → P (between s t)
by_less s t P does not = by (place_order s t) does not
  where
    by : (r : Ordering) → (r ≡ Less → P (record { from = s; to = t } ∷ [])) → (¬ (r ≡ Less) → P []) → P (if is_lt r then record { from = s; to = t } ∷ [] else [])
    by Less f g = f refl
    by Equal f g = g (λ e. cc)
    by Greater f g = g (λ e. cc)

all_none : (P : Interval HatchPlace → Type 0) → All P []
all_none P k e less = absurd (omega arith)

all_one : (P : Interval HatchPlace → Type 0) (i : Interval HatchPlace) → P i → All P (i ∷ [])
all_one P i h = All-push P [] i (all_none P) h

module _ (d : Triple) (spacing : ℕ) (x : Segment) where
  pub no_stretches : ¬ HasStretch d spacing x → AreStretches d spacing x []
  no_stretches none = record { each = all_none (IsStretchOf d spacing x); all = λ h. absurd (none h) }

  module _ (a b : HatchPlace) (ends : AreEndsAlong d spacing x a b) where
    forward : All (IsStretchOf d spacing x) (between a b)
    forward = by_less a b (All (IsStretchOf d spacing x)) (λ e. all_one (IsStretchOf d spacing x) (record { from = a; to = b }) (record { proper = e; ends = inl ends })) (λ n. all_none (IsStretchOf d spacing x))

    backward : All (IsStretchOf d spacing x) (between b a)
    backward = by_less b a (All (IsStretchOf d spacing x)) (λ e. all_one (IsStretchOf d spacing x) (record { from = b; to = a }) (record { proper = e; ends = inr ends })) (λ n. all_none (IsStretchOf d spacing x))

    some_of : (s t : HatchPlace) → place_order s t ≡ Less → (i : Interval HatchPlace) × Contains (between s t) i
    some_of s t e = by_less s t (λ is. (i : Interval HatchPlace) × Contains is i) (λ f. (record { from = s; to = t }, Contains-push [] (record { from = s; to = t }))) (λ n. absurd (n e))

    not_same : HasStretch d spacing x → place_order a b ≡ Equal → ⊥
    not_same h e =
        h.apart ((λ i. sym ends.first.num i *ℤ sym ends.second.den i)
        ∙ equal_of_cmp (a.across.num *ℤ b.across.den) (b.across.num *ℤ a.across.den) (second_equal (int_cmp a.diagonal b.diagonal) (order_of a.across b.across) e)
        ∙ (λ i. ends.second.num i *ℤ ends.first.den i))
      where
        second_equal : (r s : Ordering) → ordering_then r s ≡ Equal → s ≡ Equal
        second_equal Less s f = cc
        second_equal Equal s f = f
        second_equal Greater s f = cc

    found : HasStretch d spacing x → (i : Interval HatchPlace) × Contains (between a b ++ between b a) i
    found h = by (place_order a b) refl
      where
        by : (r : Ordering) → place_order a b ≡ r → (i : Interval HatchPlace) × Contains (between a b ++ between b a) i
        by Less e = let (i, there) = some_of a b e in (i, Contains-append_left (between a b) (between b a) i there)
        by Equal e = absurd (not_same h e)
        by Greater e = let (i, there) = some_of b a (place_order_total.antisymm b a ∙ ap ordering_reverse e) in (i, Contains-append_right (between a b) (between b a) i there)

    pub both_ways : AreStretches d spacing x (between a b ++ between b a)
    both_ways = record { each = All-append (IsStretchOf d spacing x) (between a b) (between b a) forward backward; all = found }
