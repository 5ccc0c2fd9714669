-- The places at which a section's borders cross an edge, in order: between two neighbours nothing crosses, and no place is at an ordinary point.
use Rattle.std.proofs.Common.{◌≡◌, ◌⊎◌, inl, inr, ⊎_elim, ℕ, ◌+◌, ◌<◌, ◌≤◌, List, [], ◌∷◌, All, Contains, length, get_or, is_lt, refl, sym, subst, ◌∙◌, arith}
use Rattle.std.specs.Prelude.{ℤ, pos, ◌+ℤ◌, ◌-ℤ◌, ◌*ℤ◌, ◌<ℤ◌, ◌≤ℤ◌, ◌↔◌, IsPermutation}
use Rattle.std.specs.List.Sorted.{IsSorted}
use Rattle.std.specs.Cmp.{int_cmp_is}
use Rattle.std.specs.declared.cmp.Ordering.TheVariants.{Less}
use Rattle.std.proofs.lemmas.Bool.{cases_lt}
use Rattle.std.proofs.lemmas.Int.{ints}
use Rattle.std.proofs.lemmas.List.{get_or_default}
use Rattle.std.proofs.lemmas.List.MinMax.{ranks_by}
use Rattle.std.proofs.lemmas.List.Sorted.{sorted_far, All-permutation, Contains-permutation}
use Rattle.std.proofs.lemmas.List.Elements.{All-contains}
use Rattle.integers.proofs.Comparisons.{gap_of_at_most, less_not_at_most, at_most_of_less, at_most_of_same, at_most_of_gap}
use Rattle.integers.proofs.Ring.{var, ◌⊖◌, ◌⊗◌, ring}
use Rattle.integers.proofs.Signs.{mul_nonneg}
use Rattle.exact_frac.specs.declared.Frac.{Frac}
use Rattle.exact_frac.specs.Frac.{order_of}
use Rattle.exact_frac.specs.Laws.{order_of_total}
use Rattle.intervals.proofs.Orders.{not_less}
use Rattle.lattice.specs.Triangles.{IsBelow}
use Rattle.lattice.specs.Cuts.{Plane, toward_of}
use Rattle.geometry.specs.Faces.{share_point}
use Rattle.geometry.specs.Parts.{Part, Face, Edge, IsClosed}
use Rattle.geometry.specs.Cuts.{IsInSection}
use Rattle.hiding_laws.proofs.CutPlanes.{ordinary-in-plain}
use Rattle.hiding_laws.proofs.FrontEnds.{not-at-start, not-at-finish}
use Rattle.cut_plane.specs.Crossings.{CrossesAt, IsShort, AreCrossings}
use Rattle.cut_plane.proofs.Between.{section_between, crossing_not_ordinary}
use Rattle.cut_plane.proofs.FoundCrossings.{crosses_same}
use Rattle.geometry.specs.Places.{IsEarlier, IsBetween}
use Rattle.span_slow.specs.inner.CutHidden.{IsOrdinaryBeyond}
use Rattle.span_slow.specs.inner.Sections.{mediant_point, IsApartFrom}
use Rattle.geometry.proofs.PlaceOrder.{less_most, most_less, IsNotLater, not_later_of_not, between_inner, between_last, zero_value, one_value, zero_not_later, mediant_between}

-- ---- the places in order
-- no place is strictly between the two
abbrev pub AreNeighbours : List Frac → Frac → Frac → Type 0
AreNeighbours places from to = (r : Frac) → Contains places r → IsNotLater r from ⊎ IsNotLater to r

-- no place before number k is later, and none from there on is earlier
abbrev pub IsReached : List Frac → ℕ → Frac → Type 0
IsReached places k from = (j : ℕ) (d : Frac) → j < length places → (j < k → IsNotLater (get_or places j d) from) × (k ≤ j → IsNotLater from (get_or places j d))

pub reached_start : (places : List Frac) → All IsShort places → (from : Frac) → from.num ≡ pos 0 → IsReached places 0 from
reached_start places short from zero j d h = (
  (λ less. absurd (omega arith)),
  (λ most. zero_not_later from (get_or places j d) zero (short j d h).least),
)

module _ (places : List Frac) (up : IsSorted order_of places) where
  far : (i j : ℕ) (d : Frac) → i ≤ j → j < length places → IsNotLater (get_or places i d) (get_or places j d)
  far i j d order within =
      let sooner = get_or places i d in
      let later = get_or places j d in
      not_later_of_not later sooner (λ less.
      not_less (order_of later sooner) (sorted_far (λ (x y : Frac). is_lt (order_of x y)) (ranks_by order_of_total (λ (x : Frac). x)) places up i j d order within)
      (sym (int_cmp_is (later.num *ℤ sooner.den) (sooner.num *ℤ later.den) Less less)))

  module _ (k : ℕ) (x : Frac) (within : k < length places) (at : get_or places k x ≡ x) where
    here : (d : Frac) → get_or places k d ≡ x
    here d = sym (get_or_default places k x d within) ∙ at

    pub reached_next : IsReached places (k + 1) x
    reached_next j d h = (
      (λ less. subst (λ (y : Frac). IsNotLater (get_or places j d) y) (here d) (far j k d (omega arith) within)),
      (λ most. subst (λ (y : Frac). IsNotLater y (get_or places j d)) (here d) (far k j d (omega arith) h)),
    )

    pub neighbours : (from : Frac) → IsReached places k from → AreNeighbours places from x
    neighbours from reached r (j, h, is) = by (cases_lt j k)
      where
        by : (j < k) ⊎ (k ≤ j) → IsNotLater r from ⊎ IsNotLater x r
        by (inl less) = inl (subst (λ (y : Frac). IsNotLater y from) is ((reached j r h).0 less))
        by (inr most) = inr (subst (λ (y : Frac). IsNotLater x y) is (subst (λ (y : Frac). IsNotLater y (get_or places j r)) (here r) (far k j r most h)))

    pub not_earlier : (from : Frac) → IsReached places k from → IsNotLater from x
    not_earlier from reached = subst (λ (y : Frac). IsNotLater from y) at ((reached k x within).1 (omega arith))

-- once all places are reached, none is between the last of them and any other
pub neighbours_last : (places : List Frac) (k : ℕ) (from to : Frac) → length places ≤ k → IsReached places k from → AreNeighbours places from to
neighbours_last places k from to all reached r (j, h, is) = inl (subst (λ (y : Frac). IsNotLater y from) is ((reached j r h).0 (omega arith)))

-- a place is at most 1
pub not_after_finish : (x to : Frac) → x.num ≤ℤ x.den → to.num ≡ to.den → IsNotLater x to
not_after_finish x to most one = subst (λ v. (x.num *ℤ to.den) ≤ℤ (v *ℤ x.den)) (sym one) (by_den x.num x.den to.den (at_most_of_less _ _ to.positive) most)
  where
    by_den : (n m l : ℤ) → pos 0 ≤ℤ l → n ≤ℤ m → (n *ℤ l) ≤ℤ (l *ℤ m)
    by_den n m l up h = at_most_of_gap (n *ℤ l) (l *ℤ m) (subst (λ v. pos 0 ≤ℤ v) (ring (n ∷ m ∷ l ∷ []) (var 2 ⊗ (var 1 ⊖ var 0)) ((var 2 ⊗ var 1) ⊖ (var 0 ⊗ var 2)) refl) (mul_nonneg l (m -ℤ n) up (gap_of_at_most n m h)))

-- ---- the ends of the edge, and the crossings
pub crossings_moved : (c : Plane) {s : Part} (e : Edge s) (places sorted : List Frac) → IsPermutation places sorted → AreCrossings c e places → AreCrossings c e sorted
crossings_moved c {s} e places sorted moved are = record {
  each = All-permutation (λ (r : Frac). IsShort r × ((f : Face s) × CrossesAt c f e r.num r.den)) places sorted moved are.each;
  all = λ f n m up least most crosses. let found = are.all f n m up least most crosses in (found.0, Contains-permutation places sorted found.0 moved found.1, found.2);
}

module _ (c : Plane) (s : Part) (e : Edge s) where
  pub start_apart : (r : Frac) → r.num ≡ pos 0 → IsApartFrom (IsOrdinaryBeyond c s) e r
  start_apart r zero n m up least most same (ordinary, beyond) = not-at-start (toward_of c) s e n m up least most (zero_value r n m zero same) (ordinary-in-plain c s (share_point e.a e.b n m) ordinary)

  pub finish_apart : (r : Frac) → r.num ≡ r.den → IsApartFrom (IsOrdinaryBeyond c s) e r
  finish_apart r one n m up least most same (ordinary, beyond) = not-at-finish (toward_of c) s e n m up least most (one_value r n m one same) (ordinary-in-plain c s (share_point e.a e.b n m) ordinary)

  module _ (places : List Frac) (are : AreCrossings c e places) where
    pub crossing_apart : (r : Frac) → Contains places r → IsApartFrom (IsOrdinaryBeyond c s) e r
    crossing_apart r listed n m up least most same (ordinary, beyond) =
        let (short, (f, crosses)) = All-contains (λ (r : Frac). IsShort r × ((f : Face s) × CrossesAt c f e r.num r.den)) places r are.each listed in
        crossing_not_ordinary c s e f n m up least most (crosses_same c f e r.num r.den n m r.positive (sym same) crosses) ordinary

    module _ (from to : Frac) (least : pos 0 ≤ℤ from.num) (most : to.num ≤ℤ to.den) (next : AreNeighbours places from to) where
      none_between : (f : Face s) (i j : ℤ) → pos 0 <ℤ j → (from.num *ℤ j) <ℤ (i *ℤ from.den) → (i *ℤ to.den) <ℤ (to.num *ℤ j) → ¬ CrossesAt c f e i j
      none_between f i j up after before crosses =
          let (r, listed, same) = are.all f i j up (at_most_of_less _ _ (between_inner from to i j up (after, before) least)) (at_most_of_less _ _ (between_last from to i j up (after, before) most)) crosses in
          ⊎_elim
          (λ early. less_not_at_most (from.num *ℤ r.den) (r.num *ℤ from.den) (less_most from.num from.den i j r.num r.den from.positive up r.positive after (at_most_of_same _ _ same)) early)
          (λ late. less_not_at_most (r.num *ℤ to.den) (to.num *ℤ r.den) (most_less r.num r.den i j to.num to.den r.positive up to.positive (at_most_of_same _ _ (sym same)) before) late)
          (next r listed)

      -- so all points there are in the section if the mediant's is
      pub alike_between : IsClosed s → All (IsBelow (length s.corners)) s.triangles → IsEarlier from to → (n m : ℤ) → pos 0 <ℤ m → IsBetween from to n m
          → IsInSection c s (share_point e.a e.b n m) ↔ IsInSection c s (mediant_point e from to)
      alike_between closed in_range earlier n m up between =
          let middle = mediant_between from to earlier in
          section_between c s closed in_range e from.num from.den to.num to.den from.positive to.positive none_between
          n m (from.num +ℤ to.num) (from.den +ℤ to.den) up (sum from.den to.den from.positive to.positive) between.0 between.1 middle.0 middle.1
        where
          sum : (x y : ℤ) → pos 0 <ℤ x → pos 0 <ℤ y → pos 0 <ℤ (x +ℤ y)
          sum x y h k = omega (arith, ints)
