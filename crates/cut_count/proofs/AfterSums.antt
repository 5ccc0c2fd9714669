-- Sums of what changes after a place: they are those over all less those before it, and the section's changes, which go on in turn, are told by what it is at the end.
use Rattle.std.proofs.Common.{◌≡◌, ◌≢◌, ◌⊎◌, inl, inr, Bool, true, false, List, [], ◌∷◌, Contains, refl, sym, ap, ◌∙◌, arith}
use Rattle.std.specs.Prelude.{ℤ, pos, ◌+ℤ◌, ◌-ℤ◌, ◌*ℤ◌, ◌<ℤ◌}
use Rattle.std.specs.Int.Signed.{lt_z}
use Rattle.std.specs.List.Sorted.{IsSortedByKey}
use Rattle.std.proofs.lemmas.Int.{ints, by_lt_z}
use Rattle.integers.proofs.Comparisons.{at_most_of_less, same_of_both}
use Rattle.integers.proofs.Lists.{Contains-later}
use Rattle.integers.proofs.Orders.{lt_z_of_less, lt_z_of_at_most}
use Rattle.exact_frac.specs.declared.Frac.{Frac}
use Rattle.exact_frac.specs.Frac.{order_of}
use Rattle.geometry.specs.Counts.{Side}
use Rattle.hiding_laws.specs.Sums.{total}
use Rattle.hiding_laws.proofs.SumsBelow.{keep}
use Rattle.cross_find.specs.declared.meter.Crossing.{Crossing}
use Rattle.cut_plane.proofs.Xors.{xor, xor-none, xor-twice, xor-assoc, xor-across, odd_in}
use Rattle.span_count.specs.Carries.{change_before}
use Rattle.cut_count_laws.proofs.SectionSums.{worth, both, section_sums, front_of_sorted}
use Rattle.cut_count.specs.declared.found.CrossingBorder.{CrossingBorder}
use Rattle.cut_count.specs.inner.Walks.{odd_turns, AreSectionCrossings}
use Rattle.cut_count.proofs.SectionTotals.{section_before, section_whole}
use Rattle.cut_count.proofs.WalkLaws.{share_to, turns_to, change_to, odd_to}

-- ---- before a place and after it
module _ (n m : ℤ) where
  abbrev pub is_before : Frac → Bool
  is_before r = lt_z (r.num *ℤ m) (n *ℤ r.den)

  abbrev pub is_after : Frac → Bool
  is_after r = lt_z (n *ℤ r.den) (r.num *ℤ m)

  -- what isn't there is before it or after it
  pub apart_tests : (r : Frac) → r.num *ℤ m ≢ n *ℤ r.den → ((is_before r ≡ true) × (is_after r ≡ false)) ⊎ ((is_before r ≡ false) × (is_after r ≡ true))
  apart_tests r apart = by_lt_z (r.num *ℤ m) (n *ℤ r.den)
      (λ h. inl (lt_z_of_less _ _ h, lt_z_of_at_most _ _ (at_most_of_less _ _ h)))
      (λ h. by_lt_z (n *ℤ r.den) (r.num *ℤ m)
      (λ g. inr (lt_z_of_at_most _ _ h, lt_z_of_less _ _ g))
      (λ g. absurd (apart (same_of_both _ _ g h))))

-- ---- sums in two parts
module _ {A : Type 0} (before after : A → Bool) where
  -- the number is kept by one of the two tests
  abbrev pub IsKeptOnce : ℤ → A → Type 0
  IsKeptOnce z x = keep (before x) z +ℤ keep (after x) z ≡ z

  abbrev pub IsOddOnce : Bool → A → Type 0
  IsOddOnce b x = xor (both (before x) b) (both (after x) b) ≡ b

  pub kept_once : (x : A) → ((before x ≡ true) × (after x ≡ false)) ⊎ ((before x ≡ false) × (after x ≡ true)) → (z : ℤ) → IsKeptOnce z x
  kept_once x (inl (e, g)) z = (λ i. keep (e i) z +ℤ keep (g i) z) ∙ last z
    where
      last : (z : ℤ) → z +ℤ pos 0 ≡ z
      last z = omega (arith, ints)
  kept_once x (inr (e, g)) z = (λ i. keep (e i) z +ℤ keep (g i) z) ∙ first z
    where
      first : (z : ℤ) → pos 0 +ℤ z ≡ z
      first z = omega (arith, ints)

  pub odd_once : (x : A) → ((before x ≡ true) × (after x ≡ false)) ⊎ ((before x ≡ false) × (after x ≡ true)) → (b : Bool) → IsOddOnce b x
  odd_once x (inl (e, g)) b = (λ i. xor (both (e i) b) (both (g i) b)) ∙ xor-none b
  odd_once x (inr (e, g)) b = λ i. xor (both (e i) b) (both (g i) b)

  pub none_once : (x : A) → IsKeptOnce (pos 0) x × IsOddOnce false x
  none_once x = (by (before x) (after x), by_odd (before x) (after x))
    where
      by : (v w : Bool) → keep v (pos 0) +ℤ keep w (pos 0) ≡ pos 0
      by true true = refl
      by true false = refl
      by false true = refl
      by false false = refl

      by_odd : (v w : Bool) → xor (both v false) (both w false) ≡ false
      by_odd true true = refl
      by_odd true false = refl
      by_odd false true = refl
      by_odd false false = refl

  pub total_split : (value : A → ℤ) (xs : List A) → ((x : A) → Contains xs x → IsKeptOnce (value x) x) → total value xs ≡ total (λ x. keep (before x) (value x)) xs +ℤ total (λ x. keep (after x) (value x)) xs
  total_split value [] once = refl
  total_split value (x ∷ xs) once =
      more (value x) (keep (before x) (value x)) (keep (after x) (value x)) (total value xs) (total (λ x. keep (before x) (value x)) xs) (total (λ x. keep (after x) (value x)) xs)
      (once x (0, omega arith, refl)) (total_split value xs (λ y there. once y (Contains-later x xs y there)))
    where
      more : (x a b s t u : ℤ) → a +ℤ b ≡ x → s ≡ t +ℤ u → x +ℤ s ≡ (a +ℤ t) +ℤ (b +ℤ u)
      more x a b s t u e g = omega (arith, ints)

  pub odd_split : (flips : A → Bool) (xs : List A) → ((x : A) → Contains xs x → IsOddOnce (flips x) x) → odd_in flips xs ≡ xor (odd_in (λ x. both (before x) (flips x)) xs) (odd_in (λ x. both (after x) (flips x)) xs)
  odd_split flips [] once = refl
  odd_split flips (x ∷ xs) once =
      (λ i. xor (sym (once x (0, omega arith, refl)) i) (odd_split flips xs (λ y there. once y (Contains-later x xs y there)) i))
      ∙ xor-across (both (before x) (flips x)) (both (after x) (flips x)) (odd_in (λ x. both (before x) (flips x)) xs) (odd_in (λ x. both (after x) (flips x)) xs)

-- ---- the borders as crossings
abbrev own_to : Side → CrossingBorder → ℤ
own_to k x = (share_to k x).own

odd_turns_is : (turns : CrossingBorder → Bool) (xs : List CrossingBorder) → odd_turns turns xs ≡ odd_in turns xs
odd_turns_is turns [] = refl
odd_turns_is turns (x ∷ xs) = ap (xor (turns x)) (odd_turns_is turns xs)

module _ (k : Side) (n m : ℤ) (there : pos 0 <ℤ m) (left right odd : Bool) (xs : List CrossingBorder) (ys : List Crossing) (sorted : IsSortedByKey (λ (x : CrossingBorder). x.at) order_of xs)
    (crossings : AreSectionCrossings left right xs ys) (first : odd_to k left right ≡ xor odd (odd_turns (turns_to k) xs))
    (apart : (x : CrossingBorder) → Contains xs x → ((own_to k x ≡ pos 0) × (turns_to k x ≡ false)) ⊎ (x.at.num *ℤ m ≢ n *ℤ x.at.den)) where
  abbrev before : CrossingBorder → Bool
  before x = is_before n m x.at

  abbrev after : CrossingBorder → Bool
  after x = is_after n m x.at

  abbrev start : Bool
  start = odd_to k left right

  abbrev turned_before : Bool
  turned_before = odd_in (λ x. both (before x) (turns_to k x)) xs

  abbrev turned_after : Bool
  turned_after = odd_in (λ x. both (after x) (turns_to k x)) xs

  once : (x : CrossingBorder) → ((own_to k x ≡ pos 0) × (turns_to k x ≡ false)) ⊎ (x.at.num *ℤ m ≢ n *ℤ x.at.den) → IsKeptOnce before after (own_to k x) x × IsOddOnce before after (turns_to k x) x
  once x (inl (nil, keeps)) =
      let none = none_once before after x in
      (ap (λ z. keep (before x) z +ℤ keep (after x) z) nil ∙ none.0 ∙ sym nil, ap (λ b. xor (both (before x) b) (both (after x) b)) keeps ∙ none.1 ∙ sym keeps)
  once x (inr far) = let sides = apart_tests n m x.at far in (kept_once before after x sides (own_to k x), odd_once before after x sides (turns_to k x))

  own_total : total (own_to k) xs ≡ total (λ x. keep (before x) (own_to k x)) xs +ℤ total (λ x. keep (after x) (own_to k x)) xs
  own_total = total_split before after (own_to k) xs (λ x there. (once x (apart x there)).0)

  turns_split : odd_in (turns_to k) xs ≡ xor turned_before turned_after
  turns_split = odd_split before after (turns_to k) xs (λ x there. (once x (apart x there)).1)

  start_is : start ≡ xor odd (odd_in (turns_to k) xs)
  start_is = first ∙ ap (xor odd) (odd_turns_is (turns_to k) xs)

  at_end : xor start (odd_in (turns_to k) xs) ≡ odd
  at_end =
      ap (λ b. xor b (odd_in (turns_to k) xs)) start_is ∙ xor-assoc odd (odd_in (turns_to k) xs) (odd_in (turns_to k) xs)
      ∙ ap (xor odd) (xor-twice (odd_in (turns_to k) xs)) ∙ xor-none odd

  at_place : xor start turned_before ≡ xor odd turned_after
  at_place =
      ap (λ b. xor b turned_before) start_is ∙ xor-assoc odd (odd_in (turns_to k) xs) turned_before
      ∙ ap (λ b. xor odd (xor b turned_before)) turns_split ∙ ap (xor odd) (other turned_before turned_after)
    where
      other : (v w : Bool) → xor (xor v w) v ≡ w
      other false w = xor-none w
      other true false = refl
      other true true = refl

  all_is : total (change_to k) ys ≡ total (own_to k) xs +ℤ (worth odd -ℤ worth start)
  all_is = section_whole k left right xs ys crossings ∙ ap (λ b. total (own_to k) xs +ℤ (worth b -ℤ worth start)) at_end

  before_is : total (change_before (change_to k) n m) ys ≡ total (λ x. keep (before x) (own_to k x)) xs +ℤ (worth (xor odd turned_after) -ℤ worth start)
  before_is =
      section_before k left right xs ys crossings n m
      ∙ ap (λ z. total (λ x. keep (before x) (own_to k x)) xs +ℤ z)
      (section_sums (turns_to k) before start xs (front_of_sorted (λ (x : CrossingBorder). x.at) n m there xs sorted) ∙ ap (λ b. worth b -ℤ worth start) at_place)

  -- what the borders change in all is what they change before the place, what the faces change after it, and the section
  pub section_total : total (change_to k) ys ≡ total (change_before (change_to k) n m) ys +ℤ (total (λ x. keep (after x) (own_to k x)) xs +ℤ (worth odd -ℤ worth (xor odd turned_after)))
  section_total =
      together (total (change_to k) ys) (total (own_to k) xs) (worth odd) (worth start) (total (change_before (change_to k) n m) ys)
      (total (λ x. keep (before x) (own_to k x)) xs) (worth (xor odd turned_after)) (total (λ x. keep (after x) (own_to k x)) xs) all_is before_is own_total
    where
      together : (c o w w' b ob v oa : ℤ) → c ≡ o +ℤ (w -ℤ w') → b ≡ ob +ℤ (v -ℤ w') → o ≡ ob +ℤ oa → c ≡ b +ℤ (oa +ℤ (w -ℤ v))
      together c o w w' b ob v oa e g h = omega (arith, ints)
