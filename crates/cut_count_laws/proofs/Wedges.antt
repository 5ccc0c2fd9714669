-- A way is to the right of a place on a line where it crosses the line after the place, but for its ends between the two half-lines.
use Rattle.std.proofs.Common.{◌≡◌, Bool, true, false, [], ◌∷◌, refl, sym, ap, ◌∙◌, arith}
use Rattle.std.specs.Prelude.{ℤ, pos, ◌+ℤ◌, ◌-ℤ◌, ◌*ℤ◌, ◌<ℤ◌, ◌≤ℤ◌, cond}
use Rattle.std.specs.Int.Signed.{lt_z}
use Rattle.std.proofs.lemmas.Int.{ints, by_lt_z}
use Rattle.integers.proofs.Comparisons.{at_most_of_less, negation_positive, negation_not_negative, zero_between}
use Rattle.integers.proofs.Orders.{lt_z_of_less, lt_z_of_at_most}
use Rattle.integers.proofs.Ring.{var, con, ◌⊕◌, ◌⊖◌, ◌⊗◌, ring, by_one, by_two, by_three, same_of_gap}
use Rattle.integers.proofs.Signs.{mul_nonneg, mul_pos, mul_nonpos_first, nonneg_of_mul, zero_of_mul}
use Rattle.geometry.specs.Counts.{Side, to_left, to_right}
use Rattle.cut_plane.proofs.Lies.{up_down, down_down, nonpos_of_mul, same_first}
use Rattle.cut_plane.proofs.Planes.{seen, rights, aboves, turns}
use Rattle.cut_plane.proofs.Sights.{Sight, right_by, above_by, turn_of, counts}
use Rattle.cut_plane.proofs.Tested.{less_of, most_of, same_test}
use Rattle.cut_plane.proofs.Xors.{xor, xor-twice, xor-comm}
use Rattle.cut_count_laws.proofs.Rays.{is_marked, in_level_wedge, IsOnWay}
use Rattle.cut_count_laws.proofs.Laws.{WedgeLaw}

-- ---- truth values
-- the one differs from the other
abbrev pub Differ : Bool → Bool → Type 0
Differ false false = ⊥
Differ false true = Unit {0}
Differ true false = Unit {0}
Differ true true = ⊥

same_plain : (v w : Bool) → v ≡ w → xor v w ≡ false
same_plain v w e = ap (λ u. xor u w) e ∙ xor-twice w

same_second : (v w : Bool) → v ≡ w → xor v (xor w false) ≡ false
same_second v w e = ap (λ u. xor u (xor w false)) e ∙ by w
  where
    by : (w : Bool) → xor w (xor w false) ≡ false
    by false = refl
    by true = refl

same_inner : (v w : Bool) → v ≡ w → xor (xor v false) w ≡ false
same_inner v w e = ap (λ u. xor (xor u false) w) e ∙ by w
  where
    by : (w : Bool) → xor (xor w false) w ≡ false
    by false = refl
    by true = refl

none_outer : (v : Bool) → xor (xor v v) false ≡ false
none_outer v = ap (λ u. xor u false) (xor-twice v)

regrouped : (v w : Bool) → xor (xor v false) (xor w true) ≡ xor (xor v w) true
regrouped false false = refl
regrouped false true = refl
regrouped true false = refl
regrouped true true = refl

regrouped_back : (v w : Bool) → xor (xor v false) (xor true w) ≡ xor (xor v w) true
regrouped_back false false = refl
regrouped_back false true = refl
regrouped_back true false = refl
regrouped_back true true = refl

-- ---- a number that is not 0
not_zero_positive : (z : ℤ) → pos 0 ≤ℤ z → (z ≡ pos 0 → ⊥) → pos 0 <ℤ z
not_zero_positive z h some = by_lt_z (pos 0) z (λ q. q) (λ q. absurd (some (zero_between z h q)))

not_zero_negative : (z : ℤ) → z ≤ℤ pos 0 → (z ≡ pos 0 → ⊥) → z <ℤ pos 0
not_zero_negative z h some = by_lt_z z (pos 0) (λ q. q) (λ q. absurd (some (zero_between z q h)))

one_sign : (z : ℤ) → (z ≡ pos 0 → ⊥) → xor (xor (lt_z (pos 0) z) (lt_z z (pos 0))) true ≡ false
one_sign z some = by_lt_z (pos 0) z
    (λ h i. xor (xor (lt_z_of_less (pos 0) z h i) (lt_z_of_at_most z (pos 0) (at_most_of_less _ _ h) i)) true)
    (λ h i. xor (xor (lt_z_of_at_most (pos 0) z h i) (lt_z_of_less z (pos 0) (not_zero_negative z h some) i)) true)

one_sign_back : (z : ℤ) → (z ≡ pos 0 → ⊥) → xor (xor (lt_z z (pos 0)) (lt_z (pos 0) z)) true ≡ false
one_sign_back z some = by_lt_z (pos 0) z
    (λ h i. xor (xor (lt_z_of_at_most z (pos 0) (at_most_of_less _ _ h) i) (lt_z_of_less (pos 0) z h i)) true)
    (λ h i. xor (xor (lt_z_of_less z (pos 0) (not_zero_negative z h some) i) (lt_z_of_at_most (pos 0) z h i)) true)

-- ---- two products whose difference is a multiple of a number
-- what a test of a value says of it, by halves
abbrev IsSided : Bool → ℤ → Type 0
IsSided false x = x ≤ℤ pos 0
IsSided true x = pos 0 ≤ℤ x

module _ (g x x' y y' z : ℤ) (goes : pos 0 <ℤ g) (same : g *ℤ z ≡ (x *ℤ y') -ℤ (x' *ℤ y)) where
  least : pos 0 ≤ℤ (x *ℤ y') → (x' *ℤ y) ≤ℤ pos 0 → pos 0 ≤ℤ z
  least h k = nonneg_of_mul g z goes (go (x *ℤ y') (x' *ℤ y) (g *ℤ z) same h k)
    where
      go : (k l m : ℤ) → m ≡ k -ℤ l → pos 0 ≤ℤ k → l ≤ℤ pos 0 → pos 0 ≤ℤ m
      go k l m e h g = omega (arith, ints)

  most : (x *ℤ y') ≤ℤ pos 0 → pos 0 ≤ℤ (x' *ℤ y) → z ≤ℤ pos 0
  most h k = nonpos_of_mul g z goes (go (x *ℤ y') (x' *ℤ y) (g *ℤ z) same h k)
    where
      go : (k l m : ℤ) → m ≡ k -ℤ l → k ≤ℤ pos 0 → pos 0 ≤ℤ l → m ≤ℤ pos 0
      go k l m e h g = omega (arith, ints)

  -- a way and the half-line: v and v' tell on which side of the one its ends are, w and w' on which side of the other
  abbrev Sided : Bool → Bool → Bool → Bool → Type 0
  Sided v v' w w' = xor (xor (counts v v' z) (counts w w' z)) (xor (cond w false v) (cond w' false v')) ≡ false

  sided : (v v' w w' : Bool) → IsSided v x → IsSided v' x' → IsSided w y → IsSided w' y' → (Differ v v' → z ≡ pos 0 → ⊥) → (Differ w w' → z ≡ pos 0 → ⊥) → Sided v v' w w'
  sided false false false false a b c d h k = refl
  sided false false true true a b c d h k = refl
  sided true true false false a b c d h k = refl
  sided true true true true a b c d h k = refl
  sided false false false true a b c d h k = λ i. xor (xor false (lt_z_of_at_most (pos 0) z (most (mul_nonpos_first x y' a d) (down_down x' y b c)) i)) (xor false false)
  sided false false true false a b c d h k = λ i. xor (xor false (lt_z_of_at_most z (pos 0) (least (down_down x y' a d) (mul_nonpos_first x' y b c)) i)) (xor false false)
  sided true true false true a b c d h k = λ i. xor (xor false (lt_z_of_less (pos 0) z (not_zero_positive z (least (mul_nonneg x y' a d) (up_down x' y b c)) (k tt)) i)) (xor true false)
  sided true true true false a b c d h k = λ i. xor (xor false (lt_z_of_less z (pos 0) (not_zero_negative z (most (up_down x y' a d) (mul_nonneg x' y b c)) (k tt)) i)) (xor false true)
  sided false true false false a b c d h k = λ i. xor (xor (lt_z_of_less (pos 0) z (not_zero_positive z (least (down_down x y' a d) (up_down x' y b c)) (h tt)) i) false) (xor false true)
  sided true false false false a b c d h k = λ i. xor (xor (lt_z_of_less z (pos 0) (not_zero_negative z (most (up_down x y' a d) (down_down x' y b c)) (h tt)) i) false) (xor true false)
  sided false true true true a b c d h k = λ i. xor (xor (lt_z_of_at_most (pos 0) z (most (mul_nonpos_first x y' a d) (mul_nonneg x' y b c)) i) false) (xor false false)
  sided true false true true a b c d h k = λ i. xor (xor (lt_z_of_at_most z (pos 0) (least (mul_nonneg x y' a d) (mul_nonpos_first x' y b c)) i) false) (xor false false)
  sided false true false true a b c d h k = none_outer (lt_z (pos 0) z)
  sided true false true false a b c d h k = none_outer (lt_z z (pos 0))
  sided false true true false a b c d h k = one_sign z (h tt)
  sided true false false true a b c d h k = one_sign_back z (h tt)

-- ---- signs through a positive factor
pub same_sign : (w x k y : ℤ) → pos 0 <ℤ w → pos 0 <ℤ k → w *ℤ x ≡ k *ℤ y → (lt_z (pos 0) x ≡ lt_z (pos 0) y) × (lt_z x (pos 0) ≡ lt_z y (pos 0))
same_sign w x k y w_there k_there e = (
  same_test (pos 0) x (pos 0) y (λ h g. first (w *ℤ x) (k *ℤ y) e (mul_pos w x w_there h) (up_down k y (at_most_of_less _ _ k_there) g)) (λ h g. second (w *ℤ x) (k *ℤ y) e (mul_pos k y k_there h) (up_down w x (at_most_of_less _ _ w_there) g)),
  same_test x (pos 0) y (pos 0) (λ h g. first_back w x (k *ℤ y) e w_there h (mul_nonneg k y (at_most_of_less _ _ k_there) g)) (λ h g. first_back k y (w *ℤ x) (sym e) k_there h (mul_nonneg w x (at_most_of_less _ _ w_there) g)),
)
  where
    first : (m n : ℤ) → m ≡ n → pos 0 <ℤ m → n ≤ℤ pos 0 → ⊥
    first m n e h g = omega (arith, ints)

    second : (m n : ℤ) → m ≡ n → pos 0 <ℤ n → m ≤ℤ pos 0 → ⊥
    second m n e h g = omega (arith, ints)

    first_back : (w x n : ℤ) → w *ℤ x ≡ n → pos 0 <ℤ w → x <ℤ pos 0 → pos 0 ≤ℤ n → ⊥
    first_back w x n e h g l = by (nonneg_of_mul w x h (go (w *ℤ x) n e l))
      where
        go : (m n : ℤ) → m ≡ n → pos 0 ≤ℤ n → pos 0 ≤ℤ m
        go m n e h = omega (arith, ints)

        by : pos 0 ≤ℤ x → ⊥
        by q = omega (arith, ints)

turned_test : (x : ℤ) → (lt_z (pos 0) (pos 0 -ℤ x) ≡ lt_z x (pos 0)) × (lt_z (pos 0 -ℤ x) (pos 0) ≡ lt_z (pos 0) x)
turned_test x = (
  same_test (pos 0) (pos 0 -ℤ x) x (pos 0) (λ h g. omega (arith, ints)) (λ h g. omega (arith, ints)),
  same_test (pos 0 -ℤ x) (pos 0) (pos 0) x (λ h g. omega (arith, ints)) (λ h g. omega (arith, ints)),
)

pub other_sign : (w x k y : ℤ) → pos 0 <ℤ w → pos 0 <ℤ k → w *ℤ x ≡ k *ℤ (pos 0 -ℤ y) → (lt_z (pos 0) x ≡ lt_z y (pos 0)) × (lt_z x (pos 0) ≡ lt_z (pos 0) y)
other_sign w x k y w_there k_there e =
    let s = same_sign w x k (pos 0 -ℤ y) w_there k_there e in
    let t = turned_test y in
    (s.0 ∙ t.0, s.1 ∙ t.1)

-- ---- a level line
-- Of the ends a and b of a way: how much they are above the place, and to the right of it; x is the turn of the place.
module _ (w x a b r t : ℤ) (there : pos 0 <ℤ w) (turn : w *ℤ x ≡ (r *ℤ b) -ℤ (a *ℤ t))
    (apart : (i j : ℤ) → pos 0 ≤ℤ i → pos 0 ≤ℤ j → pos 0 <ℤ (i +ℤ j) → (i *ℤ a) +ℤ (j *ℤ b) ≡ pos 0 → (i *ℤ r) +ℤ (j *ℤ t) ≡ pos 0 → ⊥) where
  first_level_up : a ≡ pos 0 → pos 0 <ℤ b → (lt_z (pos 0) x ≡ lt_z (pos 0) r) × (lt_z x (pos 0) ≡ lt_z r (pos 0))
  first_level_up e h = same_sign w x b r there h
      (by_two _ _ (w *ℤ x) ((r *ℤ b) -ℤ (a *ℤ t)) (pos 1) a (pos 0) (pos 0 -ℤ t)
      (ring (w ∷ x ∷ a ∷ b ∷ r ∷ t ∷ []) ((var 0 ⊗ var 1) ⊖ (var 3 ⊗ var 4)) ((((var 0 ⊗ var 1) ⊖ ((var 4 ⊗ var 3) ⊖ (var 2 ⊗ var 5))) ⊗ con (pos 1)) ⊕ ((var 2 ⊖ con (pos 0)) ⊗ (con (pos 0) ⊖ var 5))) refl) turn e)

  first_level_down : a ≡ pos 0 → b <ℤ pos 0 → (lt_z (pos 0) x ≡ lt_z r (pos 0)) × (lt_z x (pos 0) ≡ lt_z (pos 0) r)
  first_level_down e h = other_sign w x (pos 0 -ℤ b) r there (negation_positive b h)
      (by_two _ _ (w *ℤ x) ((r *ℤ b) -ℤ (a *ℤ t)) (pos 1) a (pos 0) (pos 0 -ℤ t)
      (ring (w ∷ x ∷ a ∷ b ∷ r ∷ t ∷ []) ((var 0 ⊗ var 1) ⊖ ((con (pos 0) ⊖ var 3) ⊗ (con (pos 0) ⊖ var 4))) ((((var 0 ⊗ var 1) ⊖ ((var 4 ⊗ var 3) ⊖ (var 2 ⊗ var 5))) ⊗ con (pos 1)) ⊕ ((var 2 ⊖ con (pos 0)) ⊗ (con (pos 0) ⊖ var 5))) refl) turn e)

  second_level_up : b ≡ pos 0 → pos 0 <ℤ a → (lt_z (pos 0) x ≡ lt_z t (pos 0)) × (lt_z x (pos 0) ≡ lt_z (pos 0) t)
  second_level_up e h = other_sign w x a t there h
      (by_two _ _ (w *ℤ x) ((r *ℤ b) -ℤ (a *ℤ t)) (pos 1) b (pos 0) r
      (ring (w ∷ x ∷ a ∷ b ∷ r ∷ t ∷ []) ((var 0 ⊗ var 1) ⊖ (var 2 ⊗ (con (pos 0) ⊖ var 5))) ((((var 0 ⊗ var 1) ⊖ ((var 4 ⊗ var 3) ⊖ (var 2 ⊗ var 5))) ⊗ con (pos 1)) ⊕ ((var 3 ⊖ con (pos 0)) ⊗ var 4)) refl) turn e)

  second_level_down : b ≡ pos 0 → a <ℤ pos 0 → (lt_z (pos 0) x ≡ lt_z (pos 0) t) × (lt_z x (pos 0) ≡ lt_z t (pos 0))
  second_level_down e h = same_sign w x (pos 0 -ℤ a) t there (negation_positive a h)
      (by_two _ _ (w *ℤ x) ((r *ℤ b) -ℤ (a *ℤ t)) (pos 1) b (pos 0) r
      (ring (w ∷ x ∷ a ∷ b ∷ r ∷ t ∷ []) ((var 0 ⊗ var 1) ⊖ ((con (pos 0) ⊖ var 2) ⊗ var 5)) ((((var 0 ⊗ var 1) ⊖ ((var 4 ⊗ var 3) ⊖ (var 2 ⊗ var 5))) ⊗ con (pos 1)) ⊕ ((var 3 ⊖ con (pos 0)) ⊗ var 4)) refl) turn e)

  -- an end at the height of the place is not at the place
  first_off : a ≡ pos 0 → r ≡ pos 0 → ⊥
  first_off e h = apart (pos 1) (pos 0) (omega (arith, ints)) (omega (arith, ints)) (omega (arith, ints)) (alone a b e) (alone r t h)
    where
      alone : (m n : ℤ) → m ≡ pos 0 → (pos 1 *ℤ m) +ℤ (pos 0 *ℤ n) ≡ pos 0
      alone m n e = ring (m ∷ n ∷ []) ((con (pos 1) ⊗ var 0) ⊕ (con (pos 0) ⊗ var 1)) (var 0) refl ∙ e

  second_off : b ≡ pos 0 → t ≡ pos 0 → ⊥
  second_off e h = apart (pos 0) (pos 1) (omega (arith, ints)) (omega (arith, ints)) (omega (arith, ints)) (alone a b e) (alone r t h)
    where
      alone : (m n : ℤ) → n ≡ pos 0 → (pos 0 *ℤ m) +ℤ (pos 1 *ℤ n) ≡ pos 0
      alone m n e = ring (m ∷ n ∷ []) ((con (pos 0) ⊗ var 0) ⊕ (con (pos 1) ⊗ var 1)) (var 1) refl ∙ e

  -- with both ends at the height of the place, they are to one side of it
  level_weights : (i j : ℤ) → a ≡ pos 0 → b ≡ pos 0 → (i *ℤ a) +ℤ (j *ℤ b) ≡ pos 0
  level_weights i j e h = (λ q. (i *ℤ e q) +ℤ (j *ℤ h q)) ∙ ring (i ∷ j ∷ []) ((var 0 ⊗ con (pos 0)) ⊕ (var 1 ⊗ con (pos 0))) (con (pos 0)) refl

  one_side : a ≡ pos 0 → b ≡ pos 0 → lt_z (pos 0) r ≡ lt_z (pos 0) t
  one_side e h = same_test (pos 0) r (pos 0) t
      (λ q p. apart (pos 0 -ℤ t) r (negation_not_negative t p) (at_most_of_less _ _ q) (some r t q p) (level_weights (pos 0 -ℤ t) r e h) (ring (r ∷ t ∷ []) (((con (pos 0) ⊖ var 1) ⊗ var 0) ⊕ (var 0 ⊗ var 1)) (con (pos 0)) refl))
      (λ q p. apart t (pos 0 -ℤ r) (at_most_of_less _ _ q) (negation_not_negative r p) (some_back r t q p) (level_weights t (pos 0 -ℤ r) e h) (ring (r ∷ t ∷ []) ((var 1 ⊗ var 0) ⊕ ((con (pos 0) ⊖ var 0) ⊗ var 1)) (con (pos 0)) refl))
    where
      some : (r t : ℤ) → pos 0 <ℤ r → t ≤ℤ pos 0 → pos 0 <ℤ ((pos 0 -ℤ t) +ℤ r)
      some r t h g = omega (arith, ints)

      some_back : (r t : ℤ) → pos 0 <ℤ t → r ≤ℤ pos 0 → pos 0 <ℤ (t +ℤ (pos 0 -ℤ r))
      some_back r t h g = omega (arith, ints)

  one_side_back : a ≡ pos 0 → b ≡ pos 0 → lt_z r (pos 0) ≡ lt_z t (pos 0)
  one_side_back e h = same_test r (pos 0) t (pos 0)
      (λ q p. apart t (pos 0 -ℤ r) p (at_most_of_less _ _ (negation_positive r q)) (some r t q p) (level_weights t (pos 0 -ℤ r) e h) (ring (r ∷ t ∷ []) ((var 1 ⊗ var 0) ⊕ ((con (pos 0) ⊖ var 0) ⊗ var 1)) (con (pos 0)) refl))
      (λ q p. apart (pos 0 -ℤ t) r (at_most_of_less _ _ (negation_positive t q)) p (some_back r t q p) (level_weights (pos 0 -ℤ t) r e h) (ring (r ∷ t ∷ []) (((con (pos 0) ⊖ var 1) ⊗ var 0) ⊕ (var 0 ⊗ var 1)) (con (pos 0)) refl))
    where
      some : (r t : ℤ) → r <ℤ pos 0 → pos 0 ≤ℤ t → pos 0 <ℤ (t +ℤ (pos 0 -ℤ r))
      some r t h g = omega (arith, ints)

      some_back : (r t : ℤ) → t <ℤ pos 0 → pos 0 ≤ℤ r → pos 0 <ℤ ((pos 0 -ℤ t) +ℤ r)
      some_back r t h g = omega (arith, ints)

  -- with the ends on different sides of the level line through the place, the place is not in their line
  turn_none : x ≡ pos 0 → (r *ℤ b) -ℤ (a *ℤ t) ≡ pos 0
  turn_none e = sym turn ∙ ap (λ z. w *ℤ z) e ∙ ring (w ∷ []) (var 0 ⊗ con (pos 0)) (con (pos 0)) refl

  across_up : a ≤ℤ pos 0 → pos 0 <ℤ b → x ≡ pos 0 → ⊥
  across_up h k e = apart b (pos 0 -ℤ a) (at_most_of_less _ _ k) (negation_not_negative a h) (some a b h k)
      (ring (a ∷ b ∷ []) ((var 1 ⊗ var 0) ⊕ ((con (pos 0) ⊖ var 0) ⊗ var 1)) (con (pos 0)) refl)
      (ring (a ∷ b ∷ r ∷ t ∷ []) ((var 1 ⊗ var 2) ⊕ ((con (pos 0) ⊖ var 0) ⊗ var 3)) ((var 2 ⊗ var 1) ⊖ (var 0 ⊗ var 3)) refl ∙ turn_none e)
    where
      some : (a b : ℤ) → a ≤ℤ pos 0 → pos 0 <ℤ b → pos 0 <ℤ (b +ℤ (pos 0 -ℤ a))
      some a b h k = omega (arith, ints)

  across_down : pos 0 <ℤ a → b ≤ℤ pos 0 → x ≡ pos 0 → ⊥
  across_down h k e = apart (pos 0 -ℤ b) a (negation_not_negative b k) (at_most_of_less _ _ h) (some a b h k)
      (ring (a ∷ b ∷ []) (((con (pos 0) ⊖ var 1) ⊗ var 0) ⊕ (var 0 ⊗ var 1)) (con (pos 0)) refl)
      (ring (a ∷ b ∷ r ∷ t ∷ []) (((con (pos 0) ⊖ var 1) ⊗ var 2) ⊕ (var 0 ⊗ var 3)) (con (pos 0) ⊖ ((var 2 ⊗ var 1) ⊖ (var 0 ⊗ var 3))) refl ∙ ap (λ z. pos 0 -ℤ z) (turn_none e))
    where
      some : (a b : ℤ) → pos 0 <ℤ a → b ≤ℤ pos 0 → pos 0 <ℤ ((pos 0 -ℤ b) +ℤ a)
      some a b h k = omega (arith, ints)

  yes : {z : ℤ} → lt_z (pos 0) z ≡ true → pos 0 <ℤ z
  yes {z} e = less_of (pos 0) z e

  down : {z : ℤ} → lt_z z (pos 0) ≡ true → z <ℤ pos 0
  down {z} e = less_of z (pos 0) e

  level : {z : ℤ} → lt_z (pos 0) z ≡ false → lt_z z (pos 0) ≡ false → z ≡ pos 0
  level {z} e f = zero_between z (most_of z (pos 0) f) (most_of (pos 0) z e)

  not_both : {R : Type 0} (z : ℤ) → lt_z (pos 0) z ≡ true → lt_z z (pos 0) ≡ true → R
  not_both z e f = absurd (clash (less_of (pos 0) z e) (less_of z (pos 0) f))
    where
      clash : pos 0 <ℤ z → z <ℤ pos 0 → ⊥
      clash h g = omega (arith, ints)

  -- the line goes to the right, and the right side is meant
  to_the_right : (u d v e : Bool) → lt_z (pos 0) a ≡ u → lt_z a (pos 0) ≡ d → lt_z (pos 0) b ≡ v → lt_z b (pos 0) ≡ e
      → xor (xor (counts u v x) (counts (cond d false true) (cond e false true) x)) (xor (cond u false (cond d false (lt_z (pos 0) r))) (cond v false (cond e false (lt_z (pos 0) t)))) ≡ false
  to_the_right true true v e f g h k = not_both a f g
  to_the_right u d true true f g h k = not_both b h k
  to_the_right false false false false f g h k = same_plain _ _ (one_side (level f g) (level h k))
  to_the_right false false true false f g h k = same_first _ _ (first_level_up (level f g) (yes h)).0
  to_the_right false false false true f g h k = same_second _ _ (first_level_down (level f g) (down k)).1
  to_the_right true false false false f g h k = same_inner _ _ (second_level_up (level h k) (yes f)).1
  to_the_right false true false false f g h k = same_plain _ _ (second_level_down (level h k) (down g)).0
  to_the_right true false true false f g h k = refl
  to_the_right false true false true f g h k = refl
  to_the_right true false false true f g h k = none_outer (lt_z x (pos 0))
  to_the_right false true true false f g h k = none_outer (lt_z (pos 0) x)

  -- it goes to the left, and the left side is meant
  to_the_left : (u d v e : Bool) → lt_z (pos 0) a ≡ u → lt_z a (pos 0) ≡ d → lt_z (pos 0) b ≡ v → lt_z b (pos 0) ≡ e
      → xor (xor (counts u v x) (counts d e x)) (xor (cond u true (cond d false (lt_z r (pos 0)))) (cond v true (cond e false (lt_z t (pos 0))))) ≡ false
  to_the_left true true v e f g h k = not_both a f g
  to_the_left u d true true f g h k = not_both b h k
  to_the_left false false false false f g h k = same_plain _ _ (one_side_back (level f g) (level h k))
  to_the_left false false true false f g h k =
      (λ i. xor (xor ((first_level_up (level f g) (yes h)).0 i) false) (xor (lt_z r (pos 0)) true))
      ∙ regrouped (lt_z (pos 0) r) (lt_z r (pos 0)) ∙ one_sign r (first_off (level f g))
  to_the_left false false false true f g h k = same_second _ _ (first_level_down (level f g) (down k)).0
  to_the_left true false false false f g h k =
      (λ i. xor (xor ((second_level_up (level h k) (yes f)).1 i) false) (xor true (lt_z t (pos 0))))
      ∙ regrouped_back (lt_z (pos 0) t) (lt_z t (pos 0)) ∙ one_sign t (second_off (level h k))
  to_the_left false true false false f g h k = same_plain _ _ (second_level_down (level h k) (down g)).1
  to_the_left true false true false f g h k = refl
  to_the_left false true false true f g h k = refl
  to_the_left true false false true f g h k = one_sign_back x (across_down (yes f) (at_most_of_less _ _ (down k)))
  to_the_left false true true false f g h k = one_sign x (across_up (at_most_of_less _ _ (down g)) (yes h))

  -- it goes to the left, and the right side is meant
  to_the_left_of : (u v : Bool) → lt_z (pos 0) a ≡ u → lt_z (pos 0) b ≡ v
      → xor (xor (counts u v x) (counts (cond u false true) (cond v false true) x)) (xor u v) ≡ false
  to_the_left_of false false f h = refl
  to_the_left_of true true f h = refl
  to_the_left_of false true f h = one_sign x (across_up (most_of (pos 0) a f) (yes h))
  to_the_left_of true false f h = one_sign_back x (across_down (yes f) (most_of (pos 0) b h))

-- ---- both ends
lever : (w g x h a b r s y y' : ℤ) → pos 0 <ℤ w → w *ℤ y ≡ (h *ℤ a) -ℤ (g *ℤ r) → w *ℤ y' ≡ (h *ℤ b) -ℤ (g *ℤ s) → w *ℤ x ≡ (r *ℤ b) -ℤ (a *ℤ s)
    → (g *ℤ x ≡ (a *ℤ y') -ℤ (b *ℤ y)) × (h *ℤ x ≡ (r *ℤ y') -ℤ (s *ℤ y))
lever w g x h a b r s y y' there e e' f = (
  same_of_gap _ _ (zero_of_mul w ((g *ℤ x) -ℤ ((a *ℤ y') -ℤ (b *ℤ y))) there
      (by_three _ _ (w *ℤ x) ((r *ℤ b) -ℤ (a *ℤ s)) g (w *ℤ y') ((h *ℤ b) -ℤ (g *ℤ s)) (pos 0 -ℤ a) (w *ℤ y) ((h *ℤ a) -ℤ (g *ℤ r)) b
      (ring (w ∷ g ∷ x ∷ h ∷ a ∷ b ∷ r ∷ s ∷ y ∷ y' ∷ [])
      ((var 0 ⊗ ((var 1 ⊗ var 2) ⊖ ((var 4 ⊗ var 9) ⊖ (var 5 ⊗ var 8)))) ⊖ con (pos 0))
      (((((var 0 ⊗ var 2) ⊖ ((var 6 ⊗ var 5) ⊖ (var 4 ⊗ var 7))) ⊗ var 1) ⊕ (((var 0 ⊗ var 9) ⊖ ((var 3 ⊗ var 5) ⊖ (var 1 ⊗ var 7))) ⊗ (con (pos 0) ⊖ var 4))) ⊕ (((var 0 ⊗ var 8) ⊖ ((var 3 ⊗ var 4) ⊖ (var 1 ⊗ var 6))) ⊗ var 5)) refl) f e' e)),
  same_of_gap _ _ (zero_of_mul w ((h *ℤ x) -ℤ ((r *ℤ y') -ℤ (s *ℤ y))) there
      (by_three _ _ (w *ℤ x) ((r *ℤ b) -ℤ (a *ℤ s)) h (w *ℤ y') ((h *ℤ b) -ℤ (g *ℤ s)) (pos 0 -ℤ r) (w *ℤ y) ((h *ℤ a) -ℤ (g *ℤ r)) s
      (ring (w ∷ g ∷ x ∷ h ∷ a ∷ b ∷ r ∷ s ∷ y ∷ y' ∷ [])
      ((var 0 ⊗ ((var 3 ⊗ var 2) ⊖ ((var 6 ⊗ var 9) ⊖ (var 7 ⊗ var 8)))) ⊖ con (pos 0))
      (((((var 0 ⊗ var 2) ⊖ ((var 6 ⊗ var 5) ⊖ (var 4 ⊗ var 7))) ⊗ var 3) ⊕ (((var 0 ⊗ var 9) ⊖ ((var 3 ⊗ var 5) ⊖ (var 1 ⊗ var 7))) ⊗ (con (pos 0) ⊖ var 6))) ⊕ (((var 0 ⊗ var 8) ⊖ ((var 3 ⊗ var 4) ⊖ (var 1 ⊗ var 6))) ⊗ var 7)) refl) f e' e)),
)

-- ---- what the tests say
test_sided : (x : ℤ) → IsSided (lt_z (pos 0) x) x
test_sided x = by (lt_z (pos 0) x) refl
  where
    by : (v : Bool) → lt_z (pos 0) x ≡ v → IsSided v x
    by false e = most_of (pos 0) x e
    by true e = at_most_of_less _ _ (less_of (pos 0) x e)

mark_sided : (k : Side) (x : ℤ) → IsSided (is_marked k x) x
mark_sided to_left x = test_sided x
mark_sided to_right x = by (lt_z x (pos 0)) refl
  where
    by : (v : Bool) → lt_z x (pos 0) ≡ v → IsSided (cond v false true) x
    by false e = most_of x (pos 0) e
    by true e = at_most_of_less _ _ (less_of x (pos 0) e)

-- of two numbers with different marks, the one with the mark is greater
pub data AreMarked (y y' : ℤ) : Type 0 where
  rising : y ≤ℤ pos 0 → pos 0 ≤ℤ y' → y <ℤ y' → AreMarked y y'
  falling : pos 0 ≤ℤ y → y' ≤ℤ pos 0 → y' <ℤ y → AreMarked y y'

pub marks_differ : (k : Side) (y y' : ℤ) → Differ (is_marked k y) (is_marked k y') → AreMarked y y'
marks_differ to_left y y' = by (lt_z (pos 0) y) (lt_z (pos 0) y') refl refl
  where
    by : (v w : Bool) → lt_z (pos 0) y ≡ v → lt_z (pos 0) y' ≡ w → Differ v w → AreMarked y y'
    by false false e f d = absurd d
    by true true e f d = absurd d
    by false true e f d = rising (omega (arith, ints)) (omega (arith, ints)) (omega (arith, ints))
    by true false e f d = falling (omega (arith, ints)) (omega (arith, ints)) (omega (arith, ints))
marks_differ to_right y y' = by (lt_z y (pos 0)) (lt_z y' (pos 0)) refl refl
  where
    by : (v w : Bool) → lt_z y (pos 0) ≡ v → lt_z y' (pos 0) ≡ w → Differ (cond v false true) (cond w false true) → AreMarked y y'
    by false false e f d = absurd d
    by true true e f d = absurd d
    by true false e f d = rising (omega (arith, ints)) (omega (arith, ints)) (omega (arith, ints))
    by false true e f d = falling (omega (arith, ints)) (omega (arith, ints)) (omega (arith, ints))

abbrev wedge_by : Side → Bool → Bool → Bool → Bool → Bool → ℤ → ℤ → Bool
wedge_by k up down rightward above marked a r = cond up (cond marked false above) (cond down (cond above false marked) (in_level_wedge k rightward a r))

-- ---- a way and a place on the line from p to q
module _ (p q t a b : Sight) (t_there : pos 0 <ℤ t.w) (on : turn_of p q t ≡ pos 0) where
  abbrev V : ℤ
  V = above_by p q

  abbrev H : ℤ
  H = right_by p q

  abbrev A : ℤ
  A = above_by t a

  abbrev B : ℤ
  B = above_by t b

  abbrev R : ℤ
  R = right_by t a

  abbrev S : ℤ
  S = right_by t b

  abbrev X : ℤ
  X = turn_of a b t

  abbrev Y : ℤ
  Y = turn_of p q a

  abbrev Z : ℤ
  Z = turn_of p q b

  line_at : (x : Sight) → t.w *ℤ turn_of p q x ≡ (H *ℤ above_by t x) -ℤ (V *ℤ right_by t x)
  line_at x =
      by_one _ _ (turn_of p q t) (pos 0) x.w
      (ring (p.u ∷ p.v ∷ p.w ∷ q.u ∷ q.v ∷ q.w ∷ t.u ∷ t.v ∷ t.w ∷ x.u ∷ x.v ∷ x.w ∷ [])
      ((var 8 ⊗ turns (seen 0) (seen 3) (seen 9)) ⊖ ((rights (seen 0) (seen 3) ⊗ aboves (seen 6) (seen 9)) ⊖ (aboves (seen 0) (seen 3) ⊗ rights (seen 6) (seen 9))))
      ((turns (seen 0) (seen 3) (seen 6) ⊖ con (pos 0)) ⊗ var 11) refl) on

  turn : t.w *ℤ X ≡ (R *ℤ B) -ℤ (A *ℤ S)
  turn = ring (a.u ∷ a.v ∷ a.w ∷ b.u ∷ b.v ∷ b.w ∷ t.u ∷ t.v ∷ t.w ∷ [])
      (var 8 ⊗ turns (seen 0) (seen 3) (seen 6))
      ((rights (seen 6) (seen 0) ⊗ aboves (seen 6) (seen 3)) ⊖ (aboves (seen 6) (seen 0) ⊗ rights (seen 6) (seen 3))) refl

  levers : (V *ℤ X ≡ (A *ℤ Z) -ℤ (B *ℤ Y)) × (H *ℤ X ≡ (R *ℤ Z) -ℤ (S *ℤ Y))
  levers = lever t.w V X H A B R S Y Z t_there (line_at a) (line_at b) turn

  way_of : (i j : ℤ) → pos 0 ≤ℤ i → pos 0 ≤ℤ j → pos 0 <ℤ (i +ℤ j) → (i *ℤ A) +ℤ (j *ℤ B) ≡ pos 0 → (i *ℤ R) +ℤ (j *ℤ S) ≡ pos 0 → IsOnWay a b t
  way_of i j i_least j_least any above right = record {
    i = i;
    j = j;
    i_least = i_least;
    j_least = j_least;
    some = any;
    same_u = same_of_gap _ _ (gap a.u b.u t.u ∙ right);
    same_v = same_of_gap _ _ (gap a.v b.v t.v ∙ above);
  }
    where
      gap : (x y z : ℤ) → (((i *ℤ x) +ℤ (j *ℤ y)) *ℤ t.w) -ℤ (z *ℤ ((i *ℤ a.w) +ℤ (j *ℤ b.w))) ≡ (i *ℤ ((x *ℤ t.w) -ℤ (z *ℤ a.w))) +ℤ (j *ℤ ((y *ℤ t.w) -ℤ (z *ℤ b.w)))
      gap x y z = ring (i ∷ j ∷ x ∷ y ∷ z ∷ a.w ∷ b.w ∷ t.w ∷ [])
          ((((var 0 ⊗ var 2) ⊕ (var 1 ⊗ var 3)) ⊗ var 7) ⊖ (var 4 ⊗ ((var 0 ⊗ var 5) ⊕ (var 1 ⊗ var 6))))
          ((var 0 ⊗ ((var 2 ⊗ var 7) ⊖ (var 4 ⊗ var 5))) ⊕ (var 1 ⊗ ((var 3 ⊗ var 7) ⊖ (var 4 ⊗ var 6)))) refl

  none_of : (m n : ℤ) → m ≡ n → X ≡ pos 0 → (g : ℤ) → g *ℤ X ≡ m → n ≡ pos 0
  none_of m n e z g f = sym e ∙ sym f ∙ ap (λ x. g *ℤ x) z ∙ ring (g ∷ []) (var 0 ⊗ con (pos 0)) (con (pos 0)) refl

  -- where its ends have different marks and the place is in its line, the place is on it
  pub on_way_of_marks : (k : Side) → Differ (is_marked k Y) (is_marked k Z) → X ≡ pos 0 → IsOnWay a b t
  on_way_of_marks k d = cases (marks_differ k Y Z d)
    where
      forth : (x y : ℤ) → (x *ℤ Z) -ℤ (y *ℤ Y) ≡ (Z *ℤ x) +ℤ ((pos 0 -ℤ Y) *ℤ y)
      forth x y = ring (x ∷ y ∷ Y ∷ Z ∷ []) ((var 0 ⊗ var 3) ⊖ (var 1 ⊗ var 2)) ((var 3 ⊗ var 0) ⊕ ((con (pos 0) ⊖ var 2) ⊗ var 1)) refl

      back : (x y : ℤ) → (pos 0 -ℤ ((x *ℤ Z) -ℤ (y *ℤ Y))) ≡ ((pos 0 -ℤ Z) *ℤ x) +ℤ (Y *ℤ y)
      back x y = ring (x ∷ y ∷ Y ∷ Z ∷ []) (con (pos 0) ⊖ ((var 0 ⊗ var 3) ⊖ (var 1 ⊗ var 2))) (((con (pos 0) ⊖ var 3) ⊗ var 0) ⊕ (var 2 ⊗ var 1)) refl

      turned : (g m : ℤ) → g *ℤ X ≡ m → (pos 0 -ℤ g) *ℤ X ≡ pos 0 -ℤ m
      turned g m e = ring (g ∷ X ∷ []) ((con (pos 0) ⊖ var 0) ⊗ var 1) (con (pos 0) ⊖ (var 0 ⊗ var 1)) refl ∙ ap (λ z. pos 0 -ℤ z) e

      gap : (y z : ℤ) → y <ℤ z → pos 0 <ℤ (z +ℤ (pos 0 -ℤ y))
      gap y z h = omega (arith, ints)

      gap_back : (y z : ℤ) → z <ℤ y → pos 0 <ℤ ((pos 0 -ℤ z) +ℤ y)
      gap_back y z h = omega (arith, ints)

      cases : AreMarked Y Z → X ≡ pos 0 → IsOnWay a b t
      cases (rising h g l) z = way_of Z (pos 0 -ℤ Y) g (negation_not_negative Y h) (gap Y Z l) (none_of _ _ (forth A B) z V levers.0) (none_of _ _ (forth R S) z H levers.1)
      cases (falling h g l) z = way_of (pos 0 -ℤ Z) Y (negation_not_negative Z g) h (gap_back Y Z l)
          (none_of _ _ (back A B) z (pos 0 -ℤ V) (turned V _ levers.0)) (none_of _ _ (back R S) z (pos 0 -ℤ H) (turned H _ levers.1))

  -- ---- where the place is not on the way
  module _ (k : Side) (some : ¬ ((H ≡ pos 0) × (V ≡ pos 0))) (off : ¬ IsOnWay a b t) where
    apart : (i j : ℤ) → pos 0 ≤ℤ i → pos 0 ≤ℤ j → pos 0 <ℤ (i +ℤ j) → (i *ℤ A) +ℤ (j *ℤ B) ≡ pos 0 → (i *ℤ R) +ℤ (j *ℤ S) ≡ pos 0 → ⊥
    apart i j h g l above right = off (way_of i j h g l above right)

    -- where the ends are on different sides of the level line, or of the edge's line, the place is not in their line
    above_apart : Differ (lt_z (pos 0) A) (lt_z (pos 0) B) → X ≡ pos 0 → ⊥
    above_apart = cases (lt_z (pos 0) A) (lt_z (pos 0) B) refl refl
      where
        cases : (v w : Bool) → lt_z (pos 0) A ≡ v → lt_z (pos 0) B ≡ w → Differ v w → X ≡ pos 0 → ⊥
        cases false false e f d = absurd d
        cases true true e f d = absurd d
        cases false true e f d = across_up t.w X A B R S t_there turn apart (most_of (pos 0) A e) (less_of (pos 0) B f)
        cases true false e f d = across_down t.w X A B R S t_there turn apart (less_of (pos 0) A e) (most_of (pos 0) B f)

    marks_apart : Differ (is_marked k Y) (is_marked k Z) → X ≡ pos 0 → ⊥
    marks_apart d z = off (on_way_of_marks k d z)

    abbrev Goal : Bool → Bool → Type 0
    Goal up down = xor (xor (counts (lt_z (pos 0) A) (lt_z (pos 0) B) X) (counts (is_marked k Y) (is_marked k Z) X))
        (xor (wedge_by k up down (lt_z (pos 0) H) (lt_z (pos 0) A) (is_marked k Y) A R) (wedge_by k up down (lt_z (pos 0) H) (lt_z (pos 0) B) (is_marked k Z) B S)) ≡ false

    -- ---- a level line
    level_at : (y x r : ℤ) → t.w *ℤ y ≡ (H *ℤ x) -ℤ (V *ℤ r) → V ≡ pos 0 → t.w *ℤ y ≡ H *ℤ x
    level_at y x r e v = by_two _ _ (t.w *ℤ y) ((H *ℤ x) -ℤ (V *ℤ r)) (pos 1) V (pos 0) (pos 0 -ℤ r)
        (ring (t.w ∷ y ∷ H ∷ x ∷ V ∷ r ∷ []) ((var 0 ⊗ var 1) ⊖ (var 2 ⊗ var 3)) ((((var 0 ⊗ var 1) ⊖ ((var 2 ⊗ var 3) ⊖ (var 4 ⊗ var 5))) ⊗ con (pos 1)) ⊕ ((var 4 ⊖ con (pos 0)) ⊗ (con (pos 0) ⊖ var 5))) refl) e v

    abbrev Tests : ℤ → ℤ → Type 0
    Tests y x = (lt_z (pos 0) y ≡ lt_z (pos 0) x) × (lt_z y (pos 0) ≡ lt_z x (pos 0))

    abbrev Turned : ℤ → ℤ → Type 0
    Turned y x = (lt_z (pos 0) y ≡ lt_z x (pos 0)) × (lt_z y (pos 0) ≡ lt_z (pos 0) x)

    turned_product : (h x : ℤ) → h *ℤ x ≡ (pos 0 -ℤ h) *ℤ (pos 0 -ℤ x)
    turned_product h x = ring (h ∷ x ∷ []) (var 0 ⊗ var 1) ((con (pos 0) ⊖ var 0) ⊗ (con (pos 0) ⊖ var 1)) refl

    abbrev LevelGoal : Side → Bool → Type 0
    LevelGoal k rightward = xor (xor (counts (lt_z (pos 0) A) (lt_z (pos 0) B) X) (counts (is_marked k Y) (is_marked k Z) X)) (xor (in_level_wedge k rightward A R) (in_level_wedge k rightward B S)) ≡ false

    on_level : (k : Side) (rightward : Bool) → lt_z (pos 0) H ≡ rightward → V ≡ pos 0 → LevelGoal k rightward
    on_level k true e v = goal k (same_sign t.w Y H A t_there goes (level_at Y A R (line_at a) v)) (same_sign t.w Z H B t_there goes (level_at Z B S (line_at b) v))
      where
        goes : pos 0 <ℤ H
        goes = less_of (pos 0) H e

        goal : (k : Side) → Tests Y A → Tests Z B → LevelGoal k true
        goal to_left f g = (λ i. xor (xor (counts (lt_z (pos 0) A) (lt_z (pos 0) B) X) (counts (f.0 i) (g.0 i) X)) (xor false false)) ∙ none_outer (counts (lt_z (pos 0) A) (lt_z (pos 0) B) X)
        goal to_right f g =
            (λ i. xor (xor (counts (lt_z (pos 0) A) (lt_z (pos 0) B) X) (counts (cond (f.1 i) false true) (cond (g.1 i) false true) X)) (xor (in_level_wedge to_right true A R) (in_level_wedge to_right true B S)))
            ∙ to_the_right t.w X A B R S t_there turn apart (lt_z (pos 0) A) (lt_z A (pos 0)) (lt_z (pos 0) B) (lt_z B (pos 0)) refl refl refl refl
    on_level k false e v = goal k (other_sign t.w Y (pos 0 -ℤ H) A t_there goes (level_at Y A R (line_at a) v ∙ turned_product H A)) (other_sign t.w Z (pos 0 -ℤ H) B t_there goes (level_at Z B S (line_at b) v ∙ turned_product H B))
      where
        goes : pos 0 <ℤ (pos 0 -ℤ H)
        goes = negation_positive H (not_zero_negative H (most_of (pos 0) H e) (λ h. some (h, v)))

        goal : (k : Side) → Turned Y A → Turned Z B → LevelGoal k false
        goal to_left f g =
            (λ i. xor (xor (counts (lt_z (pos 0) A) (lt_z (pos 0) B) X) (counts (f.0 i) (g.0 i) X)) (xor (in_level_wedge to_left false A R) (in_level_wedge to_left false B S)))
            ∙ to_the_left t.w X A B R S t_there turn apart (lt_z (pos 0) A) (lt_z A (pos 0)) (lt_z (pos 0) B) (lt_z B (pos 0)) refl refl refl refl
        goal to_right f g =
            (λ i. xor (xor (counts (lt_z (pos 0) A) (lt_z (pos 0) B) X) (counts (cond (f.1 i) false true) (cond (g.1 i) false true) X)) (xor (lt_z (pos 0) A) (lt_z (pos 0) B)))
            ∙ to_the_left_of t.w X A B R S t_there turn apart (lt_z (pos 0) A) (lt_z (pos 0) B) refl refl

    counted : (up down : Bool) → lt_z (pos 0) V ≡ up → lt_z V (pos 0) ≡ down → Goal up down
    counted true down e f =
        sided V A B Y Z X (less_of (pos 0) V e) levers.0 (lt_z (pos 0) A) (lt_z (pos 0) B) (is_marked k Y) (is_marked k Z)
        (test_sided A) (test_sided B) (mark_sided k Y) (mark_sided k Z) above_apart marks_apart
    counted false true e f =
        (λ i. xor (xor-comm (counts (lt_z (pos 0) A) (lt_z (pos 0) B) X) (counts (is_marked k Y) (is_marked k Z) X) i) (xor (cond (lt_z (pos 0) A) false (is_marked k Y)) (cond (lt_z (pos 0) B) false (is_marked k Z))))
        ∙ sided (pos 0 -ℤ V) Y Z A B X (negation_positive V (less_of V (pos 0) f)) falls (is_marked k Y) (is_marked k Z) (lt_z (pos 0) A) (lt_z (pos 0) B)
        (mark_sided k Y) (mark_sided k Z) (test_sided A) (test_sided B) marks_apart above_apart
      where
        falls : (pos 0 -ℤ V) *ℤ X ≡ (Y *ℤ B) -ℤ (Z *ℤ A)
        falls = by_one _ _ (V *ℤ X) ((A *ℤ Z) -ℤ (B *ℤ Y)) (pos 0 -ℤ pos 1)
            (ring (V ∷ X ∷ A ∷ B ∷ Y ∷ Z ∷ []) (((con (pos 0) ⊖ var 0) ⊗ var 1) ⊖ ((var 4 ⊗ var 3) ⊖ (var 5 ⊗ var 2))) (((var 0 ⊗ var 1) ⊖ ((var 2 ⊗ var 5) ⊖ (var 3 ⊗ var 4))) ⊗ (con (pos 0) ⊖ con (pos 1))) refl) levers.0
    counted false false e f = on_level k (lt_z (pos 0) H) refl (zero_between V (most_of V (pos 0) f) (most_of (pos 0) V e))

-- ---- the law
pub wedge : WedgeLaw
wedge k p q t a b p_there q_there t_there a_there b_there some on off = counted p q t a b t_there on k some off (lt_z (pos 0) (above_by p q)) (lt_z (above_by p q) (pos 0)) refl refl
