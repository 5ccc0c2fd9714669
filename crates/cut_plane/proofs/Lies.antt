-- How a border lies to the way from one sight to another: where they do not cross, the border's ends to the right of the way tell whether the border counts at both.
use Rattle.std.proofs.Common.{◌≡◌, Bool, true, false, [], ◌∷◌, refl, sym, ap, ◌∙◌, arith}
use Rattle.std.specs.Prelude.{ℤ, pos, ◌+ℤ◌, ◌-ℤ◌, ◌*ℤ◌, ◌<ℤ◌, ◌≤ℤ◌}
use Rattle.std.specs.Int.Signed.{lt_z}
use Rattle.std.proofs.lemmas.Int.{ints, by_lt_z}
use Rattle.integers.proofs.Comparisons.{negation_positive, negation_not_negative, at_most_of_less, not_positive_of_negative, positive_not_zero, negative_not_zero, positive_not_negative}
use Rattle.integers.proofs.Ring.{var, con, ◌⊖◌, ◌⊗◌, ring}
use Rattle.integers.proofs.Signs.{mul_nonneg, mul_pos, mul_neg, nonneg_of_mul, mul_nonpos_first, mul_two_neg}
use Rattle.cut_plane.proofs.Sights.{counts}
use Rattle.cut_plane.proofs.Tested.{less_of, most_of, same_test}
use Rattle.cut_plane.proofs.Xors.{xor, xor-twice, xor-comm}

-- ---- signs of products
pub turned : (a b : ℤ) → (pos 0 -ℤ a) *ℤ b ≡ pos 0 -ℤ (a *ℤ b)
turned a b = ring (a ∷ b ∷ []) ((con (pos 0) ⊖ var 0) ⊗ var 1) (con (pos 0) ⊖ (var 0 ⊗ var 1)) refl

turned_second : (a b : ℤ) → a *ℤ (pos 0 -ℤ b) ≡ pos 0 -ℤ (a *ℤ b)
turned_second a b = ring (a ∷ b ∷ []) (var 0 ⊗ (con (pos 0) ⊖ var 1)) (con (pos 0) ⊖ (var 0 ⊗ var 1)) refl

pub up_down : (a b : ℤ) → pos 0 ≤ℤ a → b ≤ℤ pos 0 → (a *ℤ b) ≤ℤ pos 0
up_down a b h g = go (a *ℤ b) (a *ℤ (pos 0 -ℤ b)) (turned_second a b) (mul_nonneg a (pos 0 -ℤ b) h (omega (arith, ints)))
  where
    go : (x y : ℤ) → y ≡ pos 0 -ℤ x → pos 0 ≤ℤ y → x ≤ℤ pos 0
    go x y e h = omega (arith, ints)

pub down_down : (a b : ℤ) → a ≤ℤ pos 0 → b ≤ℤ pos 0 → pos 0 ≤ℤ (a *ℤ b)
down_down a b h g = go (a *ℤ b) ((pos 0 -ℤ a) *ℤ b) (turned a b) (up_down (pos 0 -ℤ a) b (omega (arith, ints)) g)
  where
    go : (x y : ℤ) → y ≡ pos 0 -ℤ x → y ≤ℤ pos 0 → pos 0 ≤ℤ x
    go x y e h = omega (arith, ints)

pub nonpos_of_mul : (k a : ℤ) → pos 0 <ℤ k → (k *ℤ a) ≤ℤ pos 0 → a ≤ℤ pos 0
nonpos_of_mul k a p h = by_lt_z (pos 0) a (λ n. absurd (let m = mul_pos k a p n in omega (arith, ints))) (λ q. q)

pub pos_of_times : (k a : ℤ) → pos 0 ≤ℤ k → pos 0 <ℤ (k *ℤ a) → pos 0 <ℤ a
pos_of_times k a p h = by_lt_z (pos 0) a (λ n. n) (λ q. absurd (let m = up_down k a p q in omega (arith, ints)))

pub neg_of_mul : (k a : ℤ) → pos 0 ≤ℤ k → (k *ℤ a) <ℤ pos 0 → a <ℤ pos 0
neg_of_mul k a p h = by_lt_z a (pos 0) (λ n. n) (λ q. absurd (let m = mul_nonneg k a p q in omega (arith, ints)))

not_level : (k a : ℤ) → pos 0 ≤ℤ k → (k *ℤ a) <ℤ pos 0 → pos 0 <ℤ k
not_level k a p h = by_lt_z (pos 0) k (λ n. n) (λ q. absurd (let m = down_down k a q (not_positive_of_negative a (neg_of_mul k a p h)) in omega (arith, ints)))

-- ---- where two segments do not cross
-- On which sides of the line of one segment the ends of the other are, x and x', and so the other way, y and y': two ends are
-- strictly to one side, or all four are in one line.
pub data IsClear (x x' y y' : ℤ) : Type 0 where
  first_up : pos 0 <ℤ x → pos 0 <ℤ x' → IsClear x x' y y'
  first_down : x <ℤ pos 0 → x' <ℤ pos 0 → IsClear x x' y y'
  second_up : pos 0 <ℤ y → pos 0 <ℤ y' → IsClear x x' y y'
  second_down : y <ℤ pos 0 → y' <ℤ pos 0 → IsClear x x' y y'
  in_line : x ≡ pos 0 → x' ≡ pos 0 → y ≡ pos 0 → y' ≡ pos 0 → IsClear x x' y y'

-- not strictly to one side
pub data IsAcross (x x' : ℤ) : Type 0 where
  up : x ≤ℤ pos 0 → pos 0 ≤ℤ x' → IsAcross x x'
  down : pos 0 ≤ℤ x → x' ≤ℤ pos 0 → IsAcross x x'

clear_or_across : (x x' y y' : ℤ) → IsClear x x' y y' → IsAcross x x' → IsAcross y y' → (x ≡ pos 0 → x' ≡ pos 0 → y ≡ pos 0 → y' ≡ pos 0 → ⊥) → ⊥
clear_or_across x x' y y' (first_up h g) (up p q) b some = omega (arith, ints)
clear_or_across x x' y y' (first_up h g) (down p q) b some = omega (arith, ints)
clear_or_across x x' y y' (first_down h g) (up p q) b some = omega (arith, ints)
clear_or_across x x' y y' (first_down h g) (down p q) b some = omega (arith, ints)
clear_or_across x x' y y' (second_up h g) a (up p q) some = omega (arith, ints)
clear_or_across x x' y y' (second_up h g) a (down p q) some = omega (arith, ints)
clear_or_across x x' y y' (second_down h g) a (up p q) some = omega (arith, ints)
clear_or_across x x' y y' (second_down h g) a (down p q) some = omega (arith, ints)
clear_or_across x x' y y' (in_line e f g h) a b some = some e f g h

-- ---- one border's ends on one side of two sights
-- both of the border's V's lie to different sides of those of both sights: it counts at both or at neither
module _ (a b a' b' c x x' y y' : ℤ) (first : c *ℤ y ≡ (a' *ℤ x) -ℤ (a *ℤ x')) (second : c *ℤ y' ≡ (b' *ℤ x) -ℤ (b *ℤ x'))
    (below : a ≤ℤ pos 0) (below' : a' ≤ℤ pos 0) (above : pos 0 ≤ℤ b) (above' : pos 0 ≤ℤ b') (goes : pos 0 <ℤ c) (clear : IsClear x x' y y') where
  no_fall : pos 0 <ℤ x → x' ≤ℤ pos 0 → ⊥
  no_fall h g =
      clear_or_across x x' y y' clear (down (at_most_of_less _ _ h) g)
      (up
      (nonpos_of_mul c y goes (most (a' *ℤ x) (a *ℤ x') (c *ℤ y) first (mul_nonpos_first a' x below' (at_most_of_less _ _ h)) (down_down a x' below g)))
      (nonneg_of_mul c y' goes (least (b' *ℤ x) (b *ℤ x') (c *ℤ y') second (mul_nonneg b' x above' (at_most_of_less _ _ h)) (up_down b x' above g))))
      (λ e. absurd (positive_not_zero x h e))
    where
      most : (k l m : ℤ) → m ≡ k -ℤ l → k ≤ℤ pos 0 → pos 0 ≤ℤ l → m ≤ℤ pos 0
      most k l m e h g = omega (arith, ints)

      least : (k l m : ℤ) → m ≡ k -ℤ l → pos 0 ≤ℤ k → l ≤ℤ pos 0 → pos 0 ≤ℤ m
      least k l m e h g = omega (arith, ints)

  no_rise : pos 0 <ℤ x' → x ≤ℤ pos 0 → ⊥
  no_rise h g =
      clear_or_across x x' y y' clear (up g (at_most_of_less _ _ h))
      (down
      (nonneg_of_mul c y goes (least (a' *ℤ x) (a *ℤ x') (c *ℤ y) first (down_down a' x below' g) (mul_nonpos_first a x' below (at_most_of_less _ _ h))))
      (nonpos_of_mul c y' goes (most (b' *ℤ x) (b *ℤ x') (c *ℤ y') second (up_down b' x above' g) (mul_nonneg b x' above (at_most_of_less _ _ h)))))
      (λ e e'. absurd (positive_not_zero x' h e'))
    where
      most : (k l m : ℤ) → m ≡ k -ℤ l → k ≤ℤ pos 0 → pos 0 ≤ℤ l → m ≤ℤ pos 0
      most k l m e h g = omega (arith, ints)

      least : (k l m : ℤ) → m ≡ k -ℤ l → pos 0 ≤ℤ k → l ≤ℤ pos 0 → pos 0 ≤ℤ m
      least k l m e h g = omega (arith, ints)

  same_side : lt_z (pos 0) x ≡ lt_z (pos 0) x'
  same_side = same_test (pos 0) x (pos 0) x' no_fall no_rise

-- the V of one sight alone is on another side of one end alone: the border counts at that sight where that end counts to the right of the way
module _ (a b a' r c x x' y y' : ℤ) (row : a *ℤ y' ≡ (r *ℤ x) +ℤ (b *ℤ y)) (column : a *ℤ x' ≡ (a' *ℤ x) -ℤ (c *ℤ y))
    (above : pos 0 ≤ℤ a) (below : b ≤ℤ pos 0) (below' : a' ≤ℤ pos 0) (rises : pos 0 <ℤ r) (falls : c <ℤ pos 0) (clear : IsClear x x' y y') where
  no_border : x <ℤ pos 0 → pos 0 ≤ℤ y → ⊥
  no_border h g =
      let less : (a *ℤ y') <ℤ pos 0 = sum (r *ℤ x) (b *ℤ y) (a *ℤ y') row (mul_neg r x rises h) (mul_nonpos_first b y below g) in
      let positive = not_level a y' above less in
      clear_or_across x x' y y' clear
      (up (at_most_of_less _ _ h) (nonneg_of_mul a x' positive (difference (a' *ℤ x) (c *ℤ y) (a *ℤ x') column (down_down a' x below' (at_most_of_less _ _ h)) (mul_nonpos_first c y (at_most_of_less _ _ falls) g))))
      (down g (at_most_of_less _ _ (neg_of_mul a y' above less)))
      (λ e. absurd (negative_not_zero x h e))
    where
      sum : (k l m : ℤ) → m ≡ k +ℤ l → k <ℤ pos 0 → l ≤ℤ pos 0 → m <ℤ pos 0
      sum k l m e h g = omega (arith, ints)

      difference : (k l m : ℤ) → m ≡ k -ℤ l → pos 0 ≤ℤ k → l ≤ℤ pos 0 → pos 0 ≤ℤ m
      difference k l m e h g = omega (arith, ints)

  no_end : y <ℤ pos 0 → pos 0 ≤ℤ x → ⊥
  no_end h g =
      let less : (a *ℤ x') <ℤ pos 0 = difference (a' *ℤ x) (c *ℤ y) (a *ℤ x') column (mul_nonpos_first a' x below' g) (mul_two_neg c y falls h) in
      let positive = not_level a x' above less in
      clear_or_across x x' y y' clear
      (down g (at_most_of_less _ _ (neg_of_mul a x' above less)))
      (up (at_most_of_less _ _ h) (nonneg_of_mul a y' positive (sum (r *ℤ x) (b *ℤ y) (a *ℤ y') row (mul_nonneg r x (at_most_of_less _ _ rises) g) (down_down b y below (at_most_of_less _ _ h)))))
      (λ e e' f. absurd (negative_not_zero y h f))
    where
      sum : (k l m : ℤ) → m ≡ k +ℤ l → pos 0 ≤ℤ k → pos 0 ≤ℤ l → pos 0 ≤ℤ m
      sum k l m e h g = omega (arith, ints)

      difference : (k l m : ℤ) → m ≡ k -ℤ l → k ≤ℤ pos 0 → pos 0 <ℤ l → m <ℤ pos 0
      difference k l m e h g = omega (arith, ints)

  same_fall : lt_z x (pos 0) ≡ lt_z y (pos 0)
  same_fall = same_test x (pos 0) y (pos 0) no_border no_end

-- ---- all signs turned
both_turned : (a b : ℤ) → (pos 0 -ℤ a) *ℤ (pos 0 -ℤ b) ≡ a *ℤ b
both_turned a b = ring (a ∷ b ∷ []) ((con (pos 0) ⊖ var 0) ⊗ (con (pos 0) ⊖ var 1)) (var 0 ⊗ var 1) refl

turned_sum : (a y r x b z : ℤ) → a *ℤ y ≡ (r *ℤ x) +ℤ (b *ℤ z) → (pos 0 -ℤ a) *ℤ (pos 0 -ℤ y) ≡ ((pos 0 -ℤ r) *ℤ (pos 0 -ℤ x)) +ℤ ((pos 0 -ℤ b) *ℤ (pos 0 -ℤ z))
turned_sum a y r x b z e = both_turned a y ∙ e ∙ sym (λ i. both_turned r x i +ℤ both_turned b z i)

turned_difference : (a y r x b z : ℤ) → a *ℤ y ≡ (r *ℤ x) -ℤ (b *ℤ z) → (pos 0 -ℤ a) *ℤ (pos 0 -ℤ y) ≡ ((pos 0 -ℤ r) *ℤ (pos 0 -ℤ x)) -ℤ ((pos 0 -ℤ b) *ℤ (pos 0 -ℤ z))
turned_difference a y r x b z e = both_turned a y ∙ e ∙ sym (λ i. both_turned r x i -ℤ both_turned b z i)

turned_clear : (x x' y y' : ℤ) → IsClear x x' y y' → IsClear (pos 0 -ℤ x) (pos 0 -ℤ x') (pos 0 -ℤ y) (pos 0 -ℤ y')
turned_clear x x' y y' (first_up h g) = first_down (omega (arith, ints)) (omega (arith, ints))
turned_clear x x' y y' (first_down h g) = first_up (omega (arith, ints)) (omega (arith, ints))
turned_clear x x' y y' (second_up h g) = second_down (omega (arith, ints)) (omega (arith, ints))
turned_clear x x' y y' (second_down h g) = second_up (omega (arith, ints)) (omega (arith, ints))
turned_clear x x' y y' (in_line e f g h) = in_line (omega (arith, ints)) (omega (arith, ints)) (omega (arith, ints)) (omega (arith, ints))

test_up : (x : ℤ) → lt_z x (pos 0) ≡ lt_z (pos 0) (pos 0 -ℤ x)
test_up x = same_test x (pos 0) (pos 0) (pos 0 -ℤ x) (λ h g. omega (arith, ints)) (λ h g. omega (arith, ints))

test_down : (x : ℤ) → lt_z (pos 0) x ≡ lt_z (pos 0 -ℤ x) (pos 0)
test_down x = same_test (pos 0) x (pos 0 -ℤ x) (pos 0) (λ h g. omega (arith, ints)) (λ h g. omega (arith, ints))

down_of : {x : ℤ} → pos 0 ≤ℤ x → (pos 0 -ℤ x) ≤ℤ pos 0
down_of {x} h = go x h
  where
    go : (x : ℤ) → pos 0 ≤ℤ x → (pos 0 -ℤ x) ≤ℤ pos 0
    go x h = omega (arith, ints)

strict_down : {x : ℤ} → pos 0 <ℤ x → (pos 0 -ℤ x) <ℤ pos 0
strict_down {x} h = go x h
  where
    go : (x : ℤ) → pos 0 <ℤ x → (pos 0 -ℤ x) <ℤ pos 0
    go x h = omega (arith, ints)

-- ---- a border and two sights
-- By how much the border's two ends P and Q are above the sight p in V, a and b, and above p', a' and b'; p' above p, r, and Q above
-- P, c; on which side of the line from P to Q the sights are, x and x', and of that from p to p' the ends, y and y'.
pub record Lie : Type 0 where
  pub a : ℤ
  pub b : ℤ
  pub a' : ℤ
  pub b' : ℤ
  pub r : ℤ
  pub c : ℤ
  pub x : ℤ
  pub x' : ℤ
  pub y : ℤ
  pub y' : ℤ
  pub first_row : a *ℤ y' ≡ (r *ℤ x) +ℤ (b *ℤ y)
  pub second_row : a' *ℤ y' ≡ (r *ℤ x') +ℤ (b' *ℤ y)
  pub first_column : a' *ℤ x ≡ (c *ℤ y) +ℤ (a *ℤ x')
  pub second_column : b' *ℤ x ≡ (c *ℤ y') +ℤ (b *ℤ x')
  pub rises : pos 0 <ℤ a → a' ≤ℤ pos 0 → pos 0 <ℤ r
  pub falls : a ≤ℤ pos 0 → pos 0 <ℤ a' → r <ℤ pos 0
  pub rises' : pos 0 <ℤ b → b' ≤ℤ pos 0 → pos 0 <ℤ r
  pub falls' : b ≤ℤ pos 0 → pos 0 <ℤ b' → r <ℤ pos 0
  pub ascends : a ≤ℤ pos 0 → pos 0 <ℤ b → pos 0 <ℤ c
  pub descends : pos 0 <ℤ a → b ≤ℤ pos 0 → c <ℤ pos 0
  pub ascends' : a' ≤ℤ pos 0 → pos 0 <ℤ b' → pos 0 <ℤ c
  pub descends' : pos 0 <ℤ a' → b' ≤ℤ pos 0 → c <ℤ pos 0
  pub clear : IsClear x x' y y'

-- the border's line and the sights' exchanged
exchanged_clear : (x x' y y' : ℤ) → IsClear x x' y y' → IsClear y y' x x'
exchanged_clear x x' y y' (first_up h g) = second_up h g
exchanged_clear x x' y y' (first_down h g) = second_down h g
exchanged_clear x x' y y' (second_up h g) = first_up h g
exchanged_clear x x' y y' (second_down h g) = first_down h g
exchanged_clear x x' y y' (in_line e f g h) = in_line g h e f

exchanged_sum : (a y b x r z : ℤ) → a *ℤ y ≡ (r *ℤ x) +ℤ (b *ℤ z) → b *ℤ z ≡ ((pos 0 -ℤ r) *ℤ x) +ℤ (a *ℤ y)
exchanged_sum a y b x r z e = go (a *ℤ y) (r *ℤ x) (b *ℤ z) ((pos 0 -ℤ r) *ℤ x) e (turned r x)
  where
    go : (k l m n : ℤ) → k ≡ l +ℤ m → n ≡ pos 0 -ℤ l → m ≡ n +ℤ k
    go k l m n e f = omega (arith, ints)

abbrev exchanged : Lie → Lie
exchanged l = record {
  a = l.a;
  b = l.a';
  a' = l.b;
  b' = l.b';
  r = pos 0 -ℤ l.c;
  c = pos 0 -ℤ l.r;
  x = l.y;
  x' = l.y';
  y = l.x;
  y' = l.x';
  first_row = exchanged_sum l.a' l.x l.a l.y l.c l.x' l.first_column;
  second_row = exchanged_sum l.b' l.x l.b l.y' l.c l.x' l.second_column;
  first_column = exchanged_sum l.a l.y' l.b l.x l.r l.y l.first_row;
  second_column = exchanged_sum l.a' l.y' l.b' l.x' l.r l.y l.second_row;
  rises = λ h g. negation_positive _ (l.descends h g);
  falls = λ h g. strict_down (l.ascends h g);
  rises' = λ h g. negation_positive _ (l.descends' h g);
  falls' = λ h g. strict_down (l.ascends' h g);
  ascends = λ h g. negation_positive _ (l.falls h g);
  descends = λ h g. strict_down (l.rises h g);
  ascends' = λ h g. negation_positive _ (l.falls' h g);
  descends' = λ h g. strict_down (l.rises' h g);
  clear = exchanged_clear l.x l.x' l.y l.y' l.clear;
}

-- the two sights exchanged
swapped_clear : (x x' y y' : ℤ) → IsClear x x' y y' → IsClear x' x (pos 0 -ℤ y) (pos 0 -ℤ y')
swapped_clear x x' y y' (first_up h g) = first_up g h
swapped_clear x x' y y' (first_down h g) = first_down g h
swapped_clear x x' y y' (second_up h g) = second_down (omega (arith, ints)) (omega (arith, ints))
swapped_clear x x' y y' (second_down h g) = second_up (omega (arith, ints)) (omega (arith, ints))
swapped_clear x x' y y' (in_line e f g h) = in_line f e (omega (arith, ints)) (omega (arith, ints))

swapped_row : (a y r x b z : ℤ) → a *ℤ y ≡ (r *ℤ x) +ℤ (b *ℤ z) → a *ℤ (pos 0 -ℤ y) ≡ ((pos 0 -ℤ r) *ℤ x) +ℤ (b *ℤ (pos 0 -ℤ z))
swapped_row a y r x b z e = go (a *ℤ y) (r *ℤ x) (b *ℤ z) _ _ _ e (turned_second a y) (turned r x) (turned_second b z)
  where
    go : (k l m k' l' m' : ℤ) → k ≡ l +ℤ m → k' ≡ pos 0 -ℤ k → l' ≡ pos 0 -ℤ l → m' ≡ pos 0 -ℤ m → k' ≡ l' +ℤ m'
    go k l m k' l' m' e f g h = omega (arith, ints)

swapped_column : (a x c y b z : ℤ) → a *ℤ x ≡ (c *ℤ y) +ℤ (b *ℤ z) → b *ℤ z ≡ (c *ℤ (pos 0 -ℤ y)) +ℤ (a *ℤ x)
swapped_column a x c y b z e = go (a *ℤ x) (c *ℤ y) (b *ℤ z) _ e (turned_second c y)
  where
    go : (k l m n : ℤ) → k ≡ l +ℤ m → n ≡ pos 0 -ℤ l → m ≡ n +ℤ k
    go k l m n e f = omega (arith, ints)

abbrev swapped : Lie → Lie
swapped l = record {
  a = l.a';
  b = l.b';
  a' = l.a;
  b' = l.b;
  r = pos 0 -ℤ l.r;
  c = l.c;
  x = l.x';
  x' = l.x;
  y = pos 0 -ℤ l.y;
  y' = pos 0 -ℤ l.y';
  first_row = swapped_row l.a' l.y' l.r l.x' l.b' l.y l.second_row;
  second_row = swapped_row l.a l.y' l.r l.x l.b l.y l.first_row;
  first_column = swapped_column l.a' l.x l.c l.y l.a l.x' l.first_column;
  second_column = swapped_column l.b' l.x l.c l.y' l.b l.x' l.second_column;
  rises = λ h g. negation_positive _ (l.falls g h);
  falls = λ h g. strict_down (l.rises g h);
  rises' = λ h g. negation_positive _ (l.falls' g h);
  falls' = λ h g. strict_down (l.rises' g h);
  ascends = l.ascends';
  descends = l.descends';
  ascends' = l.ascends;
  descends' = l.descends;
  clear = swapped_clear l.x l.x' l.y l.y' l.clear;
}

-- ---- counting
pub counts-swapped : (v w : Bool) (x : ℤ) → counts v w (pos 0 -ℤ x) ≡ counts w v x
counts-swapped false false x = refl
counts-swapped false true x = sym (test_up x)
counts-swapped true false x = sym (test_down x)
counts-swapped true true x = refl

-- at both sights or at neither, but for the ends to the right of the way
abbrev Balance : Lie → Bool → Bool → Bool → Bool → Type 0
Balance l v w v' w' = xor (xor (counts v w l.x) (counts v' w' l.x')) (xor (counts v v' l.y) (counts w w' l.y')) ≡ false

of_exchanged : (l : Lie) (v w v' w' : Bool) → Balance (exchanged l) v v' w w' → Balance l v w v' w'
of_exchanged l v w v' w' h = xor-comm (xor (counts v w l.x) (counts v' w' l.x')) (xor (counts v v' l.y) (counts w w' l.y')) ∙ h

of_swapped : (l : Lie) (v w v' w' : Bool) → Balance (swapped l) v' w' v w → Balance l v w v' w'
of_swapped l v w v' w' h =
    sym (λ i. xor (xor-comm (counts v' w' l.x') (counts v w l.x) i) (xor (counts-swapped v' v l.y i) (counts-swapped w' w l.y' i)))
    ∙ h

-- ---- the rows of the table, but for exchanges
same_pair : (v w : Bool) → v ≡ w → xor (xor v w) false ≡ false
same_pair v w e = ap (λ u. xor (xor u w) false) e ∙ ap (λ u. xor u false) (xor-twice w)

pub same_first : (v w : Bool) → v ≡ w → xor (xor v false) (xor w false) ≡ false
same_first v w e = ap (λ u. xor (xor u false) (xor w false)) e ∙ xor-twice (xor w false)

difference_of : (k l m : ℤ) → k ≡ l +ℤ m → l ≡ k -ℤ m
difference_of k l m e = omega (arith, ints)

second_of : (k l m : ℤ) → k ≡ l +ℤ m → m ≡ k -ℤ l
second_of k l m e = omega (arith, ints)

module _ (l : Lie) where
  both_below : l.a ≤ℤ pos 0 → l.a' ≤ℤ pos 0 → pos 0 <ℤ l.b → pos 0 <ℤ l.b' → Balance l false true false true
  both_below p p' q q' = same_pair _ _
      (same_side l.a l.b l.a' l.b' l.c l.x l.x' l.y l.y' (difference_of (l.a' *ℤ l.x) (l.c *ℤ l.y) (l.a *ℤ l.x') l.first_column) (difference_of (l.b' *ℤ l.x) (l.c *ℤ l.y') (l.b *ℤ l.x') l.second_column)
      p p' (at_most_of_less _ _ q) (at_most_of_less _ _ q') (l.ascends p q) l.clear)

  both_above : pos 0 <ℤ l.a → pos 0 <ℤ l.a' → l.b ≤ℤ pos 0 → l.b' ≤ℤ pos 0 → Balance l true false true false
  both_above p p' q q' = same_pair _ _
      (test_up l.x
      ∙ same_side (pos 0 -ℤ l.a) (pos 0 -ℤ l.b) (pos 0 -ℤ l.a') (pos 0 -ℤ l.b') (pos 0 -ℤ l.c) (pos 0 -ℤ l.x) (pos 0 -ℤ l.x') (pos 0 -ℤ l.y) (pos 0 -ℤ l.y')
      (turned_difference l.c l.y l.a' l.x l.a l.x' (difference_of (l.a' *ℤ l.x) (l.c *ℤ l.y) (l.a *ℤ l.x') l.first_column))
      (turned_difference l.c l.y' l.b' l.x l.b l.x' (difference_of (l.b' *ℤ l.x) (l.c *ℤ l.y') (l.b *ℤ l.x') l.second_column))
      (down_of (at_most_of_less _ _ p)) (down_of (at_most_of_less _ _ p')) (negation_not_negative _ q) (negation_not_negative _ q') (negation_positive _ (l.descends p q)) (turned_clear l.x l.x' l.y l.y' l.clear)
      ∙ sym (test_up l.x'))

  first_above : pos 0 <ℤ l.a → l.b ≤ℤ pos 0 → l.a' ≤ℤ pos 0 → Balance l true false false false
  first_above p q p' = same_first _ _
      (same_fall l.a l.b l.a' l.r l.c l.x l.x' l.y l.y' l.first_row (second_of (l.a' *ℤ l.x) (l.c *ℤ l.y) (l.a *ℤ l.x') l.first_column)
      (at_most_of_less _ _ p) q p' (l.rises p p') (l.descends p q) l.clear)

  first_below : l.a ≤ℤ pos 0 → pos 0 <ℤ l.b → pos 0 <ℤ l.a' → Balance l false true true true
  first_below p q p' = same_first _ _
      (test_down l.x
      ∙ same_fall (pos 0 -ℤ l.a) (pos 0 -ℤ l.b) (pos 0 -ℤ l.a') (pos 0 -ℤ l.r) (pos 0 -ℤ l.c) (pos 0 -ℤ l.x) (pos 0 -ℤ l.x') (pos 0 -ℤ l.y) (pos 0 -ℤ l.y')
      (turned_sum l.a l.y' l.r l.x l.b l.y l.first_row)
      (turned_difference l.a l.x' l.a' l.x l.c l.y (second_of (l.a' *ℤ l.x) (l.c *ℤ l.y) (l.a *ℤ l.x') l.first_column))
      (negation_not_negative _ p) (down_of (at_most_of_less _ _ q)) (down_of (at_most_of_less _ _ p')) (negation_positive _ (l.falls p p')) (strict_down (l.ascends p q)) (turned_clear l.x l.x' l.y l.y' l.clear)
      ∙ sym (test_down l.y))

-- a border counts at both sights or at neither, but for its ends to the right of the way
pub balanced : (l : Lie) → Balance l (lt_z (pos 0) l.a) (lt_z (pos 0) l.b) (lt_z (pos 0) l.a') (lt_z (pos 0) l.b')
balanced l = by (lt_z (pos 0) l.a) (lt_z (pos 0) l.b) (lt_z (pos 0) l.a') (lt_z (pos 0) l.b') refl refl refl refl
  where
    yes : {a : ℤ} → lt_z (pos 0) a ≡ true → pos 0 <ℤ a
    yes {a} e = less_of (pos 0) a e

    no : {a : ℤ} → lt_z (pos 0) a ≡ false → a ≤ℤ pos 0
    no {a} e = most_of (pos 0) a e

    by : (v w v' w' : Bool) → lt_z (pos 0) l.a ≡ v → lt_z (pos 0) l.b ≡ w → lt_z (pos 0) l.a' ≡ v' → lt_z (pos 0) l.b' ≡ w' → Balance l v w v' w'
    by false false false false e f g h = refl
    by true true true true e f g h = refl
    by false true true false e f g h = absurd (positive_not_negative l.r (l.rises' (yes f) (no h)) (l.falls (no e) (yes g)))
    by true false false true e f g h = absurd (positive_not_negative l.r (l.rises (yes e) (no g)) (l.falls' (no f) (yes h)))
    by false true false true e f g h = both_below l (no e) (no g) (yes f) (yes h)
    by true false true false e f g h = both_above l (yes e) (yes g) (no f) (no h)
    by false false true true e f g h = of_exchanged l false false true true (both_below (exchanged l) (no e) (no f) (yes g) (yes h))
    by true true false false e f g h = of_exchanged l true true false false (both_above (exchanged l) (yes e) (yes f) (no g) (no h))
    by true false false false e f g h = first_above l (yes e) (no f) (no g)
    by false true true true e f g h = first_below l (no e) (yes f) (yes g)
    by false false true false e f g h = of_swapped l false false true false (first_above (swapped l) (yes g) (no h) (no e))
    by true true false true e f g h = of_swapped l true true false true (first_below (swapped l) (no g) (yes h) (yes e))
    by false true false false e f g h =
        of_exchanged l false true false false (of_swapped (exchanged l) false false true false (first_above (swapped (exchanged l)) (yes f) (no h) (no e)))
    by true false true true e f g h =
        of_exchanged l true false true true (of_swapped (exchanged l) true true false true (first_below (swapped (exchanged l)) (no f) (yes h) (yes e)))
    by false false false true e f g h =
        of_swapped l false false false true (of_exchanged (swapped l) false true false false (of_swapped (exchanged (swapped l)) false false true false (first_above (swapped (exchanged (swapped l))) (yes h) (no f) (no g))))
    by true true true false e f g h =
        of_swapped l true true true false (of_exchanged (swapped l) true false true true (of_swapped (exchanged (swapped l)) true true false true (first_below (swapped (exchanged (swapped l))) (no h) (yes f) (yes g))))
