-- The order of fractions: chains of comparisons of cross products.
use Rattle.std.proofs.Common.{◌≡◌, [], ◌∷◌, refl, sym, subst, ap, ◌∙◌, arith, ◌⊎◌, inl, inr}
use Rattle.std.specs.Prelude.{ℤ, pos, ◌+ℤ◌, ◌-ℤ◌, ◌*ℤ◌, ◌<ℤ◌, ◌≤ℤ◌}
use Rattle.std.proofs.lemmas.Int.{ints, by_lt_z}
use Rattle.integers.proofs.Comparisons.{not_negative_of_positive, gap_of_at_most, at_most_of_less, less_of_gap, at_most_of_gap, less_not_at_most, sum_positive, gap_of_same, same_of_both, at_most_itself, zero_times, zero_between, at_most_of_same}
use Rattle.integers.proofs.Ring.{var, ◌⊕◌, ◌⊖◌, ◌⊗◌, ring, gap_of_less, less_by, same_of_gap}
use Rattle.integers.proofs.Signs.{mul_nonneg, mul_pos, nonneg_of_mul, pos_of_mul, zero_of_mul}
use Rattle.exact_frac.specs.declared.Frac.{Frac}
use Rattle.geometry.specs.Places.{IsEarlier, IsValue, IsBetween}

-- ---- differences
pub three : (x y : ℤ) → (x <ℤ y) ⊎ ((x ≡ y) ⊎ (y <ℤ x))
three x y = by_lt_z x y (λ h. inl h) (λ h. by_lt_z y x (λ k. inr (inr k)) (λ k. inr (inl (same_of_both x y k h))))

sum_most : (z x y : ℤ) → z ≡ x +ℤ y → pos 0 ≤ℤ x → pos 0 ≤ℤ y → pos 0 ≤ℤ z
sum_most z x y e p q = omega (arith, ints)

sum_left : (z x y : ℤ) → z ≡ x +ℤ y → pos 0 <ℤ x → pos 0 ≤ℤ y → pos 0 <ℤ z
sum_left z x y e p q = omega (arith, ints)

-- ---- a / b, c / d and e / f
module _ (a b c d e f : ℤ) (b_up : pos 0 <ℤ b) (d_up : pos 0 <ℤ d) (f_up : pos 0 <ℤ f) where
  chain : d *ℤ ((e *ℤ b) -ℤ (a *ℤ f)) ≡ (f *ℤ ((c *ℤ b) -ℤ (a *ℤ d))) +ℤ (b *ℤ ((e *ℤ d) -ℤ (c *ℤ f)))
  chain = ring (a ∷ b ∷ c ∷ d ∷ e ∷ f ∷ [])
      (var 3 ⊗ ((var 4 ⊗ var 1) ⊖ (var 0 ⊗ var 5)))
      ((var 5 ⊗ ((var 2 ⊗ var 1) ⊖ (var 0 ⊗ var 3))) ⊕ (var 1 ⊗ ((var 4 ⊗ var 3) ⊖ (var 2 ⊗ var 5)))) refl

  pub most_most : (a *ℤ d) ≤ℤ (c *ℤ b) → (c *ℤ f) ≤ℤ (e *ℤ d) → (a *ℤ f) ≤ℤ (e *ℤ b)
  most_most p q = at_most_of_gap (a *ℤ f) (e *ℤ b) (nonneg_of_mul d ((e *ℤ b) -ℤ (a *ℤ f)) d_up (sum_most _ _ _ chain
      (mul_nonneg f ((c *ℤ b) -ℤ (a *ℤ d)) (not_negative_of_positive f f_up) (gap_of_at_most (a *ℤ d) (c *ℤ b) p)) (mul_nonneg b ((e *ℤ d) -ℤ (c *ℤ f)) (not_negative_of_positive b b_up) (gap_of_at_most (c *ℤ f) (e *ℤ d) q))))

  pub less_most : (a *ℤ d) <ℤ (c *ℤ b) → (c *ℤ f) ≤ℤ (e *ℤ d) → (a *ℤ f) <ℤ (e *ℤ b)
  less_most p q = less_of_gap (a *ℤ f) (e *ℤ b) (pos_of_mul d ((e *ℤ b) -ℤ (a *ℤ f)) d_up (sum_left _ _ _ chain
      (mul_pos f ((c *ℤ b) -ℤ (a *ℤ d)) f_up (gap_of_less (a *ℤ d) (c *ℤ b) p)) (mul_nonneg b ((e *ℤ d) -ℤ (c *ℤ f)) (not_negative_of_positive b b_up) (gap_of_at_most (c *ℤ f) (e *ℤ d) q))))

  pub most_less : (a *ℤ d) ≤ℤ (c *ℤ b) → (c *ℤ f) <ℤ (e *ℤ d) → (a *ℤ f) <ℤ (e *ℤ b)
  most_less p q = less_of_gap (a *ℤ f) (e *ℤ b) (pos_of_mul d ((e *ℤ b) -ℤ (a *ℤ f)) d_up (sum_positive _ _ _ chain
      (mul_nonneg f ((c *ℤ b) -ℤ (a *ℤ d)) (not_negative_of_positive f f_up) (gap_of_at_most (a *ℤ d) (c *ℤ b) p)) (mul_pos b ((e *ℤ d) -ℤ (c *ℤ f)) b_up (gap_of_less (c *ℤ f) (e *ℤ d) q))))

  pub less_less : (a *ℤ d) <ℤ (c *ℤ b) → (c *ℤ f) <ℤ (e *ℤ d) → (a *ℤ f) <ℤ (e *ℤ b)
  less_less p q = less_most p (at_most_of_less (c *ℤ f) (e *ℤ d) q)

-- ---- fractions
abbrev pub IsNotLater : Frac → Frac → Type 0
IsNotLater x y = (x.num *ℤ y.den) ≤ℤ (y.num *ℤ x.den)

pub not_later_of_not : (x y : Frac) → ¬ IsEarlier x y → IsNotLater y x
not_later_of_not x y h = by_lt_z (x.num *ℤ y.den) (y.num *ℤ x.den) (λ k. absurd (h k)) (λ k. k)

pub earlier_not_later : (x y z : Frac) → IsEarlier x y → IsNotLater y z → IsEarlier x z
earlier_not_later x y z = less_most x.num x.den y.num y.den z.num z.den x.positive y.positive z.positive

pub not_later_earlier : (x y z : Frac) → IsNotLater x y → IsEarlier y z → IsEarlier x z
not_later_earlier x y z = most_less x.num x.den y.num y.den z.num z.den x.positive y.positive z.positive

pub earlier_earlier : (x y z : Frac) → IsEarlier x y → IsEarlier y z → IsEarlier x z
earlier_earlier x y z = less_less x.num x.den y.num y.den z.num z.den x.positive y.positive z.positive

pub not_later_not_later : (x y z : Frac) → IsNotLater x y → IsNotLater y z → IsNotLater x z
not_later_not_later x y z = most_most x.num x.den y.num y.den z.num z.den x.positive y.positive z.positive

pub not_later_self : (x : Frac) → IsNotLater x x
not_later_self x = at_most_itself (x.num *ℤ x.den)

pub not_both : (x y : Frac) → IsEarlier x y → IsNotLater y x → ⊥
not_both x y = less_not_at_most (x.num *ℤ y.den) (y.num *ℤ x.den)

-- what is so strictly between two places
module _ (from to : Frac) (n m : ℤ) (up : pos 0 <ℤ m) where
  pub between_earlier : IsBetween from to n m → IsEarlier from to
  between_earlier h = less_less from.num from.den n m to.num to.den from.positive up to.positive h.0 h.1

  pub between_inner : IsBetween from to n m → pos 0 ≤ℤ from.num → pos 0 <ℤ n
  between_inner h least = pos_of_mul from.den n from.positive (after (from.num *ℤ m) (n *ℤ from.den) (from.den *ℤ n)
      (ring (from.den ∷ n ∷ []) (var 0 ⊗ var 1) (var 1 ⊗ var 0) refl) (mul_nonneg from.num m least (not_negative_of_positive m up)) h.0)
    where
      after : (x y z : ℤ) → z ≡ y → pos 0 ≤ℤ x → x <ℤ y → pos 0 <ℤ z
      after x y z e p q = omega (arith, ints)

-- a fraction of value n / m is 0 only where n is
pub zero_value : (r : Frac) (n m : ℤ) → r.num ≡ pos 0 → IsValue r n m → n ≡ pos 0
zero_value r n m zero is = zero_of_mul r.den n r.positive
    (ring (r.den ∷ n ∷ []) (var 0 ⊗ var 1) (var 1 ⊗ var 0) refl ∙ is ∙ ap (λ v. v *ℤ m) zero ∙ zero_times m)

-- 0 is the least place
pub zero_not_later : (x y : Frac) → x.num ≡ pos 0 → pos 0 ≤ℤ y.num → IsNotLater x y
zero_not_later x y zero least = subst (λ v. (v *ℤ y.den) ≤ℤ (y.num *ℤ x.den)) (sym zero) (least_is y.den (y.num *ℤ x.den) (mul_nonneg y.num x.den least (not_negative_of_positive x.den x.positive)))
  where
    least_is : (m x : ℤ) → pos 0 ≤ℤ x → (pos 0 *ℤ m) ≤ℤ x
    least_is m x h = omega (arith, ints)

-- between two places of an edge there is no end of the edge
pub between_last : (from to : Frac) (n m : ℤ) → pos 0 <ℤ m → IsBetween from to n m → to.num ≤ℤ to.den → n <ℤ m
between_last from to n m up h most = less_of_gap n m (pos_of_mul to.den (m -ℤ n) to.positive (sum_positive ((to.den -ℤ to.num) *ℤ m) ((to.num *ℤ m) -ℤ (n *ℤ to.den)) (to.den *ℤ (m -ℤ n))
    (ring (to.num ∷ to.den ∷ n ∷ m ∷ []) (var 1 ⊗ (var 3 ⊖ var 2)) (((var 1 ⊖ var 0) ⊗ var 3) ⊕ ((var 0 ⊗ var 3) ⊖ (var 2 ⊗ var 1))) refl)
    (mul_nonneg (to.den -ℤ to.num) m (gap_of_at_most to.num to.den most) (not_negative_of_positive m up)) (gap_of_less (n *ℤ to.den) (to.num *ℤ m) h.1)))

-- a fraction of value n / m is 1 only where n is m
pub one_value : (r : Frac) (n m : ℤ) → r.num ≡ r.den → IsValue r n m → n ≡ m
one_value r n m one is = same_of_gap n m (zero_of_mul r.den (n -ℤ m) r.positive
    (ring (r.den ∷ n ∷ m ∷ []) (var 0 ⊗ (var 1 ⊖ var 2)) ((var 1 ⊗ var 0) ⊖ (var 0 ⊗ var 2)) refl ∙ gap_of_same (n *ℤ r.den) (r.den *ℤ m) (is ∙ ap (λ v. v *ℤ m) one)))

-- a place that is not after 0 is 0, and one that is not before 1 is 1
pub zero_of_not_later : (x y : Frac) → IsNotLater x y → y.num ≡ pos 0 → pos 0 ≤ℤ x.num → x.num ≡ pos 0
zero_of_not_later x y h zero least = by_lt_z (pos 0) x.num
    (λ k. absurd (no (x.num *ℤ y.den) x.den (mul_pos x.num y.den k y.positive) (subst (λ v. (x.num *ℤ y.den) ≤ℤ (v *ℤ x.den)) zero h)))
    (λ k. zero_between x.num least k)
  where
    no : (x m : ℤ) → pos 0 <ℤ x → x ≤ℤ (pos 0 *ℤ m) → ⊥
    no x m h k = omega (arith, ints)

pub one_of_not_later : (x y : Frac) → IsNotLater x y → x.num ≡ x.den → y.num ≤ℤ y.den → y.num ≡ y.den
one_of_not_later x y h one most = equal y.num y.den
    (nonneg_of_mul x.den (y.num -ℤ y.den) x.positive (least (x.den *ℤ (y.num -ℤ y.den)) (x.den *ℤ y.den) (y.num *ℤ x.den)
    (ring (x.den ∷ y.num ∷ y.den ∷ []) (var 0 ⊗ (var 1 ⊖ var 2)) ((var 1 ⊗ var 0) ⊖ (var 0 ⊗ var 2)) refl) (subst (λ v. (v *ℤ y.den) ≤ℤ (y.num *ℤ x.den)) one h))) most
  where
    least : (z x y : ℤ) → z ≡ y -ℤ x → x ≤ℤ y → pos 0 ≤ℤ z
    least z x y e h = omega (arith, ints)

    equal : (x y : ℤ) → pos 0 ≤ℤ (x -ℤ y) → x ≤ℤ y → x ≡ y
    equal x y p q = omega (arith, ints)

-- 1 is the last place
pub not_later_one : (x y : Frac) → y.num ≡ y.den → x.num ≤ℤ x.den → IsNotLater x y
not_later_one x y one most =
    at_most_of_gap (x.num *ℤ y.den) (y.num *ℤ x.den) (subst (λ v. pos 0 ≤ℤ v) (sym (swapped ∙ ap (λ v. (y.den *ℤ (x.den -ℤ x.num)) +ℤ (v *ℤ x.den)) (gap_of_same y.num y.den one)))
    (more (y.den *ℤ (x.den -ℤ x.num)) x.den (mul_nonneg y.den (x.den -ℤ x.num) (not_negative_of_positive y.den y.positive) (gap_of_at_most x.num x.den most))))
  where
    swapped : (y.num *ℤ x.den) -ℤ (x.num *ℤ y.den) ≡ (y.den *ℤ (x.den -ℤ x.num)) +ℤ ((y.num -ℤ y.den) *ℤ x.den)
    swapped = ring (x.num ∷ x.den ∷ y.num ∷ y.den ∷ []) ((var 2 ⊗ var 1) ⊖ (var 0 ⊗ var 3)) ((var 3 ⊗ (var 1 ⊖ var 0)) ⊕ ((var 2 ⊖ var 3) ⊗ var 1)) refl

    more : (x z : ℤ) → pos 0 ≤ℤ x → pos 0 ≤ℤ (x +ℤ (pos 0 *ℤ z))
    more x z h = omega (arith, ints)

-- a place of the same value is between the same two
pub between_value : (a b : Frac) (n m k l : ℤ) → pos 0 <ℤ m → pos 0 <ℤ l → n *ℤ l ≡ k *ℤ m → IsBetween a b n m → IsBetween a b k l
between_value a b n m k l up positive same h = (
  less_most a.num a.den n m k l a.positive up positive h.0 (at_most_of_same (n *ℤ l) (k *ℤ m) same),
  most_less k l n m b.num b.den positive up b.positive (at_most_of_same (k *ℤ m) (n *ℤ l) (sym same)) h.1,
)

-- the mediant is strictly between
pub mediant_between : (a b : Frac) → IsEarlier a b → IsBetween a b (a.num +ℤ b.num) (a.den +ℤ b.den)
mediant_between a b h = (
  less_by (a.num *ℤ (a.den +ℤ b.den)) ((a.num +ℤ b.num) *ℤ a.den) ((b.num *ℤ a.den) -ℤ (a.num *ℤ b.den))
      (ring (a.num ∷ a.den ∷ b.num ∷ b.den ∷ []) (((var 0 ⊕ var 2) ⊗ var 1) ⊖ (var 0 ⊗ (var 1 ⊕ var 3))) ((var 2 ⊗ var 1) ⊖ (var 0 ⊗ var 3)) refl) gap,
  less_by ((a.num +ℤ b.num) *ℤ b.den) (b.num *ℤ (a.den +ℤ b.den)) ((b.num *ℤ a.den) -ℤ (a.num *ℤ b.den))
      (ring (a.num ∷ a.den ∷ b.num ∷ b.den ∷ []) ((var 2 ⊗ (var 1 ⊕ var 3)) ⊖ ((var 0 ⊕ var 2) ⊗ var 3)) ((var 2 ⊗ var 1) ⊖ (var 0 ⊗ var 3)) refl) gap,
)
  where
    gap : pos 0 <ℤ ((b.num *ℤ a.den) -ℤ (a.num *ℤ b.den))
    gap = gap_of_less (a.num *ℤ b.den) (b.num *ℤ a.den) h
