-- Floors: `floor_of` is the floor, there is no other, floors keep the order of fractions, and a division may go in two steps.
use Rattle.std.proofs.Common.{◌≡◌, [], ◌∷◌, refl, sym, subst, arith}
use Rattle.std.specs.Prelude.{ℤ, pos, negsuc, ◌+ℤ◌, ◌-ℤ◌, ◌*ℤ◌, ◌≤ℤ◌, ◌<ℤ◌}
use Rattle.std.proofs.lemmas.Int.{ints, by_lt_z}
use Rattle.integers.specs.Floors.{IsFloor, floor_of}
use Rattle.integers.proofs.Comparisons.{at_most_of_gap, gap_of_at_most, not_negative_of_positive, sum_not_negative}
use Rattle.integers.proofs.Ring.{var, con, ◌⊕◌, ◌⊖◌, ◌⊗◌, ring, less_by, gap_of_less}
use Rattle.integers.proofs.Signs.{mul_nonneg, mul_pos}

pub floor_of-is : (n d : ℤ) → pos 0 <ℤ d → IsFloor (floor_of n d) n d
floor_of-is (pos a) (pos b) h = omega (arith, ints)
floor_of-is (negsuc a) (pos b) h = omega (arith, ints)
floor_of-is n (negsuc b) h = absurd (omega (arith, ints))

-- the quotient whose remainder is not negative
pub floor_of_quotient : (q n d : ℤ) → pos 0 <ℤ d → q ≡ floor_of n d → IsFloor q n d
floor_of_quotient q n d h e = let P : ℤ → Type 0 = λ z. IsFloor z n d in subst P (sym e) (floor_of-is n d h)

-- a floor above that of a fraction that is at least as great: three products of signs that can't be
crossed : (q n d p m e : ℤ) → pos 0 <ℤ d → pos 0 <ℤ e → IsFloor q n d → IsFloor p m e → (n *ℤ e) ≤ℤ (m *ℤ d) → p <ℤ q → ⊥
crossed q n d p m e hd he f g h less =
    let de = mul_pos d e hd he in
    let first = mul_nonneg ((q -ℤ p) -ℤ pos 1) (d *ℤ e) (omega (arith, ints, less)) (omega (arith, ints, de)) in
    let second = mul_pos ((p *ℤ e +ℤ e) -ℤ m) d (gap_of_less m (p *ℤ e +ℤ e) g.rest_below) hd in
    let third = mul_nonneg (n -ℤ (q *ℤ d)) e (gap_of_at_most (q *ℤ d) n f.at_most) (omega (arith, ints, he)) in
    no_sum _ _ _ _ first second third (gap_of_at_most (n *ℤ e) (m *ℤ d) h)
    (ring (q ∷ n ∷ d ∷ p ∷ m ∷ e ∷ [])
    ((((((var 0 ⊖ var 3) ⊖ con (pos 1)) ⊗ (var 2 ⊗ var 5)) ⊕ ((((var 3 ⊗ var 5) ⊕ var 5) ⊖ var 4) ⊗ var 2)) ⊕ ((var 1 ⊖ (var 0 ⊗ var 2)) ⊗ var 5)) ⊕ ((var 4 ⊗ var 2) ⊖ (var 1 ⊗ var 5)))
    (con (pos 0)) refl)
  where
    no_sum : (a b c z : ℤ) → pos 0 ≤ℤ a → pos 0 <ℤ b → pos 0 ≤ℤ c → pos 0 ≤ℤ z → ((a +ℤ b) +ℤ c) +ℤ z ≡ pos 0 → ⊥
    no_sum a b c z ha hb hc hz e = omega (arith, ints)

-- n / d is at most m / e
pub IsFloor-ordered : (q n d p m e : ℤ) → pos 0 <ℤ d → pos 0 <ℤ e → IsFloor q n d → IsFloor p m e → (n *ℤ e) ≤ℤ (m *ℤ d) → q ≤ℤ p
IsFloor-ordered q n d p m e hd he f g h = by_lt_z p q (λ less. absurd (crossed q n d p m e hd he f g h less)) (λ at_most. at_most)

pub IsFloor-unique : (q p n d : ℤ) → pos 0 <ℤ d → IsFloor q n d → IsFloor p n d → q ≡ p
IsFloor-unique q p n d hd f g =
    same q p (IsFloor-ordered q n d p n d hd hd f g (itself (n *ℤ d))) (IsFloor-ordered p n d q n d hd hd g f (itself (n *ℤ d)))
  where
    itself : (a : ℤ) → a ≤ℤ a
    itself a = omega (arith, ints)

    same : (a b : ℤ) → a ≤ℤ b → b ≤ℤ a → a ≡ b
    same a b h k = omega (arith, ints)

pub floor_of-unique : (q n d : ℤ) → pos 0 <ℤ d → IsFloor q n d → q ≡ floor_of n d
floor_of-unique q n d hd f = IsFloor-unique q (floor_of n d) n d hd f (floor_of-is n d hd)

pub floor_of-ordered : (n d m e : ℤ) → pos 0 <ℤ d → pos 0 <ℤ e → (n *ℤ e) ≤ℤ (m *ℤ d) → floor_of n d ≤ℤ floor_of m e
floor_of-ordered n d m e hd he h = IsFloor-ordered (floor_of n d) n d (floor_of m e) m e hd he (floor_of-is n d hd) (floor_of-is m e he) h

-- ---- a division in two steps, with what is left over
below : (a b : ℤ) → a <ℤ b → pos 0 ≤ℤ (b -ℤ a -ℤ pos 1)
below a b h = omega (arith, ints)

-- a whole part is set aside: n is a * w + r
pub IsFloor-shifted : (c f a r w n : ℤ) → n ≡ a *ℤ w +ℤ r → IsFloor c (f *ℤ r) w → IsFloor (f *ℤ a +ℤ c) (f *ℤ n) w
IsFloor-shifted c f a r w n e h = let P : ℤ → Type 0 = λ z. IsFloor (f *ℤ a +ℤ c) (f *ℤ z) w in subst P (sym e) (record {
  at_most = at_most_of_gap _ _ (subst (λ (z : ℤ). pos 0 ≤ℤ z) (ring (c ∷ f ∷ a ∷ r ∷ w ∷ []) ((var 1 ⊗ var 3) ⊖ (var 0 ⊗ var 4))
      ((var 1 ⊗ ((var 2 ⊗ var 4) ⊕ var 3)) ⊖ (((var 1 ⊗ var 2) ⊕ var 0) ⊗ var 4)) refl) (gap_of_at_most _ _ h.at_most));
  rest_below = less_by _ _ _ (ring (c ∷ f ∷ a ∷ r ∷ w ∷ []) (((((var 1 ⊗ var 2) ⊕ var 0) ⊗ var 4) ⊕ var 4) ⊖ (var 1 ⊗ ((var 2 ⊗ var 4) ⊕ var 3)))
      (((var 0 ⊗ var 4) ⊕ var 4) ⊖ (var 1 ⊗ var 3)) refl) (gap_of_less _ _ h.rest_below);
})

-- the floor of x / w, with b more, by m, is what comes of one division by m * w
pub IsFloor-nested : (q p x b w m : ℤ) → pos 0 <ℤ w → IsFloor p x w → IsFloor q (p +ℤ b) m → IsFloor q (x +ℤ b *ℤ w) (m *ℤ w)
IsFloor-nested q p x b w m hw inner outer =
    let up = mul_nonneg ((p +ℤ b) -ℤ (q *ℤ m)) w (gap_of_at_most _ _ outer.at_most) (not_negative_of_positive w hw) in
    let down = mul_nonneg (((q *ℤ m +ℤ m) -ℤ (p +ℤ b)) -ℤ pos 1) w (below _ _ outer.rest_below) (not_negative_of_positive w hw) in
    record {
      at_most = at_most_of_gap _ _ (subst (λ (z : ℤ). pos 0 ≤ℤ z) (ring (q ∷ p ∷ x ∷ b ∷ w ∷ m ∷ [])
          (((((var 1 ⊕ var 3) ⊖ (var 0 ⊗ var 5)) ⊗ var 4)) ⊕ (var 2 ⊖ (var 1 ⊗ var 4)))
          ((var 2 ⊕ (var 3 ⊗ var 4)) ⊖ (var 0 ⊗ (var 5 ⊗ var 4))) refl) (sum_not_negative _ _ up (gap_of_at_most _ _ inner.at_most)));
      rest_below = less_by _ _ _ (ring (q ∷ p ∷ x ∷ b ∷ w ∷ m ∷ [])
          (((var 0 ⊗ (var 5 ⊗ var 4)) ⊕ (var 5 ⊗ var 4)) ⊖ (var 2 ⊕ (var 3 ⊗ var 4)))
          ((((((var 0 ⊗ var 5) ⊕ var 5) ⊖ (var 1 ⊕ var 3)) ⊖ con (pos 1)) ⊗ var 4) ⊕ (((var 1 ⊗ var 4) ⊕ var 4) ⊖ var 2)) refl)
          (sum_pos _ _ down (gap_of_less _ _ inner.rest_below));
    }
  where
    sum_pos : (a b : ℤ) → pos 0 ≤ℤ a → pos 0 <ℤ b → pos 0 <ℤ (a +ℤ b)
    sum_pos a b h k = omega (arith, ints)
