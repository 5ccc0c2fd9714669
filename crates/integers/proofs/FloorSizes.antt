-- A floor is no larger than a whole number that bounds its fraction.
use Rattle.std.proofs.Common.{◌≡◌, ℕ, zero, suc, ◌*◌, ◌≤◌, [], ◌∷◌, arith, refl, subst}
use Rattle.std.specs.Prelude.{ℤ, pos, negsuc, neg_ℤ, ◌+ℤ◌, ◌-ℤ◌, ◌*ℤ◌, ◌<ℤ◌, ◌≤ℤ◌, unsigned_abs}
use Rattle.std.proofs.lemmas.Int.{ints, by_lt_z}
use Rattle.integers.specs.Floors.{IsFloor}
use Rattle.integers.proofs.Signs.{mul_nonneg}
use Rattle.integers.proofs.Ring.{ring, var, con, ◌⊕◌, ◌⊖◌, ◌⊗◌}

-- a step up of the quotient is a step of at least d
step_up : (q r d : ℤ) → pos 0 <ℤ d → q <ℤ r → (q *ℤ d +ℤ d) ≤ℤ (r *ℤ d)
step_up q r d h l =
    let m : pos 0 ≤ℤ ((r -ℤ (q +ℤ pos 1)) *ℤ d) = mul_nonneg (r -ℤ (q +ℤ pos 1)) d (omega (arith, ints)) (omega (arith, ints)) in
    let e : (r -ℤ (q +ℤ pos 1)) *ℤ d ≡ r *ℤ d -ℤ (q *ℤ d +ℤ d) =
    ring (q ∷ r ∷ d ∷ []) ((var 1 ⊖ (var 0 ⊕ con (pos 1))) ⊗ var 2) ((var 1 ⊗ var 2) ⊖ ((var 0 ⊗ var 2) ⊕ var 2)) refl in
    let P : ℤ → Type 0 = λ z. pos 0 ≤ℤ z in
    ordered (q *ℤ d +ℤ d) (r *ℤ d) (subst P e m)
  where
    ordered : (x y : ℤ) → pos 0 ≤ℤ (y -ℤ x) → x ≤ℤ y
    ordered x y h = omega (arith, ints)

over : (x n : ℤ) (m e : ℕ) → pos 0 <ℤ pos e → unsigned_abs n ≤ m * e → (pos m *ℤ pos e +ℤ pos e) ≤ℤ x → x ≤ℤ n → ⊥
over x n m e h s l k = omega (arith, ints)

under : (x n : ℤ) (m e : ℕ) → unsigned_abs n ≤ m * e → x ≤ℤ (neg_ℤ (pos m) *ℤ pos e) → n <ℤ x → ⊥
under x n zero e s l k = omega (arith, ints)
under x n (suc m) e s l k = omega (arith, ints)

pub IsFloor-size : (q n d : ℤ) (m : ℕ) → pos 0 <ℤ d → unsigned_abs n ≤ m * unsigned_abs d → IsFloor q n d → unsigned_abs q ≤ m
IsFloor-size q n (negsuc e) m h s f = absurd (omega (arith, ints))
IsFloor-size q n (pos e) m h s f =
    by_lt_z (pos m) q (λ l. absurd (over (q *ℤ pos e) n m e h s (step_up (pos m) q (pos e) h l) f.at_most))
    (λ high. by_lt_z q (neg_ℤ (pos m)) (λ l. absurd (under (q *ℤ pos e +ℤ pos e) n m e s (step_up q (neg_ℤ (pos m)) (pos e) h l) f.rest_below)) (λ low. within q m high low))
  where
    within : (q : ℤ) (m : ℕ) → q ≤ℤ pos m → neg_ℤ (pos m) ≤ℤ q → unsigned_abs q ≤ m
    within q zero h k = omega (arith, ints)
    within q (suc m) h k = omega (arith, ints)
