-- Greater products stand for lengths on the sheet that are at least as great.
use Rattle.std.proofs.Common.{[], ◌∷◌, refl, ℕ, ◌*◌, ◌+◌, ◌≤◌, ◌^◌, arith, subst}
use Rattle.std.specs.Prelude.{ℤ, pos, ◌+ℤ◌, ◌-ℤ◌, ◌*ℤ◌, ◌<ℤ◌, ◌≤ℤ◌}
use Rattle.std.proofs.lemmas.Int.{ints}
use Rattle.integers.proofs.Absolutes.{natural_not_negative}
use Rattle.integers.proofs.Comparisons.{gap_of_at_most, at_most_of_gap, twice_positive}
use Rattle.integers.proofs.Floors.{floor_of-ordered}
use Rattle.integers.proofs.Ring.{var, con, ◌⊕◌, ◌⊖◌, ◌⊗◌, ring}
use Rattle.integers.proofs.Signs.{mul_nonneg}
use Rattle.sheet_plan.specs.Numbers.{Measure, nearest, shortening_of, sheet_length}
use Rattle.sheet_plan.proofs.Rounding.{power_bounds, divisor_bounds}

below : (d : ℤ) → pos 0 <ℤ d → pos 0 ≤ℤ (pos 2 *ℤ (pos 2 *ℤ d))
below d h = omega (arith, ints)

nearest_ordered : (f u v d : ℤ) → pos 0 ≤ℤ f → pos 0 <ℤ d → u ≤ℤ v → nearest (f *ℤ u) d ≤ℤ nearest (f *ℤ v) d
nearest_ordered f u v d hf hd h =
    floor_of-ordered (pos 2 *ℤ (f *ℤ u) +ℤ d) (pos 2 *ℤ d) (pos 2 *ℤ (f *ℤ v) +ℤ d) (pos 2 *ℤ d) (twice_positive d hd) (twice_positive d hd)
    (at_most_of_gap _ _ (subst (λ (z : ℤ). pos 0 ≤ℤ z) (ring (f ∷ u ∷ v ∷ d ∷ [])
    ((var 0 ⊗ (var 2 ⊖ var 1)) ⊗ (con (pos 2) ⊗ (con (pos 2) ⊗ var 3)))
    ((((con (pos 2) ⊗ (var 0 ⊗ var 2)) ⊕ var 3) ⊗ (con (pos 2) ⊗ var 3)) ⊖ (((con (pos 2) ⊗ (var 0 ⊗ var 1)) ⊕ var 3) ⊗ (con (pos 2) ⊗ var 3))) refl)
    (mul_nonneg (f *ℤ (v -ℤ u)) (pos 2 *ℤ (pos 2 *ℤ d)) (mul_nonneg f (v -ℤ u) hf (gap_of_at_most u v h)) (below d hd))))

pub length_ordered : (m : Measure) (q : ℕ) (u v : ℤ) → 1 ≤ m.den → m.den ≤ 100 → m.decimals ≤ 6 → u ≤ℤ v → sheet_length m q u (pos 1) ≤ℤ sheet_length m q v (pos 1)
length_ordered m q u v low high few h =
    nearest_ordered (pos (100 * m.num * shortening_of q)) u v (pos (m.den * 10 ^ (9 + m.decimals)) *ℤ pos 1) (natural_not_negative _)
    (some (m.den * 10 ^ (9 + m.decimals)) (divisor_bounds m.den (10 ^ (9 + m.decimals)) low high (power_bounds m.decimals few)).least) h
  where
    some : (n : ℕ) → 10 ^ 9 ≤ n → pos 0 <ℤ (pos n *ℤ pos 1)
    some n h = omega (arith, ints)
