-- A sum of two products, with whole parts and rests taken apart, is compared with a third product.
use Rattle.std.proofs.Common.{◌≡◌, ◌↔◌, ◌⊎◌, inl, inr, [], ◌∷◌, refl, ◌∙◌, arith}
use Rattle.std.specs.Prelude.{ℤ, pos, ◌+ℤ◌, ◌-ℤ◌, ◌*ℤ◌, ◌<ℤ◌, ◌≤ℤ◌}
use Rattle.std.proofs.lemmas.Int.{ints, by_lt_z}
use Rattle.integers.proofs.Comparisons.{gap_of_at_most, not_negative_of_positive, sum_positive_last}
use Rattle.integers.specs.Floors.{IsFloor}
use Rattle.integers.proofs.Ring.{var, con, ◌⊕◌, ◌⊖◌, ◌⊗◌, ring, less_by, gap_of_less}
use Rattle.integers.proofs.Signs.{mul_nonneg}

-- with the floor q of r / d: w + r / d is less than c exactly where w + q is
pub less_by_floor : (w r c d q : ℤ) → pos 0 <ℤ d → IsFloor q r d → ((w +ℤ q) <ℤ c) ↔ (((w *ℤ d) +ℤ r) <ℤ (c *ℤ d))
less_by_floor w r c d q positive floor = (down, λ less. up less (by_lt_z (w +ℤ q) c yes no))
  where
    down : (w +ℤ q) <ℤ c → ((w *ℤ d) +ℤ r) <ℤ (c *ℤ d)
    down less =
        less_by ((w *ℤ d) +ℤ r) (c *ℤ d) ((((c -ℤ (w +ℤ q)) -ℤ pos 1) *ℤ d) +ℤ (((q *ℤ d) +ℤ d) -ℤ r))
        (ring (w ∷ r ∷ c ∷ d ∷ q ∷ [])
        ((var 2 ⊗ var 3) ⊖ ((var 0 ⊗ var 3) ⊕ var 1))
        ((((var 2 ⊖ (var 0 ⊕ var 4)) ⊖ con (pos 1)) ⊗ var 3) ⊕ (((var 4 ⊗ var 3) ⊕ var 3) ⊖ var 1)) refl)
        (sum_positive_last _ _ (mul_nonneg ((c -ℤ (w +ℤ q)) -ℤ pos 1) d (one_less (w +ℤ q) c less) (not_negative_of_positive d positive)) (gap_of_less r ((q *ℤ d) +ℤ d) floor.rest_below))
      where
        one_less : (x y : ℤ) → x <ℤ y → pos 0 ≤ℤ ((y -ℤ x) -ℤ pos 1)
        one_less x y h = omega (arith, ints)

    up : ((w *ℤ d) +ℤ r) <ℤ (c *ℤ d) → ((w +ℤ q) <ℤ c) ⊎ (c ≤ℤ (w +ℤ q)) → (w +ℤ q) <ℤ c
    up less (inl h) = h
    up less (inr h) = absurd (no_sum ((w *ℤ d) +ℤ r) (c *ℤ d) _ _ (mul_nonneg ((w +ℤ q) -ℤ c) d (gap_of_at_most c (w +ℤ q) h) (not_negative_of_positive d positive)) (gap_of_at_most (q *ℤ d) r floor.at_most)
        (ring (w ∷ r ∷ c ∷ d ∷ q ∷ []) (((var 0 ⊗ var 3) ⊕ var 1) ⊖ (var 2 ⊗ var 3)) ((((var 0 ⊕ var 4) ⊖ var 2) ⊗ var 3) ⊕ (var 1 ⊖ (var 4 ⊗ var 3))) refl) less)
      where
        no_sum : (x y a b : ℤ) → pos 0 ≤ℤ a → pos 0 ≤ℤ b → x -ℤ y ≡ a +ℤ b → x <ℤ y → ⊥
        no_sum x y a b h k e less = omega (arith, ints)

    yes : (w +ℤ q) <ℤ c → ((w +ℤ q) <ℤ c) ⊎ (c ≤ℤ (w +ℤ q))
    yes = inl

    no : c ≤ℤ (w +ℤ q) → ((w +ℤ q) <ℤ c) ⊎ (c ≤ℤ (w +ℤ q))
    no = inr

-- u and v in whole parts and rests
pub sum_of_parts : (a b u v d first second first_rest second_rest : ℤ) → u ≡ (first *ℤ d) +ℤ first_rest → v ≡ (second *ℤ d) +ℤ second_rest
    → (a *ℤ u) +ℤ (b *ℤ v) ≡ (((a *ℤ first) +ℤ (b *ℤ second)) *ℤ d) +ℤ ((a *ℤ first_rest) +ℤ (b *ℤ second_rest))
sum_of_parts a b u v d first second first_rest second_rest e f =
    (λ i. (a *ℤ e i) +ℤ (b *ℤ f i))
    ∙ ring (a ∷ b ∷ d ∷ first ∷ second ∷ first_rest ∷ second_rest ∷ [])
    ((var 0 ⊗ ((var 3 ⊗ var 2) ⊕ var 5)) ⊕ (var 1 ⊗ ((var 4 ⊗ var 2) ⊕ var 6)))
    ((((var 0 ⊗ var 3) ⊕ (var 1 ⊗ var 4)) ⊗ var 2) ⊕ ((var 0 ⊗ var 5) ⊕ (var 1 ⊗ var 6))) refl
