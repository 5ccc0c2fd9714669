-- The order of fractions, by cross products.
use Rattle.std.proofs.Common.{◌≡◌, ℕ, ◌+◌, ◌<◌, [], ◌∷◌, refl, sym, subst, arith}
use Rattle.std.specs.Prelude.{ℤ, pos, ◌+ℤ◌, ◌-ℤ◌, ◌*ℤ◌, ◌<ℤ◌, ◌≤ℤ◌}
use Rattle.std.proofs.lemmas.Int.{ints}
use Rattle.integers.proofs.Absolutes.{natural_not_negative}
use Rattle.integers.proofs.Comparisons.{not_negative_of_positive, gap_of_at_most, less_of_gap, at_most_of_gap}
use Rattle.integers.proofs.Ring.{var, con, ◌⊕◌, ◌⊖◌, ◌⊗◌, ring, by_one, gap_of_less}
use Rattle.integers.proofs.Signs.{mul_pos, mul_nonneg, nonneg_of_mul, pos_of_mul}
use Rattle.integers.proofs.Weighted.{sum_pos}

-- n / m, k / l and u / w
module _ (n m k l u w : ℤ) (hm : pos 0 <ℤ m) (hl : pos 0 <ℤ l) (hw : pos 0 <ℤ w) where
  chain : l *ℤ ((u *ℤ m) -ℤ (n *ℤ w)) ≡ (((k *ℤ m) -ℤ (n *ℤ l)) *ℤ w) +ℤ (((u *ℤ l) -ℤ (k *ℤ w)) *ℤ m)
  chain =
      ring (n ∷ m ∷ k ∷ l ∷ u ∷ w ∷ [])
      (var 3 ⊗ ((var 4 ⊗ var 1) ⊖ (var 0 ⊗ var 5)))
      ((((var 2 ⊗ var 1) ⊖ (var 0 ⊗ var 3)) ⊗ var 5) ⊕ (((var 4 ⊗ var 3) ⊖ (var 2 ⊗ var 5)) ⊗ var 1)) refl

  pub less_most : (n *ℤ l) <ℤ (k *ℤ m) → (k *ℤ w) ≤ℤ (u *ℤ l) → (n *ℤ w) <ℤ (u *ℤ m)
  less_most f g = less_of_gap _ _ (pos_of_mul l _ hl (sum _ _ _ chain (mul_pos _ w (gap_of_less _ _ f) hw) (mul_nonneg _ m (gap_of_at_most _ _ g) (not_negative_of_positive m hm))))
    where
      sum : (a b c : ℤ) → a ≡ b +ℤ c → pos 0 <ℤ b → pos 0 ≤ℤ c → pos 0 <ℤ a
      sum a b c e h k = omega (arith, ints)

  pub most_less : (n *ℤ l) ≤ℤ (k *ℤ m) → (k *ℤ w) <ℤ (u *ℤ l) → (n *ℤ w) <ℤ (u *ℤ m)
  most_less f g = less_of_gap _ _ (pos_of_mul l _ hl (sum _ _ _ chain (mul_nonneg _ w (gap_of_at_most _ _ f) (not_negative_of_positive w hw)) (mul_pos _ m (gap_of_less _ _ g) hm)))
    where
      sum : (a b c : ℤ) → a ≡ b +ℤ c → pos 0 ≤ℤ b → pos 0 <ℤ c → pos 0 <ℤ a
      sum a b c e h k = omega (arith, ints)

  pub most_most : (n *ℤ l) ≤ℤ (k *ℤ m) → (k *ℤ w) ≤ℤ (u *ℤ l) → (n *ℤ w) ≤ℤ (u *ℤ m)
  most_most f g = at_most_of_gap _ _ (nonneg_of_mul l _ hl (sum _ _ _ chain (mul_nonneg _ w (gap_of_at_most _ _ f) (not_negative_of_positive w hw)) (mul_nonneg _ m (gap_of_at_most _ _ g) (not_negative_of_positive m hm))))
    where
      sum : (a b c : ℤ) → a ≡ b +ℤ c → pos 0 ≤ℤ b → pos 0 ≤ℤ c → pos 0 ≤ℤ a
      sum a b c e h k = omega (arith, ints)

-- ---- a value of a sum of two fractions is from the one to the other
module _ (n m n' m' k l : ℤ) (i j : ℕ) (hm : pos 0 <ℤ m) (hm' : pos 0 <ℤ m') (some : 0 < i + j) (order : (n *ℤ m') ≤ℤ (n' *ℤ m)) (same : ((pos i *ℤ n) +ℤ (pos j *ℤ n')) *ℤ l ≡ k *ℤ ((pos i *ℤ m) +ℤ (pos j *ℤ m'))) (hl : pos 0 <ℤ l) where
  weight : pos 0 <ℤ ((pos i *ℤ m) +ℤ (pos j *ℤ m'))
  weight = sum_pos m m' i j hm hm' some

  pub from_first : (n *ℤ l) ≤ℤ (k *ℤ m)
  from_first =
      at_most_of_gap _ _ (nonneg_of_mul _ _ weight (subst (λ (z : ℤ). pos 0 ≤ℤ z)
      (sym (by_one _ _ (((pos i *ℤ n) +ℤ (pos j *ℤ n')) *ℤ l) (k *ℤ ((pos i *ℤ m) +ℤ (pos j *ℤ m'))) (pos 0 -ℤ m)
      (ring (n ∷ m ∷ n' ∷ m' ∷ k ∷ l ∷ pos i ∷ pos j ∷ [])
      ((((var 6 ⊗ var 1) ⊕ (var 7 ⊗ var 3)) ⊗ ((var 4 ⊗ var 1) ⊖ (var 0 ⊗ var 5))) ⊖ ((var 7 ⊗ ((var 2 ⊗ var 1) ⊖ (var 0 ⊗ var 3))) ⊗ var 5))
      (((((var 6 ⊗ var 0) ⊕ (var 7 ⊗ var 2)) ⊗ var 5) ⊖ (var 4 ⊗ ((var 6 ⊗ var 1) ⊕ (var 7 ⊗ var 3)))) ⊗ (con (pos 0) ⊖ var 1)) refl) same))
      (mul_nonneg _ l (mul_nonneg (pos j) _ (natural_not_negative j) (gap_of_at_most _ _ order)) (not_negative_of_positive l hl))))

  pub until_second : (k *ℤ m') ≤ℤ (n' *ℤ l)
  until_second =
      at_most_of_gap _ _ (nonneg_of_mul _ _ weight (subst (λ (z : ℤ). pos 0 ≤ℤ z)
      (sym (by_one _ _ (((pos i *ℤ n) +ℤ (pos j *ℤ n')) *ℤ l) (k *ℤ ((pos i *ℤ m) +ℤ (pos j *ℤ m'))) m'
      (ring (n ∷ m ∷ n' ∷ m' ∷ k ∷ l ∷ pos i ∷ pos j ∷ [])
      ((((var 6 ⊗ var 1) ⊕ (var 7 ⊗ var 3)) ⊗ ((var 2 ⊗ var 5) ⊖ (var 4 ⊗ var 3))) ⊖ ((var 6 ⊗ ((var 2 ⊗ var 1) ⊖ (var 0 ⊗ var 3))) ⊗ var 5))
      (((((var 6 ⊗ var 0) ⊕ (var 7 ⊗ var 2)) ⊗ var 5) ⊖ (var 4 ⊗ ((var 6 ⊗ var 1) ⊕ (var 7 ⊗ var 3)))) ⊗ var 3) refl) same))
      (mul_nonneg _ l (mul_nonneg (pos i) _ (natural_not_negative i) (gap_of_at_most _ _ order)) (not_negative_of_positive l hl))))

-- ---- doubled fractions
doubled_left : (n l : ℤ) → (pos 2 *ℤ n) *ℤ l ≡ pos 2 *ℤ (n *ℤ l)
doubled_left n l = ring (n ∷ l ∷ []) ((con (pos 2) ⊗ var 0) ⊗ var 1) (con (pos 2) ⊗ (var 0 ⊗ var 1)) refl

doubled_right : (k m : ℤ) → k *ℤ (pos 2 *ℤ m) ≡ pos 2 *ℤ (k *ℤ m)
doubled_right k m = ring (k ∷ m ∷ []) (var 0 ⊗ (con (pos 2) ⊗ var 1)) (con (pos 2) ⊗ (var 0 ⊗ var 1)) refl

pub halved_first : (n m k l : ℤ) → ((pos 2 *ℤ n) *ℤ l) ≤ℤ (k *ℤ (pos 2 *ℤ m)) → (n *ℤ l) ≤ℤ (k *ℤ m)
halved_first n m k l h = by (n *ℤ l) (k *ℤ m) (subst (λ (z : ℤ). z ≤ℤ (pos 2 *ℤ (k *ℤ m))) (doubled_left n l) (subst (λ (z : ℤ). ((pos 2 *ℤ n) *ℤ l) ≤ℤ z) (doubled_right k m) h))
  where
    by : (a b : ℤ) → (pos 2 *ℤ a) ≤ℤ (pos 2 *ℤ b) → a ≤ℤ b
    by a b h = omega (arith, ints)

pub halved_second : (n m k l : ℤ) → (k *ℤ (pos 2 *ℤ m)) ≤ℤ ((pos 2 *ℤ n) *ℤ l) → (k *ℤ m) ≤ℤ (n *ℤ l)
halved_second n m k l h = by (n *ℤ l) (k *ℤ m) (subst (λ (z : ℤ). z ≤ℤ (pos 2 *ℤ (n *ℤ l))) (doubled_right k m) (subst (λ (z : ℤ). (k *ℤ (pos 2 *ℤ m)) ≤ℤ z) (doubled_left n l) h))
  where
    by : (a b : ℤ) → (pos 2 *ℤ b) ≤ℤ (pos 2 *ℤ a) → b ≤ℤ a
    by a b h = omega (arith, ints)

pub doubled_first : (n m k l : ℤ) → (n *ℤ l) <ℤ (k *ℤ m) → ((pos 2 *ℤ n) *ℤ l) <ℤ (k *ℤ (pos 2 *ℤ m))
doubled_first n m k l h = subst (λ (z : ℤ). z <ℤ (k *ℤ (pos 2 *ℤ m))) (sym (doubled_left n l)) (subst (λ (z : ℤ). (pos 2 *ℤ (n *ℤ l)) <ℤ z) (sym (doubled_right k m)) (by (n *ℤ l) (k *ℤ m) h))
  where
    by : (a b : ℤ) → a <ℤ b → (pos 2 *ℤ a) <ℤ (pos 2 *ℤ b)
    by a b h = omega (arith, ints)

pub doubled_second : (n m k l : ℤ) → (k *ℤ m) <ℤ (n *ℤ l) → (k *ℤ (pos 2 *ℤ m)) <ℤ ((pos 2 *ℤ n) *ℤ l)
doubled_second n m k l h = subst (λ (z : ℤ). z <ℤ ((pos 2 *ℤ n) *ℤ l)) (sym (doubled_right k m)) (subst (λ (z : ℤ). (pos 2 *ℤ (k *ℤ m)) <ℤ z) (sym (doubled_left n l)) (by (n *ℤ l) (k *ℤ m) h))
  where
    by : (a b : ℤ) → b <ℤ a → (pos 2 *ℤ b) <ℤ (pos 2 *ℤ a)
    by a b h = omega (arith, ints)

pub doubled_both : (n m n' m' : ℤ) → (n *ℤ m') <ℤ (n' *ℤ m) → ((pos 2 *ℤ n) *ℤ (pos 2 *ℤ m')) <ℤ ((pos 2 *ℤ n') *ℤ (pos 2 *ℤ m))
doubled_both n m n' m' h = subst (λ (z : ℤ). z <ℤ ((pos 2 *ℤ n') *ℤ (pos 2 *ℤ m))) (sym (four n m')) (subst (λ (z : ℤ). (pos 4 *ℤ (n *ℤ m')) <ℤ z) (sym (four n' m)) (by (n *ℤ m') (n' *ℤ m) h))
  where
    four : (a b : ℤ) → (pos 2 *ℤ a) *ℤ (pos 2 *ℤ b) ≡ pos 4 *ℤ (a *ℤ b)
    four a b = ring (a ∷ b ∷ []) ((con (pos 2) ⊗ var 0) ⊗ (con (pos 2) ⊗ var 1)) (con (pos 4) ⊗ (var 0 ⊗ var 1)) refl

    by : (a b : ℤ) → a <ℤ b → (pos 4 *ℤ a) <ℤ (pos 4 *ℤ b)
    by a b h = omega (arith, ints)
