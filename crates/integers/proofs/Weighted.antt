-- Sums of fractions with whole weights: (i n + j n') / (i m + j m') is between n / m and n' / m'.
use Rattle.std.proofs.Common.{◌≡◌, ℕ, zero, suc, ◌+◌, ◌<◌, List, [], ◌∷◌, refl, unsigned_abs, arith}
use Rattle.std.specs.Prelude.{ℤ, pos, ◌+ℤ◌, ◌-ℤ◌, ◌*ℤ◌, ◌<ℤ◌}
use Rattle.std.proofs.lemmas.Int.{ints}
use Rattle.integers.proofs.Absolutes.{abs_of_positive}
use Rattle.integers.proofs.Ring.{var, con, ◌⊕◌, ◌⊖◌, ◌⊗◌, ring, by_one, by_two, less_by, gap_of_less}
use Rattle.integers.proofs.Signs.{mul_pos, mul_nonneg}

abbrev numbers : ℤ → ℤ → ℤ → ℤ → ℤ → ℤ → List ℤ
numbers n m n' m' i j = n ∷ m ∷ n' ∷ m' ∷ i ∷ j ∷ []

module _ (n m n' m' : ℤ) where
  -- with positive weights the sum is strictly between
  pub after_first : (n *ℤ m') <ℤ (n' *ℤ m) → (i j : ℤ) → pos 0 <ℤ j → (n *ℤ ((i *ℤ m) +ℤ (j *ℤ m'))) <ℤ (((i *ℤ n) +ℤ (j *ℤ n')) *ℤ m)
  after_first earlier i j h =
      less_by (n *ℤ ((i *ℤ m) +ℤ (j *ℤ m'))) (((i *ℤ n) +ℤ (j *ℤ n')) *ℤ m) (j *ℤ ((n' *ℤ m) -ℤ (n *ℤ m')))
      (ring (numbers n m n' m' i j)
      ((((var 4 ⊗ var 0) ⊕ (var 5 ⊗ var 2)) ⊗ var 1) ⊖ (var 0 ⊗ ((var 4 ⊗ var 1) ⊕ (var 5 ⊗ var 3))))
      (var 5 ⊗ ((var 2 ⊗ var 1) ⊖ (var 0 ⊗ var 3))) refl)
      (mul_pos j ((n' *ℤ m) -ℤ (n *ℤ m')) h (gap_of_less (n *ℤ m') (n' *ℤ m) earlier))

  pub before_second : (n *ℤ m') <ℤ (n' *ℤ m) → (i j : ℤ) → pos 0 <ℤ i → (((i *ℤ n) +ℤ (j *ℤ n')) *ℤ m') <ℤ (n' *ℤ ((i *ℤ m) +ℤ (j *ℤ m')))
  before_second earlier i j h =
      less_by (((i *ℤ n) +ℤ (j *ℤ n')) *ℤ m') (n' *ℤ ((i *ℤ m) +ℤ (j *ℤ m'))) (i *ℤ ((n' *ℤ m) -ℤ (n *ℤ m')))
      (ring (numbers n m n' m' i j)
      ((var 2 ⊗ ((var 4 ⊗ var 1) ⊕ (var 5 ⊗ var 3))) ⊖ (((var 4 ⊗ var 0) ⊕ (var 5 ⊗ var 2)) ⊗ var 3))
      (var 4 ⊗ ((var 2 ⊗ var 1) ⊖ (var 0 ⊗ var 3))) refl)
      (mul_pos i ((n' *ℤ m) -ℤ (n *ℤ m')) h (gap_of_less (n *ℤ m') (n' *ℤ m) earlier))

  -- of two of one value it is that value
  pub with_first : n *ℤ m' ≡ n' *ℤ m → (i j : ℤ) → n *ℤ ((i *ℤ m) +ℤ (j *ℤ m')) ≡ ((i *ℤ n) +ℤ (j *ℤ n')) *ℤ m
  with_first same i j =
      by_one _ _ (n *ℤ m') (n' *ℤ m) j
      (ring (numbers n m n' m' i j)
      ((var 0 ⊗ ((var 4 ⊗ var 1) ⊕ (var 5 ⊗ var 3))) ⊖ (((var 4 ⊗ var 0) ⊕ (var 5 ⊗ var 2)) ⊗ var 1))
      (((var 0 ⊗ var 3) ⊖ (var 2 ⊗ var 1)) ⊗ var 5) refl) same

  pub with_second : n *ℤ m' ≡ n' *ℤ m → (i j : ℤ) → ((i *ℤ n) +ℤ (j *ℤ n')) *ℤ m' ≡ n' *ℤ ((i *ℤ m) +ℤ (j *ℤ m'))
  with_second same i j =
      by_one _ _ (n *ℤ m') (n' *ℤ m) i
      (ring (numbers n m n' m' i j)
      ((((var 4 ⊗ var 0) ⊕ (var 5 ⊗ var 2)) ⊗ var 3) ⊖ (var 2 ⊗ ((var 4 ⊗ var 1) ⊕ (var 5 ⊗ var 3))))
      (((var 0 ⊗ var 3) ⊖ (var 2 ⊗ var 1)) ⊗ var 4) refl) same

  -- a sum with one weight is at that end
  pub at_second : (j : ℤ) → n' *ℤ ((pos 0 *ℤ m) +ℤ (j *ℤ m')) ≡ ((pos 0 *ℤ n) +ℤ (j *ℤ n')) *ℤ m'
  at_second j = ring (numbers n m n' m' (pos 0) j) (var 2 ⊗ ((con (pos 0) ⊗ var 1) ⊕ (var 5 ⊗ var 3))) (((con (pos 0) ⊗ var 0) ⊕ (var 5 ⊗ var 2)) ⊗ var 3) refl

  pub at_first : (i : ℤ) → n *ℤ ((i *ℤ m) +ℤ (pos 0 *ℤ m')) ≡ ((i *ℤ n) +ℤ (pos 0 *ℤ n')) *ℤ m
  at_first i = ring (numbers n m n' m' i (pos 0)) (var 0 ⊗ ((var 4 ⊗ var 1) ⊕ (con (pos 0) ⊗ var 3))) (((var 4 ⊗ var 0) ⊕ (con (pos 0) ⊗ var 2)) ⊗ var 1) refl

  -- the gaps to the two ends, exchanged, are the weights of a place
  pub weighted : (k l i j : ℤ) → i ≡ (n' *ℤ l) -ℤ (k *ℤ m') → j ≡ (k *ℤ m) -ℤ (n *ℤ l) → ((i *ℤ n) +ℤ (j *ℤ n')) *ℤ l ≡ k *ℤ ((i *ℤ m) +ℤ (j *ℤ m'))
  weighted k l i j i_is j_is =
      by_two _ _ i ((n' *ℤ l) -ℤ (k *ℤ m')) (pos 0 -ℤ ((k *ℤ m) -ℤ (n *ℤ l))) j ((k *ℤ m) -ℤ (n *ℤ l)) ((n' *ℤ l) -ℤ (k *ℤ m'))
      (ring (n ∷ m ∷ n' ∷ m' ∷ k ∷ l ∷ i ∷ j ∷ [])
      ((((var 6 ⊗ var 0) ⊕ (var 7 ⊗ var 2)) ⊗ var 5) ⊖ (var 4 ⊗ ((var 6 ⊗ var 1) ⊕ (var 7 ⊗ var 3))))
      (((var 6 ⊖ ((var 2 ⊗ var 5) ⊖ (var 4 ⊗ var 3))) ⊗ (con (pos 0) ⊖ ((var 4 ⊗ var 1) ⊖ (var 0 ⊗ var 5))))
      ⊕ ((var 7 ⊖ ((var 4 ⊗ var 1) ⊖ (var 0 ⊗ var 5))) ⊗ ((var 2 ⊗ var 5) ⊖ (var 4 ⊗ var 3)))) refl) i_is j_is

-- weights with which the sum of n / m and n' / m' has the value k / l
pub record HasWeights (n m n' m' k l : ℤ) : Type 0 where
  pub i : ℕ
  pub j : ℕ
  pub some : 0 < i + j
  pub same : ((pos i *ℤ n) +ℤ (pos j *ℤ n')) *ℤ l ≡ k *ℤ ((pos i *ℤ m) +ℤ (pos j *ℤ m'))

some_of : (u v : ℤ) → pos 0 <ℤ u → 0 < unsigned_abs u + unsigned_abs v
some_of u v h = omega (arith, ints)

-- a value strictly between the two has them
pub weights_between : (n m n' m' k l : ℤ) → (n *ℤ l) <ℤ (k *ℤ m) → (k *ℤ m') <ℤ (n' *ℤ l) → HasWeights n m n' m' k l
weights_between n m n' m' k l after before =
    let u = (n' *ℤ l) -ℤ (k *ℤ m') in
    let v = (k *ℤ m) -ℤ (n *ℤ l) in
    let first : pos 0 <ℤ u = gap_of_less (k *ℤ m') (n' *ℤ l) before in
    let second : pos 0 <ℤ v = gap_of_less (n *ℤ l) (k *ℤ m) after in
    record {
      i = unsigned_abs u;
      j = unsigned_abs v;
      some = some_of u v first;
      same = weighted n m n' m' k l (pos (unsigned_abs u)) (pos (unsigned_abs v)) (abs_of_positive u first) (abs_of_positive v second);
    }

-- with positive numbers the sum is positive
pub sum_pos : (m m' : ℤ) (i j : ℕ) → pos 0 <ℤ m → pos 0 <ℤ m' → 0 < i + j → pos 0 <ℤ ((pos i *ℤ m) +ℤ (pos j *ℤ m'))
sum_pos m m' zero zero h k some = absurd (omega arith)
sum_pos m m' zero (suc j) h k some = let n = mul_pos (pos (suc j)) m' (omega (arith, ints)) k in omega (arith, ints)
sum_pos m m' (suc i) j h k some =
    let l = mul_pos (pos (suc i)) m (omega (arith, ints)) h in
    let n = mul_nonneg (pos j) m' (omega (arith, ints)) (omega (arith, ints)) in
    omega (arith, ints)
