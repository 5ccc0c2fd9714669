-- Orders of whole numbers and places of a list are decided, and so is what is made of decided things.
use Rattle.std.proofs.Common.{◌≡◌, ◌⊎◌, inl, inr, ℕ, zero, suc, ◌≤◌, ◌<◌, List, length, get_or, slice_get, Some, None, refl, ap, arith}
use Rattle.std.specs.Prelude.{ℤ, ◌<ℤ◌, ◌≤ℤ◌}
use Rattle.std.proofs.lemmas.Int.{ints, by_lt_z}
use Rattle.std.proofs.lemmas.Option.{slice_get_cases}

pub same_or : (x y : ℤ) → (x ≡ y) ⊎ ¬ (x ≡ y)
same_or x y = by_lt_z x y (λ h. inr (λ e. omega (arith, ints))) (λ h. by_lt_z y x (λ k. inr (λ e. omega (arith, ints))) (λ k. inl (omega (arith, ints))))

pub less_or : (x y : ℤ) → (x <ℤ y) ⊎ ¬ (x <ℤ y)
less_or x y = by_lt_z x y (λ h. inl h) (λ h. inr (λ k. omega (arith, ints)))

pub at_most_or : (x y : ℤ) → (x ≤ℤ y) ⊎ ¬ (x ≤ℤ y)
at_most_or x y = by_lt_z y x (λ h. inr (λ k. omega (arith, ints))) (λ h. inl h)

pub four_or : (P Q R S : Type 0) → P ⊎ ¬ P → Q ⊎ ¬ Q → R ⊎ ¬ R → S ⊎ ¬ S → (P × Q × R × S) ⊎ ¬ (P × Q × R × S)
four_or P Q R S (inl p) (inl q) (inl r) (inl s) = inl (p, q, r, s)
four_or P Q R S (inl p) (inl q) (inl r) (inr n) = inr (λ h. n h.3)
four_or P Q R S (inl p) (inl q) (inr n) s = inr (λ h. n h.2)
four_or P Q R S (inl p) (inr n) r s = inr (λ h. n h.1)
four_or P Q R S (inr n) q r s = inr (λ h. n h.0)

module _ (P Q : Type 0) where
  pub either_or : P ⊎ ¬ P → Q ⊎ ¬ Q → (P ⊎ Q) ⊎ ¬ (P ⊎ Q)
  either_or (inl p) q = inl (inl p)
  either_or (inr n) (inl q) = inl (inr q)
  either_or (inr n) (inr m) = inr (λ h. elim h [ inl p ↦ n p | inr q ↦ m q ])

  -- what holds exactly when a decided thing holds
  pub alike_or : (P → Q) → (Q → P) → P ⊎ ¬ P → Q ⊎ ¬ Q
  alike_or to from (inl p) = inl (to p)
  alike_or to from (inr n) = inr (λ q. n (from q))

-- a number below n + 1 is below n, or n
pub below_next : (m n : ℕ) → m < suc n → (m < n) ⊎ (m ≡ n)
below_next zero zero h = inr refl
below_next zero (suc n) h = inl (omega arith)
below_next (suc m) zero h = absurd (omega arith)
below_next (suc m) (suc n) h = elim (below_next m n (omega arith)) [ inl g ↦ inl (omega arith) | inr e ↦ inr (ap suc e) ]

-- a list has an element at a place, or the place is past its end
pub element_or : {X : Type 0} (xs : List X) (i : ℕ) → ((x : X) × (slice_get xs i ≡ Some x)) ⊎ (length xs ≤ i)
element_or {X} xs i = by (slice_get_cases xs i).1
  where
    by : ((x : X) × (i < length xs) × (slice_get xs i ≡ Some x) × (get_or xs i x ≡ x)) ⊎ ((length xs ≤ i) × (slice_get xs i ≡ None)) → ((x : X) × (slice_get xs i ≡ Some x)) ⊎ (length xs ≤ i)
    by (inl (x, within, at, is)) = inl (x, at)
    by (inr (past, none)) = inr past
