-- Counts of a list: there is one for what is decided of each element, and no other.
use Rattle.std.proofs.Common.{◌≡◌, ℕ, suc, ◌⊎◌, inl, inr, List, [], ◌∷◌, refl, ap}
use Rattle.geometry.specs.Cuts.{IsCount}
use Rattle.geometry.specs.Cuts.IsCount.{nothing, counted, skipped}

module _ {A : Type 0} {P : A → Type 0} where
  pub count_unique : (xs : List A) (m n : ℕ) → IsCount A P xs m → IsCount A P xs n → m ≡ n
  count_unique [] m n nothing nothing = refl
  count_unique (x ∷ xs) m n (counted _ _ k p h) (counted _ _ l q i) = ap suc (count_unique xs k l h i)
  count_unique (x ∷ xs) m n (counted _ _ k p h) (skipped _ _ l q i) = absurd (q p)
  count_unique (x ∷ xs) m n (skipped _ _ k p h) (counted _ _ l q i) = absurd (p q)
  count_unique (x ∷ xs) m n (skipped _ _ k p h) (skipped _ _ l q i) = count_unique xs k l h i

  pub count_of : ((x : A) → P x ⊎ ¬ P x) → (xs : List A) → (n : ℕ) × IsCount A P xs n
  count_of decide [] = (0, nothing)
  count_of decide (x ∷ xs) =
      let rest = count_of decide xs in
      elim (decide x) as (λ _. (n : ℕ) × IsCount A P (x ∷ xs) n) [ inl p ↦ (suc rest.0, counted x xs rest.0 p rest.1) | inr p ↦ (rest.0, skipped x xs rest.0 p rest.1) ]
