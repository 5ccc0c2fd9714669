-- A place is amid two others, by the orders of the fractions.
use Rattle.std.proofs.Common.{◌≡◌, ◌⊎◌, inl, inr, ◌↔◌, Bool, true, refl, subst, arith}
use Rattle.std.specs.Prelude.{ℤ, ◌*ℤ◌, ◌<ℤ◌, ◌≤ℤ◌, IsTrue}
use Rattle.std.specs.Cmp.{int_ranks}
use Rattle.std.specs.Ordering.{int_cmp, is_le, MatchOrdering}
use Rattle.std.specs.declared.cmp.Ordering.{Ordering}
use Rattle.std.specs.declared.cmp.Ordering.TheVariants.{Less, Equal, Greater}
use Rattle.std.proofs.lemmas.Int.{ints}
use Rattle.integers.proofs.Comparisons.{at_most_of_less, less_not_at_most, at_most_of_same}
use Rattle.integers.proofs.Orders.{at_most_of_le}
use Rattle.cut_plane.specs.inner.Crossings.{IsAmid}

ranked : (x y : ℤ) (r : Ordering) → int_cmp x y ≡ r → MatchOrdering r (x <ℤ y) (x ≡ y) (y <ℤ x)
ranked x y r e = subst (λ (o : Ordering). MatchOrdering o (x <ℤ y) (x ≡ y) (y <ℤ x)) e (int_ranks x y)

module _ (n m n' m' k l : ℤ) where
  -- the third is more than the first: amid exactly if it is at most the second
  pub amid_of_less : int_cmp (n *ℤ l) (k *ℤ m) ≡ Less → (b : Bool) → b ≡ is_le (int_cmp (k *ℤ m') (n' *ℤ l)) → IsTrue b ↔ IsAmid n m n' m' k l
  amid_of_less e b at_most = ((λ t. inl (at_most_of_less (n *ℤ l) (k *ℤ m) less, second.0 t)), by)
    where
      less : (n *ℤ l) <ℤ (k *ℤ m)
      less = ranked (n *ℤ l) (k *ℤ m) Less e

      second : IsTrue b ↔ ((k *ℤ m') ≤ℤ (n' *ℤ l))
      second = at_most_of_le (k *ℤ m') (n' *ℤ l) b at_most

      by : IsAmid n m n' m' k l → IsTrue b
      by (inl (p, q)) = second.1 q
      by (inr (p, q)) = absurd (less_not_at_most (n *ℤ l) (k *ℤ m) less q)

  -- it is less than the first: amid exactly if the second is at most it
  pub amid_of_greater : int_cmp (n *ℤ l) (k *ℤ m) ≡ Greater → (b : Bool) → b ≡ is_le (int_cmp (n' *ℤ l) (k *ℤ m')) → IsTrue b ↔ IsAmid n m n' m' k l
  amid_of_greater e b at_most = ((λ t. inr (second.0 t, at_most_of_less (k *ℤ m) (n *ℤ l) less)), by)
    where
      less : (k *ℤ m) <ℤ (n *ℤ l)
      less = ranked (n *ℤ l) (k *ℤ m) Greater e

      second : IsTrue b ↔ ((n' *ℤ l) ≤ℤ (k *ℤ m'))
      second = at_most_of_le (n' *ℤ l) (k *ℤ m') b at_most

      by : IsAmid n m n' m' k l → IsTrue b
      by (inl (p, q)) = absurd (less_not_at_most (k *ℤ m) (n *ℤ l) less p)
      by (inr (p, q)) = second.1 p

  -- it is the first: always amid
  pub amid_of_equal : int_cmp (n *ℤ l) (k *ℤ m) ≡ Equal → IsTrue true ↔ IsAmid n m n' m' k l
  amid_of_equal e = ((λ t. by (either (k *ℤ m') (n' *ℤ l))), (λ amid. refl))
    where
      same : n *ℤ l ≡ k *ℤ m
      same = ranked (n *ℤ l) (k *ℤ m) Equal e

      either : (x y : ℤ) → (x ≤ℤ y) ⊎ (y ≤ℤ x)
      either x y = sides (int_cmp x y) (int_ranks x y)
        where
          sides : (r : Ordering) → MatchOrdering r (x <ℤ y) (x ≡ y) (y <ℤ x) → (x ≤ℤ y) ⊎ (y ≤ℤ x)
          sides Less h = inl (omega (arith, ints))
          sides Equal h = inl (omega (arith, ints))
          sides Greater h = inr (omega (arith, ints))

      over : (x y : ℤ) → x ≡ y → y ≤ℤ x
      over x y h = omega (arith, ints)

      by : ((k *ℤ m') ≤ℤ (n' *ℤ l)) ⊎ ((n' *ℤ l) ≤ℤ (k *ℤ m')) → IsAmid n m n' m' k l
      by (inl h) = inl (at_most_of_same (n *ℤ l) (k *ℤ m) same, h)
      by (inr h) = inr (h, over (n *ℤ l) (k *ℤ m) same)
