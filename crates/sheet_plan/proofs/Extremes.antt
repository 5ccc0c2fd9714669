-- The least and the greatest value of a function over a list, found one element after the other.
use Rattle.std.proofs.Common.{◌≡◌, ℕ, ◌+◌, ◌≤◌, ◌⊎◌, inl, inr, List, All, Any, length, take, slice_get, Some, sym, subst, ap, ◌∙◌, arith}
use Rattle.std.specs.Prelude.{ℤ, ◌≤ℤ◌}
use Rattle.std.specs.Int.{int_min, int_max}
use Rattle.std.proofs.lemmas.Int.{ints, clamps, by_lt_z}
use Rattle.std.proofs.lemmas.List.{take_all}
use Rattle.std.proofs.lemmas.List.Elements.{All-more, All-weaker, All-same}
use Rattle.std.proofs.lemmas.Option.{slice_get_within, get_or_from_slice_get}
use Rattle.sheet_plan.specs.Extents.{IsLeast, IsGreatest}

-- m is a value of f over the list, and is so related to the values of the first n
pub record IsExtreme {A : Type 0} (R : ℤ → ℤ → Type 0) (f : A → ℤ) (xs : List A) (n : ℕ) (m : ℤ) : Type 0 where
  pub reached : Any (λ x. f x ≡ m) xs
  pub bound : All (λ x. R m (f x)) (take n xs)

-- ≤, and turned
abbrev pub AtMost : ℤ → ℤ → Type 0
AtMost m v = m ≤ℤ v

abbrev pub AtLeast : ℤ → ℤ → Type 0
AtLeast m v = v ≤ℤ m

module _ {A : Type 0} (R : ℤ → ℤ → Type 0) (f : A → ℤ) (xs : List A) where
  reached_at : (n : ℕ) (x : A) (m : ℤ) → slice_get xs n ≡ Some x → m ≡ f x → Any (λ x. f x ≡ m) xs
  reached_at n x m at is = (n, x, slice_get_within xs n x at, get_or_from_slice_get xs n x x at, sym is)

  pub first : (n : ℕ) (x : A) (m : ℤ) → slice_get xs n ≡ Some x → m ≡ f x → IsExtreme R f xs 0 m
  first n x m at is = record { reached = reached_at n x m at is; bound = λ k d h. absurd (omega arith) }

  pub step : ((a b c : ℤ) → R a b → R b c → R a c) → (n : ℕ) (x : A) (m v b : ℤ) → slice_get xs n ≡ Some x → v ≡ f x
      → R b m → R b v → ((b ≡ m) ⊎ (b ≡ v)) → IsExtreme R f xs n m → IsExtreme R f xs (n + 1) b
  step trans n x m v b at is old new one h = record {
    reached = choose one;
    bound = All-more (λ x. R b (f x)) xs n x (slice_get_within xs n x at)
        (All-weaker (λ x. R m (f x)) (λ x. R b (f x)) (λ y r. trans b m (f y) old r) (take n xs) h.bound)
        (subst (λ z. R b z) (is ∙ ap f (sym (get_or_from_slice_get xs n x x at))) new);
  }
    where
      choose : ((b ≡ m) ⊎ (b ≡ v)) → Any (λ x. f x ≡ b) xs
      choose (inl e) = subst (λ z. Any (λ x. f x ≡ z) xs) (sym e) h.reached
      choose (inr e) = reached_at n x b at (e ∙ is)

  pub whole : (n : ℕ) (m : ℤ) → length xs ≤ n → IsExtreme R f xs n m → Any (λ x. f x ≡ m) xs × All (λ x. R m (f x)) xs
  whole n m all h = (h.reached, All-same (λ x. R m (f x)) xs (take n xs) (sym (take_all n xs all)) h.bound)

module _ {A : Type 0} (f : A → ℤ) (xs : List A) where
  pub least_step : (n : ℕ) (x : A) (m v : ℤ) → slice_get xs n ≡ Some x → v ≡ f x → IsExtreme AtMost f xs n m → IsExtreme AtMost f xs (n + 1) (int_min m v)
  least_step n x m v at is = step AtMost f xs (λ a b c p q. omega (arith, ints)) n x m v (int_min m v) at is (omega (arith, ints, clamps)) (omega (arith, ints, clamps))
      (by_lt_z v m (λ l. inr (omega (arith, ints, clamps))) (λ l. inl (omega (arith, ints, clamps))))

  pub greatest_step : (n : ℕ) (x : A) (m v : ℤ) → slice_get xs n ≡ Some x → v ≡ f x → IsExtreme AtLeast f xs n m → IsExtreme AtLeast f xs (n + 1) (int_max m v)
  greatest_step n x m v at is = step AtLeast f xs (λ a b c p q. omega (arith, ints)) n x m v (int_max m v) at is (omega (arith, ints, clamps)) (omega (arith, ints, clamps))
      (by_lt_z m v (λ l. inr (omega (arith, ints, clamps))) (λ l. inl (omega (arith, ints, clamps))))

  pub least : (n : ℕ) (m : ℤ) → length xs ≤ n → IsExtreme AtMost f xs n m → IsLeast f xs m
  least n m all h = let w = whole AtMost f xs n m all h in record { reached = w.0; bound = w.1 }

  pub greatest : (n : ℕ) (m : ℤ) → length xs ≤ n → IsExtreme AtLeast f xs n m → IsGreatest f xs m
  greatest n m all h = let w = whole AtLeast f xs n m all h in record { reached = w.0; bound = w.1 }
