-- The least and the greatest of values, found one after the other.
use Rattle.std.proofs.Common.{◌≡◌, ℕ, zero, suc, ◌+◌, List, [], ◌∷◌, Some, drop, map, slice_get, refl, sym, ap, ◌∙◌, add-one}
use Rattle.std.specs.Prelude.{ℤ, fold}
use Rattle.std.specs.Int.{int_min, int_max}
use Rattle.sheet_summary.specs.Ends.{least_of, greatest_of}

module _ {A : Type 0} (f : A → ℤ) where
  -- the values from the one with this number on
  cons_at : (xs : List A) (i : ℕ) (x : A) → slice_get xs i ≡ Some x → map f (drop i xs) ≡ f x ∷ map f (drop (suc i) xs)
  cons_at [] i x at = absurd cc
  cons_at (y ∷ xs) zero x at = let same : y ≡ x = cc in ap (λ (z : A). f z ∷ map f xs) same
  cons_at (y ∷ xs) (suc i) x at = cons_at xs i x at

  module _ (pick : ℤ → ℤ → ℤ) (of_all : List ℤ → ℤ) (of_cons : (z : ℤ) (zs : List ℤ) → of_all (z ∷ zs) ≡ fold pick z zs) (xs : List A) where
    pub begun : (x : A) (first : ℤ) → slice_get xs 0 ≡ Some x → first ≡ f x → fold pick first (map f (drop 1 xs)) ≡ of_all (map f xs)
    begun x first at is =
        ap (λ (z : ℤ). fold pick z (map f (drop 1 xs))) is
        ∙ sym (of_cons (f x) (map f (drop 1 xs)))
        ∙ ap of_all (sym (cons_at xs 0 x at))

    pub next : (i : ℕ) (x : A) (so_far value picked whole : ℤ) → slice_get xs i ≡ Some x → value ≡ f x → picked ≡ pick so_far value
        → fold pick so_far (map f (drop i xs)) ≡ whole → fold pick picked (map f (drop (i + 1) xs)) ≡ whole
    next i x so_far value picked whole at is picks all =
        ap (λ (n : ℕ). fold pick picked (map f (drop n xs))) (add-one i)
        ∙ ap (λ (z : ℤ). fold pick z (map f (drop (suc i) xs))) (picks ∙ ap (pick so_far) is)
        ∙ ap (fold pick so_far) (sym (cons_at xs i x at))
        ∙ all

pub least_cons : (z : ℤ) (zs : List ℤ) → least_of (z ∷ zs) ≡ fold int_min z zs
least_cons z zs = refl

pub greatest_cons : (z : ℤ) (zs : List ℤ) → greatest_of (z ∷ zs) ≡ fold int_max z zs
greatest_cons z zs = refl
