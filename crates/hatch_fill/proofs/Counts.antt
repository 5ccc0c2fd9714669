-- How many elements of a list pass a test.
use Rattle.std.proofs.Common.{◌≡◌, ◌⊎◌, inl, inr, ℕ, suc, ◌+◌, Bool, true, false, List, [], ◌∷◌, ◌++◌, Contains, refl, sym, ap, subst, ◌∙◌, arith}
use Rattle.std.specs.List.{AllPairs}
use Rattle.std.specs.List.Sorted.{IsPermutation}
use Rattle.std.specs.Prelude.{sum_by}
use Rattle.std.proofs.lemmas.List.Sums.{sum_by-cons}
use Rattle.std.proofs.lemmas.List.Elements.{All-contains}
use Rattle.std.proofs.lemmas.List.Sorted.{sum_by-IsPermutation}
use Rattle.geometry.specs.Cuts.{IsCount, nothing, counted, skipped}
use Rattle.cut_plane.proofs.Lists.{contains_first, contains_rest, contains_cases, contains_none, pairs_first, pairs_rest}
use Rattle.hatch_fill.specs.inner.Parts.{AreJoined}

abbrev pub one_if : Bool → ℕ
one_if false = 0
one_if true = 1

abbrev pub passing : {A : Type 0} → (A → Bool) → List A → ℕ
passing test [] = 0
passing test (x ∷ xs) = one_if (test x) + passing test xs

module _ {A : Type 0} (test : A → Bool) where
  passing_sum : (xs : List A) → passing test xs ≡ sum_by (λ x. one_if (test x)) xs
  passing_sum [] = refl
  passing_sum (x ∷ xs) = ap (λ (n : ℕ). one_if (test x) + n) (passing_sum xs) ∙ sym (sum_by-cons (λ (y : A). one_if (test y)) x xs)

  pub passing_permuted : (xs ys : List A) → IsPermutation xs ys → passing test ys ≡ passing test xs
  passing_permuted xs ys moved = passing_sum ys ∙ sum_by-IsPermutation (λ (y : A). one_if (test y)) xs ys moved ∙ sym (passing_sum xs)

  pub passing_append : (xs ys : List A) → passing test (xs ++ ys) ≡ passing test xs + passing test ys
  passing_append [] ys = none (passing test ys)
    where
      none : (n : ℕ) → n ≡ 0 + n
      none n = omega arith
  passing_append (x ∷ xs) ys = ap (λ (n : ℕ). one_if (test x) + n) (passing_append xs ys) ∙ sum (one_if (test x)) (passing test xs) (passing test ys)
    where
      sum : (a b c : ℕ) → a + (b + c) ≡ (a + b) + c
      sum a b c = omega arith

  pub passing_none : (xs : List A) → ((x : A) → Contains xs x → test x ≡ false) → passing test xs ≡ 0
  passing_none [] none = refl
  passing_none (x ∷ xs) none = (λ i. one_if (none x (contains_first xs x) i) + passing_none xs (λ y there. none y (contains_rest x xs y there)) i)

  -- one of them passes, or none
  pub some_passes : (xs : List A) → ((x : A) × Contains xs x × (test x ≡ true)) ⊎ (passing test xs ≡ 0)
  some_passes [] = inr refl
  some_passes (x ∷ xs) = by (test x) refl (some_passes xs)
    where
      by : (b : Bool) → test x ≡ b → ((y : A) × Contains xs y × (test y ≡ true)) ⊎ (passing test xs ≡ 0) → ((y : A) × Contains (x ∷ xs) y × (test y ≡ true)) ⊎ (passing test (x ∷ xs) ≡ 0)
      by true e rest = inl (x, contains_first xs x, e)
      by false e (inl (y, there, h)) = inl (y, contains_rest x xs y there, h)
      by false e (inr none) = inr (λ i. one_if (e i) + none i)

  -- a list of which one passes, and no two do
  pub one_passes : (xs : List A) → AllPairs (λ x y. test x ≡ true → test y ≡ true → ⊥) xs → (x : A) → Contains xs x → test x ≡ true → passing test xs ≡ 1
  one_passes [] apart x there e = absurd (contains_none x there)
  one_passes (w ∷ xs) apart x there e = by (contains_cases w xs x there) (λ in_rest. one_passes xs (pairs_rest (λ (x y : A). test x ≡ true → test y ≡ true → ⊥) w xs apart) x in_rest e)
    where
      others : test w ≡ true → (y : A) → Contains xs y → test y ≡ false
      others h y in_rest = not_true (test y) (λ k. All-contains (λ (z : A). test w ≡ true → test z ≡ true → ⊥) xs y (pairs_first (λ (x y : A). test x ≡ true → test y ≡ true → ⊥) w xs apart) in_rest h k)
        where
          not_true : (b : Bool) → (b ≡ true → ⊥) → b ≡ false
          not_true true k = absurd (k refl)
          not_true false k = refl

      first : test w ≡ true → passing test (w ∷ xs) ≡ 1
      first h = (λ i. one_if (h i) + passing_none xs (others h) i)

      later : passing test xs ≡ 1 → (b : Bool) → test w ≡ b → passing test (w ∷ xs) ≡ 1
      later rest true h = first h
      later rest false h = (λ i. one_if (h i) + rest i)

      by : (w ≡ x) ⊎ Contains xs x → (Contains xs x → passing test xs ≡ 1) → passing test (w ∷ xs) ≡ 1
      by (inl same) rest = first (subst (λ (z : A). test z ≡ true) (sym same) e)
      by (inr in_rest) rest = later (rest in_rest) (test w) refl

-- a number that is 1 where this holds, and else 0
abbrev pub Tally : Type 0 → ℕ → Type 0
Tally P n = (P × (n ≡ 1)) ⊎ ((¬ P) × (n ≡ 0))

pub tally_either : (P Q : Type 0) (m n : ℕ) → (P → Q → ⊥) → Tally P m → Tally Q n → Tally (P ⊎ Q) (m + n)
tally_either P Q m n apart (inl (p, e)) (inl (q, f)) = absurd (apart p q)
tally_either P Q m n apart (inl (p, e)) (inr (k, f)) = inl (inl p, omega arith)
tally_either P Q m n apart (inr (h, e)) (inl (q, f)) = inl (inr q, omega arith)
tally_either P Q m n apart (inr (h, e)) (inr (k, f)) = inr (neither, omega arith)
  where
    neither : P ⊎ Q → ⊥
    neither (inl p) = h p
    neither (inr q) = k q

-- the count of a list, by its parts
pub joined_count : {A B : Type 0} (R : A → List B → Type 0) (P : A → Type 0) (test : B → Bool) (xs : List A) (all : List B) → AreJoined R xs all
    → ((x : A) → Contains xs x → (part : List B) → R x part → Tally (P x) (passing test part)) → (n : ℕ) → IsCount A P xs n → passing test all ≡ n
joined_count {A} {B} R P test [] all e told n nothing = ap (passing test) e
joined_count {A} {B} R P test (x ∷ xs) all (part, rest, e, r, more) told n (counted _ _ k p count) =
    ap (passing test) e ∙ passing_append test part rest ∙ by (told x (contains_first xs x) part r) (joined_count R P test xs rest more (λ y there. told y (contains_rest x xs y there)) k count)
  where
    by : Tally (P x) (passing test part) → passing test rest ≡ k → passing test part + passing test rest ≡ suc k
    by (inl (h, f)) g = omega arith
    by (inr (h, f)) g = absurd (h p)
joined_count {A} {B} R P test (x ∷ xs) all (part, rest, e, r, more) told n (skipped _ _ k p count) =
    ap (passing test) e ∙ passing_append test part rest ∙ by (told x (contains_first xs x) part r) (joined_count R P test xs rest more (λ y there. told y (contains_rest x xs y there)) n count)
  where
    by : Tally (P x) (passing test part) → passing test rest ≡ n → passing test part + passing test rest ≡ n
    by (inl (h, f)) g = absurd (p h)
    by (inr (h, f)) g = omega arith
