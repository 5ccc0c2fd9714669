-- Whether an odd number of truth values are true: below a bound, in a list, and in pairs.
use Rattle.std.proofs.Common.{◌≡◌, ℕ, suc, zero, ◌+◌, ◌*◌, ◌<◌, Bool, true, false, ◌⊎◌, inl, inr, refl, sym, ap, ◌∙◌, arith, List, [], ◌∷◌, length, get_or, Contains, ◌%◌}
use Rattle.std.specs.Bool.{Decides}
use Rattle.std.proofs.lemmas.Bool.{cases_eq, false≢true, false_from_ne_true}
use Rattle.integers.proofs.Lists.{Contains-later}
use Rattle.geometry.specs.Cuts.{IsCount}
use Rattle.geometry.specs.Cuts.IsCount.{nothing, counted, skipped}

-- exactly one of the two
abbrev pub xor : Bool → Bool → Bool
xor false b = b
xor true false = true
xor true true = false

pub xor-none : (a : Bool) → xor a false ≡ a
xor-none false = refl
xor-none true = refl

pub xor-twice : (a : Bool) → xor a a ≡ false
xor-twice false = refl
xor-twice true = refl

pub xor-comm : (a b : Bool) → xor a b ≡ xor b a
xor-comm false false = refl
xor-comm false true = refl
xor-comm true false = refl
xor-comm true true = refl

pub xor-assoc : (a b c : Bool) → xor (xor a b) c ≡ xor a (xor b c)
xor-assoc false b c = refl
xor-assoc true false false = refl
xor-assoc true false true = refl
xor-assoc true true false = refl
xor-assoc true true true = refl

-- two sums, added one by one
pub xor-across : (a b c d : Bool) → xor (xor a b) (xor c d) ≡ xor (xor a c) (xor b d)
xor-across false false c d = refl
xor-across false true false d = refl
xor-across false true true false = refl
xor-across false true true true = refl
xor-across true false false false = refl
xor-across true false false true = refl
xor-across true false true false = refl
xor-across true false true true = refl
xor-across true true false false = refl
xor-across true true false true = refl
xor-across true true true false = refl
xor-across true true true true = refl

pub same_of_xor : (a b : Bool) → xor a b ≡ false → a ≡ b
same_of_xor false b h = sym h
same_of_xor true false h = h
same_of_xor true true h = refl

-- ---- below a bound
-- whether an odd number of the numbers below n pass
abbrev pub odd_below : (ℕ → Bool) → ℕ → Bool
odd_below b zero = false
odd_below b (suc n) = xor (odd_below b n) (b n)

pub odd_below-same : (b c : ℕ → Bool) (n : ℕ) → ((k : ℕ) → k < n → b k ≡ c k) → odd_below b n ≡ odd_below c n
odd_below-same b c zero h = refl
odd_below-same b c (suc n) h = λ i. xor (odd_below-same b c n (λ k l. h k (omega arith)) i) (h n (omega arith) i)

pub odd_below-xor : (b c : ℕ → Bool) (n : ℕ) → odd_below (λ k. xor (b k) (c k)) n ≡ xor (odd_below b n) (odd_below c n)
odd_below-xor b c zero = refl
odd_below-xor b c (suc n) = ap (λ x. xor x (xor (b n) (c n))) (odd_below-xor b c n) ∙ xor-across (odd_below b n) (odd_below c n) (b n) (c n)

pub odd_below-none : (b : ℕ → Bool) (n : ℕ) → ((k : ℕ) → k < n → b k ≡ false) → odd_below b n ≡ false
odd_below-none b zero h = refl
odd_below-none b (suc n) h = λ i. xor (odd_below-none b n (λ k l. h k (omega arith)) i) (h n (omega arith) i)

false_of_other : (b : ℕ → Bool) (k found : ℕ) → (b k ≡ true → k ≡ found) → (k ≡ found → ⊥) → b k ≡ false
false_of_other b k found once other = by (b k) refl
  where
    by : (x : Bool) → b k ≡ x → b k ≡ false
    by false e = e
    by true e = absurd (other (once e))

-- where one number alone passes, an odd number do
pub odd_below-one : (b : ℕ → Bool) (n found : ℕ) → found < n → b found ≡ true → ((k : ℕ) → k < n → b k ≡ true → k ≡ found) → odd_below b n ≡ true
odd_below-one b zero found within passes once = absurd (omega arith)
odd_below-one b (suc n) found within passes once = by (λ l. odd_below-one b n found l passes (λ k l. once k (omega arith))) (cases_eq n found)
  where
    by : (found < n → odd_below b n ≡ true) → (n ≡ found) ⊎ (n ≡ found → ⊥) → odd_below b (suc n) ≡ true
    by earlier (inl last) = λ i. xor
        (odd_below-none b n (λ k l. false_of_other b k found (once k (omega arith)) (λ e. omega arith)) i)
        ((ap b last ∙ passes) i)
    by earlier (inr other) = λ i. xor (earlier (omega arith) i) (false_of_other b n found (once n (omega arith)) other i)

-- ---- in pairs
-- a table that is the same along its rows as along its columns, with nothing on its diagonal, has an even number of entries
pub odd_table : (m : ℕ → ℕ → Bool) (n : ℕ) → ((j k : ℕ) → j < n → k < n → m j k ≡ m k j) → ((k : ℕ) → k < n → m k k ≡ false)
    → odd_below (λ j. odd_below (m j) n) n ≡ false
odd_table m zero alike empty = refl
odd_table m (suc n) alike empty =
    (λ i. xor (odd_below-xor (λ j. odd_below (m j) n) (λ j. m j n) n i) (xor (odd_below (m n) n) (empty n (omega arith) i)))
    ∙ (λ i. xor (xor (odd_table m n (λ j k l l'. alike j k (omega arith) (omega arith)) (λ k l. empty k (omega arith)) i) (column i)) (xor-none (odd_below (m n) n) i))
    ∙ xor-twice (odd_below (m n) n)
  where
    column : odd_below (λ j. m j n) n ≡ odd_below (m n) n
    column = odd_below-same (λ j. m j n) (m n) n (λ j l. alike j n (omega arith) (omega arith))

-- ---- in a list
pub odd_below-front : (b : ℕ → Bool) (n : ℕ) → odd_below b (suc n) ≡ xor (b 0) (odd_below (λ k. b (suc k)) n)
odd_below-front b zero = xor-comm false (b 0)
odd_below-front b (suc n) = ap (λ x. xor x (b (suc n))) (odd_below-front b n) ∙ xor-assoc (b 0) (odd_below (λ k. b (suc k)) n) (b (suc n))

-- by threes
pub odd_below-threes : (b : ℕ → Bool) (n : ℕ) → odd_below b (3 * n) ≡ odd_below (λ k. xor (xor (b (3 * k)) (b (3 * k + 1))) (b (3 * k + 2))) n
odd_below-threes b zero = refl
odd_below-threes b (suc n) =
    ap (odd_below b) (three n)
    ∙ (λ i. xor (xor (xor (odd_below-threes b n i) (b (3 * n))) (b (one n i))) (b (two n i)))
    ∙ together (odd_below (λ k. xor (xor (b (3 * k)) (b (3 * k + 1))) (b (3 * k + 2))) n) (b (3 * n)) (b (3 * n + 1)) (b (3 * n + 2))
  where
    three : (n : ℕ) → 3 * suc n ≡ suc (suc (suc (3 * n)))
    three n = omega arith

    one : (n : ℕ) → suc (3 * n) ≡ 3 * n + 1
    one n = omega arith

    two : (n : ℕ) → suc (suc (3 * n)) ≡ 3 * n + 2
    two n = omega arith

    together : (w x y z : Bool) → xor (xor (xor w x) y) z ≡ xor w (xor (xor x y) z)
    together w x y z = ap (λ u. xor u z) (xor-assoc w x y) ∙ xor-assoc w (xor x y) z

-- whether an odd number of the elements pass
abbrev pub odd_in : {A : Type 0} → (A → Bool) → List A → Bool
odd_in b [] = false
odd_in b (x ∷ xs) = xor (b x) (odd_in b xs)

pub odd_in-places : {A : Type 0} (b : A → Bool) (d : A) (xs : List A) → odd_in b xs ≡ odd_below (λ k. b (get_or xs k d)) (length xs)
odd_in-places b d [] = refl
odd_in-places b d (x ∷ xs) = ap (xor (b x)) (odd_in-places b d xs) ∙ sym (odd_below-front (λ k. b (get_or (x ∷ xs) k d)) (length xs))

-- whether a number is odd
abbrev pub is_odd : ℕ → Bool
is_odd zero = false
is_odd (suc n) = xor true (is_odd n)

odd_cases : (n : ℕ) → ((is_odd n ≡ true) × (n % 2 ≡ 1)) ⊎ ((is_odd n ≡ false) × (n % 2 ≡ 0))
odd_cases zero = inr (refl, refl)
odd_cases (suc n) = by (odd_cases n)
  where
    by : ((is_odd n ≡ true) × (n % 2 ≡ 1)) ⊎ ((is_odd n ≡ false) × (n % 2 ≡ 0)) → ((is_odd (suc n) ≡ true) × (suc n % 2 ≡ 1)) ⊎ ((is_odd (suc n) ≡ false) × (suc n % 2 ≡ 0))
    by (inl (e, h)) = inr (ap (xor true) e, omega arith)
    by (inr (e, h)) = inl (ap (xor true) e, omega arith)

pub odd_decides : (n : ℕ) → Decides (is_odd n) (n % 2 ≡ 1)
odd_decides n = by (odd_cases n)
  where
    by : ((is_odd n ≡ true) × (n % 2 ≡ 1)) ⊎ ((is_odd n ≡ false) × (n % 2 ≡ 0)) → Decides (is_odd n) (n % 2 ≡ 1)
    by (inl (e, h)) = ((λ g. h), (λ g. e))
    by (inr (e, h)) = ((λ g. absurd (false≢true (sym e ∙ g))), (λ g. absurd (omega arith)))

-- the count's number is odd exactly if an odd number of the elements pass
pub odd_count : {A : Type 0} (P : A → Type 0) (b : A → Bool) (xs : List A) (n : ℕ) → ((x : A) → Contains xs x → Decides (b x) (P x)) → IsCount A P xs n → is_odd n ≡ odd_in b xs
odd_count P b [] n decide nothing = refl
odd_count P b (x ∷ xs) n decide (counted _ _ k p h) =
    λ i. xor (sym ((decide x (0, omega arith, refl)).1 p) i) (odd_count P b xs k (λ y there. decide y (Contains-later x xs y there)) h i)
odd_count P b (x ∷ xs) n decide (skipped _ _ k p h) =
    λ i. xor (sym (false_from_ne_true (b x) (λ e. p ((decide x (0, omega arith, refl)).0 e))) i) (odd_count P b xs k (λ y there. decide y (Contains-later x xs y there)) h i)

-- what is decided of each element has a count
pub count_by : {A : Type 0} (P : A → Type 0) (b : A → Bool) (xs : List A) → ((x : A) → Contains xs x → Decides (b x) (P x)) → (n : ℕ) × IsCount A P xs n
count_by P b [] decide = (0, nothing)
count_by {A} P b (x ∷ xs) decide = by (count_by P b xs (λ y there. decide y (Contains-later x xs y there))) (b x) refl
  where
    by : (n : ℕ) × IsCount A P xs n → (v : Bool) → b x ≡ v → (n : ℕ) × IsCount A P (x ∷ xs) n
    by (n, h) true e = (suc n, counted x xs n ((decide x (0, omega arith, refl)).0 e) h)
    by (n, h) false e = (n, skipped x xs n (λ p. false≢true (sym e ∙ (decide x (0, omega arith, refl)).1 p)) h)

-- an odd number of elements pass exactly if the count of those with the property is odd
pub odd_in_decides : {A : Type 0} (P : A → Type 0) (b : A → Bool) (xs : List A) → ((x : A) → Contains xs x → Decides (b x) (P x)) → Decides (odd_in b xs) ((n : ℕ) × IsCount A P xs n × (n % 2 ≡ 1))
odd_in_decides {A} P b xs decide = (
  (λ e.
      let (n, count) = count_by P b xs decide in
      (n, count, (odd_decides n).0 (odd_count P b xs n decide count ∙ e))),
  (λ (n, count, odd). sym (odd_count P b xs n decide count) ∙ (odd_decides n).1 odd),
)

pub odd_in-same : {A : Type 0} (b c : A → Bool) (xs : List A) → ((x : A) → Contains xs x → b x ≡ c x) → odd_in b xs ≡ odd_in c xs
odd_in-same b c [] h = refl
odd_in-same b c (x ∷ xs) h = λ i. xor (h x (0, omega arith, refl) i) (odd_in-same b c xs (λ y there. h y (Contains-later x xs y there)) i)
