-- Counts and sums of lists, as sums over places.
use Rattle.std.proofs.Common.{◌≡◌, ◌⊎◌, inl, inr, ℕ, zero, suc, ◌+◌, ◌<◌, Bool, true, false, not, nat_eq, List, [], ◌∷◌, All, AllPairs, Contains, length, get_or, slice_get, map, sum, Some, refl, sym, ap, subst, ◌∙◌, arith, ⊎_elim}
use Rattle.std.specs.Prelude.{ℤ, pos, ◌+ℤ◌}
use Rattle.std.specs.List.{AllZip}
use Rattle.std.proofs.lemmas.Int.{ints}
use Rattle.std.proofs.lemmas.Bool.{cases_Bool}
use Rattle.std.proofs.lemmas.List.Sums.{sum_by-cons}
use Rattle.std.proofs.lemmas.Option.{none-some, same_Some}
use Rattle.geometry.specs.Cuts.{IsCount}
use Rattle.geometry.specs.Cuts.IsCount.{nothing, counted, skipped}
use Rattle.hiding_laws.specs.inner.Tallies.{IsTally}
use Rattle.hiding_laws.specs.inner.Tallies.{yes, no}
use Rattle.hiding_laws.specs.Sums.{total}
use Rattle.hiding_laws.proofs.SumsBelow.{sum_below, keep}
use Rattle.hiding_laws.proofs.Sums.{sum_same, sum_add, sum_zero, one_of}

-- a sum by its first item
sum_first : (f : ℕ → ℤ) (n : ℕ) → sum_below f (suc n) ≡ f 0 +ℤ sum_below (λ i. f (suc i)) n
sum_first f zero = turned (f 0)
  where
    turned : (x : ℤ) → pos 0 +ℤ x ≡ x +ℤ pos 0
    turned x = omega (arith, ints)
sum_first f (suc n) = ap (λ v. v +ℤ f (suc n)) (sum_first f n) ∙ moved (f 0) (sum_below (λ i. f (suc i)) n) (f (suc n))
  where
    moved : (x y z : ℤ) → (x +ℤ y) +ℤ z ≡ x +ℤ (y +ℤ z)
    moved x y z = omega (arith, ints)

-- ---- a count
abbrev ahead : ℤ → (ℕ → ℤ) → ℕ → ℤ
ahead z f zero = z
ahead z f (suc i) = f i

-- a number for each place of the list, 1 where P holds and else 0, with the sum n
pub record HasTally {A : Type 0} (P : A → Type 0) (xs : List A) (n : ℕ) : Type 0 where
  pub tally : ℕ → ℤ
  pub sum : pos n ≡ sum_below tally (length xs)
  pub each : (i : ℕ) (x : A) → slice_get xs i ≡ Some x → IsTally (P x) (tally i)

module _ {A : Type 0} {P : A → Type 0} where
  one_ahead : (z : ℤ) (x : A) (xs : List A) (n k : ℕ) → pos n ≡ z +ℤ pos k → IsTally (P x) z → HasTally P xs k → HasTally P (x ∷ xs) n
  one_ahead z x xs n k e t r = record {
    tally = ahead z r.tally;
    sum = e ∙ ap (λ v. z +ℤ v) r.sum ∙ sym (sum_first (ahead z r.tally) (length xs));
    each = each;
  }
    where
      each : (i : ℕ) (y : A) → slice_get (x ∷ xs) i ≡ Some y → IsTally (P y) (ahead z r.tally i)
      each zero y h = subst (λ w. IsTally (P w) z) (same_Some x y h) t
      each (suc i) y h = r.each i y h

  pub tally_of_count : (xs : List A) (n : ℕ) → IsCount A P xs n → HasTally P xs n
  tally_of_count [] n nothing = record { tally = λ i. pos 0; sum = refl; each = λ i x h. absurd (none-some x h) }
  tally_of_count (x ∷ xs) n (counted _ _ k p h) = one_ahead (pos 1) x xs (suc k) k (more k) (yes p) (tally_of_count xs k h)
    where
      more : (k : ℕ) → pos (suc k) ≡ pos 1 +ℤ pos k
      more k = omega (arith, ints)
  tally_of_count (x ∷ xs) n (skipped _ _ k p h) = one_ahead (pos 0) x xs k k (same k) (no p) (tally_of_count xs k h)
    where
      same : (k : ℕ) → pos k ≡ pos 0 +ℤ pos k
      same k = omega (arith, ints)

pub sum_at : (xs : List ℕ) → pos (sum xs) ≡ sum_below (λ i. pos (get_or xs i 0)) (length xs)
sum_at [] = refl
sum_at (x ∷ xs) =
    ap (λ (n : ℕ). pos n) (sum_by-cons (λ (n : ℕ). n) x xs) ∙ split x (sum xs) ∙ ap (λ v. pos x +ℤ v) (sum_at xs)
    ∙ sym (sum_first (λ i. pos (get_or (x ∷ xs) i 0)) (length xs))
  where
    split : (x y : ℕ) → pos (x + y) ≡ pos x +ℤ pos y
    split x y = omega (arith, ints)

-- ---- a sum of which the listed items alone count
abbrev pub IsIn : ℕ → List ℕ → Type 0
IsIn h [] = ⊥
IsIn h (x ∷ xs) = (h ≡ x) ⊎ IsIn h xs

-- no item stands twice
abbrev pub AreDifferent : List ℕ → Type 0
AreDifferent [] = Unit {0}
AreDifferent (x ∷ xs) = (¬ IsIn x xs) × AreDifferent xs

is_other : (m n : ℕ) → ¬ (m ≡ n) → nat_eq m n ≡ false
is_other m n e = grind arith

is_not : (m n : ℕ) → nat_eq m n ≡ false → ¬ (m ≡ n)
is_not m n e h = grind arith

module _ (n x : ℕ) (g : ℕ → ℤ) where
  abbrev rest : ℕ → ℤ
  rest h = keep (not (nat_eq h x)) (g h)

  split : (h : ℕ) → g h ≡ keep (nat_eq h x) (g h) +ℤ rest h
  split h = by (nat_eq h x) (g h)
    where
      by : (b : Bool) (z : ℤ) → z ≡ keep b z +ℤ keep (not b) z
      by true z = omega (arith, ints)
      by false z = omega (arith, ints)

  module _ {A : Type 0} (value : A → ℤ) where
    others : (hs : List ℕ) (xs : List A) → ((h : ℕ) → IsIn h hs → ¬ (h ≡ x)) → AllZip (λ h y. (h < n) × (value y ≡ g h)) hs xs → AllZip (λ h y. (h < n) × (value y ≡ rest h)) hs xs
    others [] [] f h = h
    others [] (y ∷ ys) f h = h
    others (i ∷ is) [] f h = h
    others (i ∷ is) (y ∷ ys) f ((l, e), h) =
        ((l, e ∙ sym (ap (λ b. keep (not b) (g i)) (is_other i x (f i (inl refl))))), others is ys (λ k j. f k (inr j)) h)

pub listed_sum : {A : Type 0} (value : A → ℤ) (n : ℕ) (g : ℕ → ℤ) (hs : List ℕ) (xs : List A) → AreDifferent hs → AllZip (λ h x. (h < n) × (value x ≡ g h)) hs xs
    → ((h : ℕ) → h < n → ¬ IsIn h hs → g h ≡ pos 0) → sum_below g n ≡ total value xs
listed_sum value n g [] [] a h none = sum_same g (λ i. pos 0) n (λ i l. none i l (λ e. e)) ∙ sum_zero n
listed_sum value n g [] (x ∷ xs) a h none = absurd h
listed_sum value n g (i ∷ hs) [] a h none = absurd h
listed_sum value n g (i ∷ hs) (x ∷ xs) (a, b) ((l, e), h) none =
    sum_same g _ n (λ j m. split n i g j)
    ∙ sum_add (λ j. keep (nat_eq j i) (g j)) (rest n i g) n
    ∙ (λ t. one_of g i n l t +ℤ listed_sum value n (rest n i g) hs xs b (others n i g value hs xs (λ k j s. a (subst (λ m. IsIn m hs) s j)) h) nothing t)
    ∙ ap (λ v. v +ℤ total value xs) (sym e)
  where
    nothing : (k : ℕ) → k < n → ¬ IsIn k hs → rest n i g k ≡ pos 0
    nothing k m out = ⊎_elim
        (λ (s : nat_eq k i ≡ true). ap (λ c. keep (not c) (g k)) s)
        (λ (s : nat_eq k i ≡ false). ap (λ c. keep (not c) (g k)) s ∙ none k m (λ j. elim j [ inl f ↦ is_not k i s f | inr r ↦ out r ]))
        (cases_Bool (nat_eq k i))

-- ---- lists of numbers
module _ (f : ℕ → ℕ) where
  pub in_map : (xs : List ℕ) (y : ℕ) → IsIn y (map f xs) → (k : ℕ) × (k < length xs) × (y ≡ f (get_or xs k 0))
  in_map [] y h = absurd h
  in_map (x ∷ xs) y (inl e) = (0, omega arith, e)
  in_map (x ∷ xs) y (inr h) = let r = in_map xs y h in (suc r.0, omega arith, r.2)

  pub map_in : (xs : List ℕ) (k d : ℕ) → k < length xs → IsIn (f (get_or xs k d)) (map f xs)
  map_in [] k d h = absurd (omega arith)
  map_in (x ∷ xs) zero d h = inl refl
  map_in (x ∷ xs) (suc k) d h = inr (map_in xs k d (omega arith))

  pub different_map : (n : ℕ) → ((i j : ℕ) → i < n → j < n → f i ≡ f j → i ≡ j) → (xs : List ℕ) → All (λ i. i < n) xs → AllPairs (λ i j. ¬ (i ≡ j)) xs → AreDifferent (map f xs)
  different_map n one [] within apart = tt
  different_map n one (x ∷ xs) within apart = (
    (λ h.
        let r = in_map xs (f x) h in
        apart 0 (suc r.0) 0 (omega arith) (omega arith) (one x (get_or xs r.0 0) (within 0 0 (omega arith)) (within (suc r.0) 0 (omega arith)) r.2)),
    different_map n one xs (λ k d l. within (suc k) d (omega arith)) (λ i j d l m. apart (suc i) (suc j) d (omega arith) (omega arith)),
  )

  pub zip_map : {Z : Type 0} (n : ℕ) (R S : ℕ → Z → Type 0) (xs : List ℕ) (zs : List Z) → All (λ i. i < n) xs → ((i : ℕ) (z : Z) → i < n → R i z → S (f i) z) → AllZip R xs zs → AllZip S (map f xs) zs
  zip_map n R S [] [] within to h = h
  zip_map n R S [] (z ∷ zs) within to h = h
  zip_map n R S (x ∷ xs) [] within to h = h
  zip_map n R S (x ∷ xs) (z ∷ zs) within to (r, h) = (to x z (within 0 0 (omega arith)) r, zip_map n R S xs zs (λ k d l. within (suc k) d (omega arith)) to h)

-- ---- what is in a list
pub in_place : (xs : List ℕ) (y : ℕ) → IsIn y xs → Contains xs y
in_place [] y h = absurd h
in_place (x ∷ xs) y (inl e) = (0, omega arith, sym e)
in_place (x ∷ xs) y (inr h) = let r = in_place xs y h in (suc r.0, omega arith, r.2)

pub place_in : (xs : List ℕ) (y : ℕ) → Contains xs y → IsIn y xs
place_in [] y (k, l, e) = absurd (omega arith)
place_in (x ∷ xs) y (zero, l, e) = inl (sym e)
place_in (x ∷ xs) y (suc k, l, e) = inr (place_in xs y (k, omega arith, e))

pub different : (xs : List ℕ) → AllPairs (λ i j. ¬ (i ≡ j)) xs → AreDifferent xs
different [] apart = tt
different (x ∷ xs) apart = (
  (λ h. let r = in_place xs x h in apart 0 (suc r.0) x (omega arith) (omega arith) (sym r.2)),
  different xs (λ i j d l m. apart (suc i) (suc j) d (omega arith) (omega arith)),
)

pub zip_in : {Z : Type 0} (R S : ℕ → Z → Type 0) (xs : List ℕ) (zs : List Z) → ((i : ℕ) (z : Z) → IsIn i xs → R i z → S i z) → AllZip R xs zs → AllZip S xs zs
zip_in R S [] [] to h = h
zip_in R S [] (z ∷ zs) to h = h
zip_in R S (x ∷ xs) [] to h = h
zip_in R S (x ∷ xs) (z ∷ zs) to (r, h) = (to x z (inl refl) r, zip_in R S xs zs (λ i y m. to i y (inr m)) h)

-- a total of natural numbers
pub total_sum : (xs : List ℕ) → total (λ (n : ℕ). pos n) xs ≡ pos (sum xs)
total_sum [] = refl
total_sum (x ∷ xs) = ap (λ v. pos x +ℤ v) (total_sum xs) ∙ joined x (sum xs) ∙ ap (λ (n : ℕ). pos n) (sym (sum_by-cons (λ (n : ℕ). n) x xs))
  where
    joined : (x y : ℕ) → pos x +ℤ pos y ≡ pos (x + y)
    joined x y = omega (arith, ints)
