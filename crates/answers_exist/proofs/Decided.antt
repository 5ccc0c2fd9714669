-- What is decided: either it holds or it doesn't. And the first number of which something decided holds.
use Rattle.std.proofs.Common.{◌≡◌, ◌⊎◌, inl, inr, ◌↔◌, ℕ, zero, suc, ◌<◌, ◌==◌, ltb, ℤ, pos, negsuc, ◌-ℤ◌, ◌≤ℤ◌, ◌<ℤ◌, Bool, true, false, List, [], ◌∷◌, All, length, get_or, Option, Some, None, refl, sym, subst, arith, true≢false}
use Rattle.std.specs.Bool.{Decides}
use Rattle.std.specs.List.{Any}
use Rattle.std.specs.Ordering.{int_eq}
use Rattle.std.proofs.lemmas.Bool.{cases_order}
use Rattle.std.proofs.lemmas.Bool.Decides.{Decides-eqb, Decides-ltb, Decides-int_eq}
use Rattle.std.proofs.lemmas.Int.{ints}
use Rattle.std.proofs.lemmas.List.Elements.{All-nil, All-cons}

abbrev pub Decided : Type 0 → Type 0
Decided P = P ⊎ ¬ P

pub decided_as : {P Q : Type 0} → P ↔ Q → Decided P → Decided Q
decided_as same (inl p) = inl (same.0 p)
decided_as same (inr fails) = inr (λ q. fails (same.1 q))

pub decided_not : {P : Type 0} → Decided P → Decided (¬ P)
decided_not (inl p) = inr (λ fails. fails p)
decided_not (inr fails) = inl fails

pub decided_both : {P Q : Type 0} → Decided P → Decided Q → Decided (P × Q)
decided_both (inl p) (inl q) = inl (p, q)
decided_both (inl p) (inr fails) = inr (λ both. fails both.1)
decided_both (inr fails) q = inr (λ both. fails both.0)

pub decided_by : {P Q : Type 0} → P ↔ Q → Decided Q → Decided P
decided_by same (inl q) = inl (same.1 q)
decided_by same (inr never) = inr (λ p. never (same.0 p))

pub decided_three : {P Q R : Type 0} → Decided P → Decided Q → Decided R → Decided (P × Q × R)
decided_three (inl p) (inl q) (inl r) = inl (p, q, r)
decided_three (inl p) (inl q) (inr fails) = inr (λ all. fails all.2)
decided_three (inl p) (inr fails) r = inr (λ all. fails all.1)
decided_three (inr fails) q r = inr (λ all. fails all.0)

pub decided_implied : {P Q : Type 0} → Decided P → Decided Q → Decided (P → Q)
decided_implied (inl p) (inl q) = inl (λ _. q)
decided_implied (inl p) (inr never) = inr (λ f. never (f p))
decided_implied (inr fails) q = inl (λ p. absurd (fails p))

neither : {P Q : Type 0} → ¬ P → ¬ Q → P ⊎ Q → ⊥
neither fails never (inl p) = fails p
neither fails never (inr q) = never q

pub decided_either : {P Q : Type 0} → Decided P → Decided Q → Decided (P ⊎ Q)
decided_either (inl p) q = inl (inl p)
decided_either (inr fails) (inl q) = inl (inr q)
decided_either (inr fails) (inr never) = inr (neither fails never)

pub decided_if : {P : Type 0} → (b : Bool) → Decides b P → Decided P
decided_if true h = inl (h.0 refl)
decided_if false h = inr (λ p. true≢false (sym (h.1 p)))

-- ---- cases
pub by_option : {S Claim : Type 0} (o : Option S) → (o ≡ None → Claim) → ((s : S) → o ≡ Some s → Claim) → Claim
by_option None none some = none refl
by_option (Some s) none some = some s refl

pub by_test : {Claim : Type 0} (b : Bool) → (b ≡ true → Claim) → (b ≡ false → Claim) → Claim
by_test true passes other = passes refl
by_test false passes other = other refl

-- ---- numbers
pub decided_equal : (m n : ℕ) → Decided (m ≡ n)
decided_equal m n = decided_if (m == n) (Decides-eqb m n)

pub decided_below : (m n : ℕ) → Decided (m < n)
decided_below m n = decided_if (ltb m n) (Decides-ltb m n)

pub decided_same : (m n : ℤ) → Decided (m ≡ n)
decided_same m n = decided_if (int_eq m n) (Decides-int_eq m n)

pub decided_positive : (z : ℤ) → Decided (pos 0 <ℤ z)
decided_positive (pos zero) = inr (λ less. absurd (omega (arith, ints, less)))
decided_positive (pos (suc n)) = inl (omega (arith, ints))
decided_positive (negsuc n) = inr (λ less. absurd (omega (arith, ints, less)))

pub decided_not_negative : (z : ℤ) → Decided (pos 0 ≤ℤ z)
decided_not_negative (pos n) = inl (omega (arith, ints))
decided_not_negative (negsuc n) = inr (λ least. absurd (omega (arith, ints, least)))

gap_at_most : (m n : ℤ) → pos 0 ≤ℤ (n -ℤ m) → m ≤ℤ n
gap_at_most m n h = omega (arith, ints, h)

at_most_gap : (m n : ℤ) → m ≤ℤ n → pos 0 ≤ℤ (n -ℤ m)
at_most_gap m n h = omega (arith, ints, h)

pub decided_at_most : (m n : ℤ) → Decided (m ≤ℤ n)
decided_at_most m n = decided_as (gap_at_most m n, at_most_gap m n) (decided_not_negative (n -ℤ m))

gap_less : (m n : ℤ) → pos 0 <ℤ (n -ℤ m) → m <ℤ n
gap_less m n h = omega (arith, ints, h)

less_gap : (m n : ℤ) → m <ℤ n → pos 0 <ℤ (n -ℤ m)
less_gap m n h = omega (arith, ints, h)

pub decided_less : (m n : ℤ) → Decided (m <ℤ n)
decided_less m n = decided_as (gap_less m n, less_gap m n) (decided_positive (n -ℤ m))

-- negative, zero or positive
abbrev pub Sign : ℤ → Type 0
Sign z = (z <ℤ pos 0) ⊎ ((z ≡ pos 0) ⊎ (pos 0 <ℤ z))

pub sign_of : (z : ℤ) → Sign z
sign_of (pos zero) = inr (inl refl)
sign_of (pos (suc n)) = inr (inr (omega (arith, ints)))
sign_of (negsuc n) = inl (omega (arith, ints))

-- ---- the first number
-- i is the first number of which it holds, and below n
pub record IsFirstBelow (P : ℕ → Type 0) (n i : ℕ) : Type 0 where
  pub within : i < n
  pub holds : P i
  pub none_before : (j : ℕ) → j < i → ¬ P j

module _ (P : ℕ → Type 0) where
  none_more : (n : ℕ) → ((i : ℕ) → i < n → ¬ P i) → ¬ P n → (i : ℕ) → i < suc n → ¬ P i
  none_more n none fails i h p = by (cases_order i n)
    where
      by : (i ≡ n) ⊎ ((i < n) ⊎ (n < i)) → ⊥
      by (inl e) = fails (subst P e p)
      by (inr (inl less)) = none i less p
      by (inr (inr more)) = absurd (omega (arith, h, more))

  -- something decided holds of a first number below n, or of none below n
  pub first_below : ((i : ℕ) → Decided (P i)) → (n : ℕ) → ((i : ℕ) × IsFirstBelow P n i) ⊎ ((i : ℕ) → i < n → ¬ P i)
  first_below each zero = inr (λ i h p. absurd (omega (arith, h)))
  first_below each (suc n) = by (first_below each n) (each n)
    where
      by : ((i : ℕ) × IsFirstBelow P n i) ⊎ ((i : ℕ) → i < n → ¬ P i) → Decided (P n) → ((i : ℕ) × IsFirstBelow P (suc n) i) ⊎ ((i : ℕ) → i < suc n → ¬ P i)
      by (inl (i, first)) here = let less = first.within in inl (i, record { within = omega (arith, less); holds = first.holds; none_before = first.none_before })
      by (inr none) (inl p) = inl (n, record { within = omega arith; holds = p; none_before = none })
      by (inr none) (inr fails) = inr (none_more n none fails)

  -- it is decided whether something decided holds of a number, where it holds of none from n on
  pub decided_some : ((i : ℕ) → Decided (P i)) → (n : ℕ) → ((i : ℕ) → P i → i < n) → Decided ((i : ℕ) × P i)
  decided_some each n within = by (first_below each n)
    where
      by : ((i : ℕ) × IsFirstBelow P n i) ⊎ ((i : ℕ) → i < n → ¬ P i) → Decided ((i : ℕ) × P i)
      by (inl (i, first)) = inl (i, first.holds)
      by (inr none) = inr (λ (i, p). none i (within i p) p)

-- ---- lists
module _ {X : Type 0} (P : X → Type 0) (each : (x : X) → Decided (P x)) where
  pub decided_all : (xs : List X) → Decided (All P xs)
  decided_all [] = inl (All-nil P)
  decided_all (x ∷ xs) = by (each x) (decided_all xs)
    where
      by : Decided (P x) → Decided (All P xs) → Decided (All P (x ∷ xs))
      by (inl p) (inl others) = inl (All-cons P x xs p others)
      by (inl p) (inr fails) = inr (λ all. fails (λ k d less. all (suc k) d (omega (arith, less))))
      by (inr fails) others = inr (λ all. fails (all 0 x (omega arith)))

  none_of : (x : X) (xs : List X) → ¬ P x → ¬ Any P xs → (k : ℕ) (y : X) → k < length (x ∷ xs) → get_or (x ∷ xs) k y ≡ y → P y → ⊥
  none_of x xs fails never zero y less e p = fails (subst P (sym e) p)
  none_of x xs fails never (suc k) y less e p = never (k, y, omega (arith, less), e, p)

  pub decided_any : (xs : List X) → Decided (Any P xs)
  decided_any [] = inr (λ (k, y, less, e, p). absurd (omega (arith, less)))
  decided_any (x ∷ xs) = by (each x) (decided_any xs)
    where
      by : Decided (P x) → Decided (Any P xs) → Decided (Any P (x ∷ xs))
      by (inl p) others = inl (0, x, omega arith, refl, p)
      by (inr fails) (inl (k, y, less, e, p)) = inl (suc k, y, omega (arith, less), e, p)
      by (inr fails) (inr never) = inr (λ (k, y, less, e, p). none_of x xs fails never k y less e p)
