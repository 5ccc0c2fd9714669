-- A fraction in lowest terms is written with its own two numbers.
use Rattle.std.proofs.Common.{◌≡◌, ◌*◌, ℕ, [], ◌∷◌, List, ◌++◌, codes, ℤ, pos, ◌*ℤ◌, ◌<ℤ◌, unsigned_abs, arith, sym, ap, ◌∙◌, subst, inl, inr, false, mul_comm, append_assoc}
use Rattle.std.specs.Prelude.{if◌then◌else◌, ◌==◌}
use Rattle.std.specs.Fmt.{signed_decimal}
use Rattle.std.specs.Int.{◌∣◌}
use Rattle.std.proofs.lemmas.Int.{ints, unsigned_abs-mul}
use Rattle.std.proofs.lemmas.Bool.{ne_eqb}
use Rattle.std.proofs.Math.Nat.{dvd-mul_left, eq-one_of_dvd-one}
use Rattle.std.proofs.lemmas.Nat.Gcd.{dvd_antisymm}
use Rattle.integers.proofs.Divisors.{divides_factor}
use Rattle.integers.proofs.Orders.{same_of_products}
use Rattle.exact_frac.specs.declared.Frac.{Frac}
use Rattle.exact_frac.specs.Divisors.{IsGreatestDivisor}
use Rattle.exact_frac.specs.Frac.{IsLowest}
use Rattle.dec_text.specs.Texts.{IsFractionText, IsRatioText}
use Rattle.plot_rack.specs.Lists.{column, frac_text}

-- ---- two fractions of one value in lowest terms have the same numbers
-- of a / b and c / d, with a / b in lowest terms
divides : (a b c d : ℤ) → pos 0 <ℤ b → IsGreatestDivisor a b (pos 1) → a *ℤ d ≡ c *ℤ b → unsigned_abs b ∣ unsigned_abs d
divides a b c d positive lowest same =
    let product : unsigned_abs c * unsigned_abs b ≡ unsigned_abs d * unsigned_abs a =
    sym (unsigned_abs-mul c b) ∙ ap unsigned_abs (sym same) ∙ unsigned_abs-mul a d ∙ mul_comm (unsigned_abs a) (unsigned_abs d) in
    let first : unsigned_abs b ∣ unsigned_abs d * unsigned_abs a = subst (λ x. unsigned_abs b ∣ x) product (dvd-mul_left (unsigned_abs b) (unsigned_abs c)) in
    let second = dvd-mul_left (unsigned_abs b) (unsigned_abs d) in
    divides_factor (unsigned_abs b) (unsigned_abs d) (unsigned_abs a) (unsigned_abs b) (unsigned_abs b) (omega (arith, ints))
    (λ k ka kb again. eq-one_of_dvd-one (lowest.greatest.2 k ka kb)) first second second

alike : (b d : ℤ) → pos 0 <ℤ b → pos 0 <ℤ d → unsigned_abs b ≡ unsigned_abs d → b ≡ d
alike b d p q h = omega (arith, ints)

pub record AreSame (a b c d : ℤ) : Type 0 where
  pub first : a ≡ c
  pub second : b ≡ d

pub same_terms : (a b c d : ℤ) → pos 0 <ℤ b → pos 0 <ℤ d → IsGreatestDivisor a b (pos 1) → IsGreatestDivisor c d (pos 1) → a *ℤ d ≡ c *ℤ b → AreSame a b c d
same_terms a b c d p q lowest lowest_too same =
    let second : b ≡ d = alike b d p q (dvd_antisymm (divides a b c d p lowest same) (divides c d a b q lowest_too (sym same))) in
    record { first = same_of_products a c d q (same ∙ ap (λ (x : ℤ). c *ℤ x) second); second = second }

-- ---- its text
ratio_text : (n d : ℤ) (text : List ℕ) → IsRatioText n d text
    → text ≡ (if unsigned_abs d == 1 then signed_decimal n else signed_decimal n ++ codes "/" ++ signed_decimal d)
ratio_text n d text (inl (one, is)) = rw one is
ratio_text n d text (inr (more, is)) =
    let unlike : (unsigned_abs d == 1) ≡ false = ne_eqb (unsigned_abs d) 1 (λ e. omega (arith, ints)) in
    rw unlike is

pub lowest_text : (f : Frac) (text : List ℕ) → IsLowest f → IsFractionText f text → text ≡ frac_text f
lowest_text f text lowest t =
    let same = same_terms t.num t.den f.num f.den t.positive f.positive t.lowest lowest t.same in
    rw (← same.first, ← same.second) (ratio_text t.num t.den text t.is)

-- it comes behind a blank
pub column_of : (f : Frac) (line spaced new : List ℕ) → IsLowest f → spaced ≡ line ++ 32 ∷ [] → (text : List ℕ) × IsFractionText f text × (new ≡ spaced ++ text)
    → new ≡ line ++ column (frac_text f)
column_of f line spaced new lowest blank (text, is, grown) =
    grown ∙ (λ i. blank i ++ lowest_text f text lowest is i) ∙ append_assoc line (32 ∷ []) (frac_text f)
