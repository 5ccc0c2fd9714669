-- The text of a fraction is read in one way only.
use Rattle.std.proofs.Common.{◌≡◌, ◌≢◌, ◌⊎◌, ℕ, ◌<◌, ◌≤◌, ◌^◌, zero, suc, List, [], ◌∷◌, ◌++◌, codes, ℤ, pos, negsuc, ◌<ℤ◌, unsigned_abs, Option, Some, None, MatchOption, refl, sym, ◌∙◌, ap, subst, arith, inl, inr, append_assoc, lit<, of_z, to_z, to_z-of_z, FitsSigned}
use Rattle.std.specs.Prelude.{if◌then◌else◌, ◌==◌}
use Rattle.std.specs.Fmt.{decimal, signed_decimal}
use Rattle.std.specs.Int.{w128}
use Rattle.std.proofs.lemmas.Int.{ints, to_z_pos}
use Rattle.std.proofs.lemmas.Bool.{ne_eqb}
use Rattle.std.proofs.Math.Nat.{eq-one_of_dvd-one, one-dvd}
use Rattle.std.proofs.lemmas.Nat.Gcd.{dvd_refl}
use Rattle.exact_frac.specs.declared.Frac.{Frac}
use Rattle.exact_frac.specs.Divisors.{IsGreatestDivisor}
use Rattle.plot_rack.specs.Lists.{frac_text}
use Rattle.piece_verify.specs.Columns.{IsFree, Reads}
use Rattle.piece_verify.specs.Values.{IsListedFrac}
use Rattle.piece_verify.specs.inner.Ratios.{IsRatio}
use Rattle.piece_verify.proofs.Parts.{not_free, same_parts}
use Rattle.piece_verify.proofs.Numerals.{same_natural, same_whole, free_whole}

-- ---- the two forms
abbrev pub text_by : ℤ → ℤ → List ℕ
text_by n d = if unsigned_abs d == 1 then signed_decimal n else signed_decimal n ++ codes "/" ++ signed_decimal d

pub record IsWhole (n d : ℤ) (text : List ℕ) : Type 0 where
  pub one : d ≡ pos 1
  pub is : text ≡ signed_decimal n

pub record IsParted (n d : ℤ) (text : List ℕ) : Type 0 where
  pub more : 1 < unsigned_abs d
  pub is : text ≡ signed_decimal n ++ 47 ∷ decimal (unsigned_abs d)

parted_text : (n : ℤ) (d : ℕ) → 1 < d → text_by n (pos d) ≡ signed_decimal n ++ 47 ∷ decimal d
parted_text n d more = rw (ne_eqb d 1 (λ e. omega (arith, e, more))) (append_assoc (signed_decimal n) (47 ∷ []) (decimal d))

pub forms : (n d : ℤ) (text : List ℕ) → pos 0 <ℤ d → text ≡ text_by n d → IsWhole n d text ⊎ IsParted n d text
forms n (pos zero) text positive e = absurd (omega (arith, ints))
forms n (pos (suc zero)) text positive e = inl record { one = refl; is = e }
forms n (pos (suc (suc d))) text positive e = let more : 1 < suc (suc d) = omega arith in inr record { more = more; is = e ∙ parted_text n (suc (suc d)) more }
forms n (negsuc d) text positive e = absurd (omega (arith, ints))

-- ---- a text with `/`
record AreParts (n d : ℤ) (num den : List ℕ) : Type 0 where
  more : 1 < unsigned_abs d
  num_is : num ≡ signed_decimal n
  den_is : den ≡ decimal (unsigned_abs d)

pub free_of_line : (z : ℤ) → unsigned_abs z < 2 ^ 104 → IsFree 47 (signed_decimal z)
free_of_line z h = free_whole 47 z (lit< tt) (λ e. omega arith) h

parts : (num den : List ℕ) (f : Frac) → IsFree 47 num → IsListedFrac f → num ++ 47 ∷ den ≡ frac_text f → AreParts f.num f.den num den
parts num den f free l e = elim (forms f.num f.den (num ++ 47 ∷ den) f.positive e) [
  | inl one ↦ absurd (not_free 47 num den (subst (λ (t : List ℕ). IsFree 47 t) (sym one.is) (free_of_line f.num l.small.num)))
  | inr two ↦ (let both = same_parts 47 num den (signed_decimal f.num) (decimal (unsigned_abs f.den)) free (free_of_line f.num l.small.num) two.is in
      record { more = two.more; num_is = both.0; den_is = both.1 })
]

pub no_num : (num den : List ℕ) → IsFree 47 num → ((z : ℤ) → unsigned_abs z < 2 ^ 104 → num ≡ signed_decimal z → ⊥) → (f : Frac) → IsListedFrac f
    → num ++ 47 ∷ den ≡ frac_text f → ⊥
no_num num den free none f l e = let p = parts num den f free l e in none f.num l.small.num p.num_is

pub den_size : (n : ℕ) → n < 2 ^ 70 → n < 2 ^ 104
den_size n h = omega (arith, h)

pub no_den : (num den : List ℕ) → IsFree 47 num → ((n : ℕ) → n < 2 ^ 104 → den ≡ decimal n → ⊥) → (f : Frac) → IsListedFrac f → num ++ 47 ∷ den ≡ frac_text f → ⊥
no_den num den free none f l e = let p = parts num den f free l e in none (unsigned_abs f.den) (den_size (unsigned_abs f.den) l.small.den) p.den_is

pub positive_size : (d : ℤ) → pos 0 <ℤ d → d ≡ pos (unsigned_abs d)
positive_size d h = omega (arith, ints)

ratio_none : (num den : List ℕ) (z : ℤ) (n : ℕ) → IsFree 47 num → unsigned_abs z < 2 ^ 104 → n < 2 ^ 104 → num ≡ signed_decimal z → den ≡ decimal n → (IsRatio z n → ⊥)
    → (f : Frac) → IsListedFrac f → num ++ 47 ∷ den ≡ frac_text f → ⊥
ratio_none num den z n free num_size size num_is den_is none f l e =
    let p = parts num den f free l e in
    let first : f.num ≡ z = same_whole f.num z l.small.num num_size (sym p.num_is ∙ num_is) in
    let second : unsigned_abs f.den ≡ n = same_natural (unsigned_abs f.den) n (den_size (unsigned_abs f.den) l.small.den) size (sym p.den_is ∙ den_is) in
    let whole : f.den ≡ pos n = positive_size f.den f.positive ∙ ap pos second in
    none record {
      more = subst (λ (m : ℕ). 1 < m) second p.more;
      size = subst (λ (m : ℕ). m < 2 ^ 70) second l.small.den;
      lowest = subst (λ (a : ℤ). IsGreatestDivisor a (pos n) (pos 1)) first (subst (λ (b : ℤ). IsGreatestDivisor f.num b (pos 1)) whole l.lowest);
    }

same_text : (f : Frac) (z : ℤ) (n : ℕ) → f.num ≡ z → f.den ≡ pos n → frac_text f ≡ text_by z (pos n)
same_text f z n a b = (λ i. text_by (a i) (b i))

pub ratio_result : (num den : List ℕ) (z : ℤ) (n : ℕ) (o : Option Frac) → IsFree 47 num → unsigned_abs z < 2 ^ 104 → n < 2 ^ 104 → num ≡ signed_decimal z → den ≡ decimal n
    → MatchOption o (IsRatio z n → ⊥) (λ f. IsRatio z n × (f.num ≡ z) × (f.den ≡ pos n)) → Reads IsListedFrac frac_text (num ++ 47 ∷ den) o
ratio_result num den z n None free num_size size num_is den_is h = ratio_none num den z n free num_size size num_is den_is h
ratio_result num den z n (Some f) free num_size size num_is den_is h = (
  record {
    small = record { num = subst (λ (a : ℤ). unsigned_abs a < 2 ^ 104) (sym h.1) num_size; den = subst (λ (b : ℤ). unsigned_abs b < 2 ^ 70) (sym h.2) h.0.size };
    lowest = subst (λ (a : ℤ). IsGreatestDivisor a f.den (pos 1)) (sym h.1) (subst (λ (b : ℤ). IsGreatestDivisor z b (pos 1)) (sym h.2) h.0.lowest);
  },
  (λ i. num_is i ++ 47 ∷ den_is i) ∙ sym (parted_text z n h.0.more) ∙ sym (same_text f z n h.1 h.2),
)

-- ---- a text without `/`
pub no_whole : (bytes : List ℕ) → IsFree 47 bytes → ((z : ℤ) → unsigned_abs z < 2 ^ 104 → bytes ≡ signed_decimal z → ⊥) → (f : Frac) → IsListedFrac f → bytes ≡ frac_text f → ⊥
no_whole bytes free none f l e = elim (forms f.num f.den bytes f.positive e) [
  | inl one ↦ none f.num l.small.num one.is
  | inr two ↦ not_free 47 (signed_decimal f.num) (decimal (unsigned_abs f.den)) (subst (λ (t : List ℕ). IsFree 47 t) two.is free)
]

-- ---- numbers that fit
pub fits : (z : ℤ) → unsigned_abs z < 2 ^ 104 → FitsSigned w128 z
fits (pos n) h = omega (arith, h)
fits (negsuc n) h = omega (arith, h)

pub kept : (z : ℤ) → unsigned_abs z < 2 ^ 104 → to_z w128 (of_z w128 z) ≡ z
kept z h = let f = fits z h in rw to_z-of_z refl

pub kept_natural : (n : ℕ) → n < 2 ^ 70 → to_z w128 n ≡ pos n
kept_natural n h = to_z_pos w128 n (omega (arith, h))

-- ---- the greatest common divisor is another number
one_divisor : (a : ℤ) (n : ℕ) (g : ℤ) → IsGreatestDivisor a (pos n) g → IsGreatestDivisor a (pos n) (pos 1) → g ≡ pos 1
one_divisor a n g h k = let one : unsigned_abs g ≡ 1 = eq-one_of_dvd-one (k.greatest.2 (unsigned_abs g) h.greatest.0 h.greatest.1) in omega (arith, ints, h.not_negative, one)

whole_one : (g : ℤ) → FitsSigned w128 g → of_z w128 g ≡ 1 → g ≡ pos 1
whole_one g within one = let same : to_z w128 (of_z w128 g) ≡ g = (let f : FitsSigned w128 g = within in rw to_z-of_z refl) in sym same ∙ ap (to_z w128) one

pub is_ratio : (a b : ℤ) (n : ℕ) (g : ℤ) → 2 ≤ n → n < 2 ^ 70 → b ≡ pos n → IsGreatestDivisor a b g → of_z w128 g ≡ 1 → FitsSigned w128 g → IsRatio a n
is_ratio a b n g more size is h one within = record {
  more = omega (arith, more);
  size = size;
  lowest = subst (λ (k : ℤ). IsGreatestDivisor a (pos n) k) (whole_one g within one) (subst (λ (b : ℤ). IsGreatestDivisor a b g) is h);
}

pub no_ratio : (a b : ℤ) (n : ℕ) (g : ℤ) → b ≡ pos n → IsGreatestDivisor a b g → of_z w128 g ≢ 1 → IsRatio a n → ⊥
no_ratio a b n g is h other r = other (ap (of_z w128) (one_divisor a n g (subst (λ (b : ℤ). IsGreatestDivisor a b g) is h) r.lowest))

-- ---- a whole number is a fraction

pub whole_listed : (f : Frac) → unsigned_abs f.num < 2 ^ 104 → f.den ≡ pos 1 → IsListedFrac f
whole_listed f size one = record {
  small = record { num = size; den = subst (λ (d : ℤ). unsigned_abs d < 2 ^ 70) (sym one) (lit< tt) };
  lowest = subst (λ (d : ℤ). IsGreatestDivisor f.num d (pos 1)) (sym one) record {
    not_negative = omega (arith, ints);
    greatest = (one-dvd (unsigned_abs f.num), dvd_refl 1, λ k h own. own);
  };
}

pub whole_fits : (z : ℤ) → unsigned_abs z < 2 ^ 104 → unsigned_abs z < 2 ^ 127
whole_fits z h = omega (arith, h)
