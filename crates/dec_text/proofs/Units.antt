-- The tenths that are read tell a number's units.
use Rattle.std.proofs.Common.{◌≡◌, ℕ, ◌+◌, ◌*◌, ◌/◌, ◌^◌, ◌<◌, ◌≤◌, Bool, ℤ, pos, ◌+ℤ◌, ◌-ℤ◌, List, ◌++◌, length, sym, ◌∙◌, ap, subst, arith, inl, inr}
use Rattle.std.proofs.lemmas.List.{length-append}
use Rattle.std.specs.Prelude.{Option, Some, None, MatchOption}
use Rattle.dec_text.specs.Numbers.{AreDigits, value_of, signed, rounded, IsExponent, Number, tenths_in, magnitude_of}
use Rattle.dec_text.specs.declared.number.Length.{Length}
use Rattle.dec_text.specs.declared.number.Length.TheVariants.{Millimetre, Inch}
use Rattle.dec_text.specs.inner.Reading.{behind_sign, IsDigitEnd, HasFraction, IsHeldExponent, count_of, lead_of, tenths_of, IsBelowEnd}
use Rattle.dec_text.specs.declared.number.Exponent.{Exponent}
use Rattle.dec_text.proofs.Digits.{digits-append}
use Rattle.dec_text.proofs.Rounding.{rounded_tenths, AreLike, held_tenths}
use Rattle.dec_text.proofs.Parts.{whole_parts, has_fraction, parts_long}

-- the units by the exact tenths, which are those that are read, or both are over the end
record IsRead (magnitude tenths : ℕ) : Type 0 where
  exact : ℕ
  is : magnitude ≡ (exact + 5) / 10
  like : AreLike exact tenths

over : (exact tenths : ℕ) → AreLike exact tenths → 10 ^ 8 ≤ tenths → 1048576 < (exact + 5) / 10
over exact tenths (inl e) h = omega arith
over exact tenths (inr k) h = omega (arith, k.0)

same : (exact tenths : ℕ) → AreLike exact tenths → tenths < 10 ^ 8 → exact ≡ tenths
same exact tenths (inl e) h = e
same exact tenths (inr k) h = absurd (omega (arith, k.1))

-- ---- the result, from what is read
told : (magnitude tenths : ℕ) → IsRead magnitude tenths → (result : Option ℕ) → IsBelowEnd tenths result → MatchOption result (1048576 < magnitude) (λ t. (t < 10 ^ 8) × (magnitude ≡ (t + 5) / 10))
told magnitude tenths r None h = rw r.is (over r.exact tenths r.like h)
told magnitude tenths r (Some t) h =
    let e = same r.exact tenths r.like h.1 in
    (omega (arith, h.0, h.1), r.is ∙ ap (λ (n : ℕ). (n + 5) / 10) (e ∙ sym h.0))

-- ---- what is read of a number
one_in : (unit : Length) → 1 ≤ tenths_in unit
one_in Millimetre = omega arith
one_in Inch = omega arith

most_in : (unit : Length) → tenths_in unit ≤ 254
most_in Millimetre = omega arith
most_in Inch = omega arith

exact_magnitude : (bytes : List ℕ) (n : Number bytes) (decimals : ℕ) (unit : Length) (negative : Bool) (size : ℕ) → n.exponent ≡ signed negative size → magnitude_of decimals unit n ≡ (tenths_of (tenths_in unit) (n.whole ++ n.fraction) (count_of (length n.whole) decimals negative size) (lead_of (length n.whole) decimals negative size) + 5) / 10
exact_magnitude bytes n decimals unit negative size e =
    ap (λ (x : ℤ). rounded (tenths_in unit * value_of (n.whole ++ n.fraction)) (x +ℤ pos decimals -ℤ pos (length n.fraction) -ℤ pos 1)) e
    ∙ rounded_tenths (tenths_in unit) (n.whole ++ n.fraction) negative size (length n.whole) decimals (length n.fraction) (length-append n.whole n.fraction)

read_number : (bytes : List ℕ) (n : Number bytes) (decimals : ℕ) (unit : Length) (held : Exponent) → length bytes ≤ 16777216 → decimals ≤ 6 → IsHeldExponent n.exponent held → IsRead (magnitude_of decimals unit n) (tenths_of (tenths_in unit) (n.whole ++ n.fraction) (count_of (length n.whole) decimals held.negative held.size) (lead_of (length n.whole) decimals held.negative held.size))
read_number bytes n decimals unit held short few h =
    let long = parts_long bytes n in
    record {
      exact = tenths_of (tenths_in unit) (n.whole ++ n.fraction) (count_of (length n.whole) decimals held.negative h.size) (lead_of (length n.whole) decimals held.negative h.size);
      is = exact_magnitude bytes n decimals unit held.negative h.size h.is;
      like = held_tenths (tenths_in unit) (n.whole ++ n.fraction) (digits-append n.whole n.fraction n.whole_digits n.fraction_digits) (one_in unit) (most_in unit) (length n.whole) decimals (length n.fraction) (length-append n.whole n.fraction) (omega (arith, long.0)) (omega (arith, long.1)) few held.negative h.size held.size h.is_held;
    }

-- what each step gave: the text behind the sign, the digits, what stands behind them, and the exponent
pub record Reads (bytes : List ℕ) (decimals : ℕ) (whole fraction : List ℕ) (count lead : ℕ) : Type 0 where
  pub behind : List ℕ
  pub back : List ℕ
  pub tail : List ℕ
  pub held : Exponent
  pub is_behind : behind ≡ behind_sign bytes
  pub parts : behind ≡ whole ++ back
  pub digits : AreDigits whole
  pub end : IsDigitEnd back
  pub is_fraction : (f t : List ℕ) → HasFraction back f t → (fraction ≡ f) × (tail ≡ t)
  pub is_held : (e : ℤ) → IsExponent tail e → IsHeldExponent e held
  pub is_count : count ≡ count_of (length whole) decimals held.negative held.size
  pub is_lead : lead ≡ lead_of (length whole) decimals held.negative held.size

pub reads_units : (bytes : List ℕ) (decimals : ℕ) (unit : Length) (whole fraction : List ℕ) (count lead factor : ℕ) → length bytes ≤ 16777216 → decimals ≤ 6 → factor ≡ tenths_in unit → Reads bytes decimals whole fraction count lead → (result : Option ℕ) → IsBelowEnd (tenths_of factor (whole ++ fraction) count lead) result → (n : Number bytes) → MatchOption result (1048576 < magnitude_of decimals unit n) (λ t. (t < 10 ^ 8) × (magnitude_of decimals unit n ≡ (t + 5) / 10))
reads_units bytes decimals unit whole fraction count lead factor short few g r result h n =
    let w = whole_parts bytes r.behind whole r.back r.is_behind r.parts r.digits r.end n in
    let f = r.is_fraction n.fraction n.tail (has_fraction bytes r.back n w.1) in
    let x : IsExponent r.tail n.exponent = rw f.1 n.is_exponent in
    let k : count ≡ count_of (length n.whole) decimals r.held.negative r.held.size = r.is_count ∙ ap (λ (l : List ℕ). count_of (length l) decimals r.held.negative r.held.size) w.0 in
    let m : lead ≡ lead_of (length n.whole) decimals r.held.negative r.held.size = r.is_lead ∙ ap (λ (l : List ℕ). lead_of (length l) decimals r.held.negative r.held.size) w.0 in
    told (magnitude_of decimals unit n) (tenths_of (tenths_in unit) (n.whole ++ n.fraction) (count_of (length n.whole) decimals r.held.negative r.held.size) (lead_of (length n.whole) decimals r.held.negative r.held.size)) (read_number bytes n decimals unit r.held short few (r.is_held n.exponent x)) result
    (subst (λ (t : ℕ). IsBelowEnd t result) (λ i. tenths_of (g i) (w.0 i ++ f.0 i) (k i) (m i)) h)
