-- The tenths of a unit in a number round to its units.
use Rattle.std.proofs.Common.{◌≡◌, ◌⊎◌, ℕ, ◌+◌, ◌-◌, ◌*◌, ◌/◌, ◌%◌, ◌^◌, ◌<◌, ◌≤◌, min, Bool, true, false, ℤ, pos, negsuc, neg_ℤ, ◌+ℤ◌, ◌-ℤ◌, List, ◌++◌, length, fold, take, drop, refl, sym, ◌∙◌, ap, arith, lit<, inl, inr}
use Rattle.std.proofs.Math.Nat.{mul-one, mul-zero, mul_assoc, zero-div, mul-le-mul, mul-le-mul_right, mul-le-mul_left, mul-add-div_right, one-le-pow, pow-le-pow_right}
use Rattle.std.proofs.Math.ListN.{drop_of_length-le}
use Rattle.std.proofs.lemmas.Nat.{div-add-mod', div-mul-add, mod_below}
use Rattle.std.proofs.lemmas.Grind.{pow_more}
use Rattle.std.proofs.lemmas.Int.{ints}
use Rattle.std.proofs.lemmas.Bool.{cases_lt}
use Rattle.std.proofs.lemmas.List.{length-append, length-drop, take-append-drop, take_all, take_min}
use Rattle.std.proofs.lemmas.List.Sums.{fold-append}
use Rattle.dec_text.specs.Numbers.{AreDigits, value_of, signed, rounded}
use Rattle.dec_text.specs.inner.Reading.{IsHeld, count_of, lead_of, front_of, rest_of, tenths_of}
use Rattle.dec_text.proofs.Digits.{more, fold-le, take_both, value-append}
use Rattle.dec_text.proofs.Rests.{times_sum, rest_small}

-- ---- the front of two parts
minus_twice : (n a b : ℕ) → n - (a + b) ≡ n - a - b
minus_twice n a b = omega arith

front-append : (ws fs : List ℕ) (count : ℕ) → front_of (ws ++ fs) count ≡ fold more (value_of (take count ws)) (take (count - length ws) fs) * 10 ^ (count - length ws - length fs)
front-append ws fs count =
    rw (take_both ws fs count, length-append ws fs, minus_twice count (length ws) (length fs), fold-append more 0 (take count ws) (take (count - length ws) fs)) refl

times_power : (n k : ℕ) → n ≤ n * 10 ^ k
times_power n k = omega (arith, mul-le-mul_left n (one-le-pow k 10 (lit< tt)))

second_front : (ws fs : List ℕ) (count : ℕ) → fold more (value_of (take count ws)) (take (count - length ws) fs) ≤ front_of (ws ++ fs) count
second_front ws fs count = rw (front-append ws fs count) (times_power _ (count - length ws - length fs))

first_front : (ws fs : List ℕ) (count : ℕ) → value_of (take count ws) ≤ front_of (ws ++ fs) count
first_front ws fs count = omega (arith, fold-le (take (count - length ws) fs) (value_of (take count ws)), second_front ws fs count)

-- ---- the front as the two parts are read
pub first_over : (ws fs : List ℕ) (count n : ℕ) → n ≡ min count (length ws) → 10 ^ 8 ≤ value_of (take n ws) → 10 ^ 8 ≤ front_of (ws ++ fs) count
first_over ws fs count n e h =
    let k : 10 ^ 8 ≤ value_of (take count ws) = rw (e, take_min count ws) at h in
    omega (arith, k, first_front ws fs count)

second_value : (ws fs : List ℕ) (count n value rest k : ℕ) → n ≡ min count (length ws) → value ≡ value_of (take n ws) → rest ≡ count - length ws → k ≡ min rest (length fs) → fold more value (take k fs) ≡ fold more (value_of (take count ws)) (take (count - length ws) fs)
second_value ws fs count n value rest k p q r s = rw (s, take_min rest fs, q, p, take_min count ws, r) refl

pub second_over : (ws fs : List ℕ) (count n value rest k : ℕ) → n ≡ min count (length ws) → value ≡ value_of (take n ws) → rest ≡ count - length ws → k ≡ min rest (length fs) → 10 ^ 8 ≤ fold more value (take k fs) → 10 ^ 8 ≤ front_of (ws ++ fs) count
second_over ws fs count n value rest k p q r s h = omega (arith, h, second_value ws fs count n value rest k p q r s, second_front ws fs count)

pub both_parts : (ws fs : List ℕ) (count n value rest k zeros : ℕ) → n ≡ min count (length ws) → value ≡ value_of (take n ws) → rest ≡ count - length ws → k ≡ min rest (length fs) → zeros ≡ rest - length fs → fold more value (take k fs) * 10 ^ zeros ≡ front_of (ws ++ fs) count
both_parts ws fs count n value rest k zeros p q r s z = rw (second_value ws fs count n value rest k p q r s, z, r) (sym (front-append ws fs count))

plus_nothing : (n : ℕ) → n ≡ n + 0
plus_nothing n = omega arith

gone : (factor p : ℕ) → factor * (0 * p) + 0 ≡ 0
gone factor p = omega (arith, mul-zero factor)

nothing_plus : (n : ℕ) → 0 + n ≡ n
nothing_plus n = omega arith

-- ---- places behind the digits
ten_times : (m p : ℕ) → m * p ≡ (m * (p * 10) + 5) / 10
ten_times m p = omega arith

no_rest : (factor : ℕ) (digits : List ℕ) (count lead : ℕ) → length digits ≤ count → rest_of factor digits count lead ≡ 0
no_rest factor digits count lead all =
    rw (drop_of_length-le digits all, mul-zero) (zero-div (10 ^ (length digits - count + lead)))

rounded_above : (factor : ℕ) (digits : List ℕ) (count lead k : ℕ) → count ≡ length digits + k + 1 → rounded (factor * value_of digits) (pos k) ≡ (tenths_of factor digits count lead + 5) / 10
rounded_above factor digits count lead k e =
    let all : length digits ≤ count = omega arith in
    let zeros : count - length digits ≡ k + 1 = omega arith in
    rw (no_rest factor digits count lead all, take_all count digits all, zeros, pow_more 10 k, ← mul_assoc factor (value_of digits) (10 ^ k * 10))
    (ten_times (factor * value_of digits) (10 ^ k) ∙ ap (λ (n : ℕ). (n + 5) / 10) (plus_nothing _))

-- ---- places before the last digit
-- m = q u + r and q + 5 = 10 s + t
split_halves : (m u q r s t : ℕ) → q * u + r ≡ m → s * 10 + t ≡ q + 5 → 2 * m + u * 10 ≡ s * (2 * (u * 10)) + (2 * (t * u) + 2 * r)
split_halves m u q r s t e f = omega (arith, ap (λ (n : ℕ). n * u) f)

rest_below : (u r t : ℕ) → r < u → t * u ≤ 9 * u → 2 * (t * u) + 2 * r < 2 * (u * 10)
rest_below u r t h k = omega arith

halves : (m u : ℕ) → 0 < u → (2 * m + u * 10) / (2 * (u * 10)) ≡ (m / u + 5) / 10
halves m u h =
    let s = (m / u + 5) / 10 in
    let t = (m / u + 5) % 10 in
    let nine : t ≤ 9 = omega arith in
    rw (split_halves m u (m / u) (m % u) s t (div-add-mod' m u) (div-add-mod' (m / u + 5) 10))
    (div-mul-add s (2 * (u * 10)) (2 * (t * u) + 2 * (m % u)) (rest_below u (m % u) t (mod_below m u h) (mul-le-mul_right u nine)))

-- the first j digits
split_value : (digits : List ℕ) (j : ℕ) → value_of digits ≡ value_of (take j digits) * 10 ^ (length digits - j) + value_of (drop j digits)
split_value digits j = ap value_of (sym (take-append-drop j digits)) ∙ value-append (take j digits) (drop j digits) ∙ ap (λ (n : ℕ). value_of (take j digits) * 10 ^ n + value_of (drop j digits)) (length-drop j digits)

-- the digits that are cut off are k
cut_within : (factor : ℕ) (digits : List ℕ) (count k : ℕ) → length digits - count ≡ k → factor * value_of digits / 10 ^ k ≡ factor * value_of (take count digits) + factor * value_of (drop count digits) / 10 ^ k
cut_within factor digits count k e =
    rw (split_value digits count, e, times_sum factor (value_of (take count digits)) (10 ^ k) (value_of (drop count digits)))
    (mul-add-div_right (one-le-pow k 10 (lit< tt)) (factor * value_of (take count digits)) (factor * value_of (drop count digits)))

cut_tenths : (factor : ℕ) (digits : List ℕ) (count lead k : ℕ) → count ≡ length digits - k → lead ≡ k - length digits → tenths_of factor digits count lead ≡ factor * value_of digits / 10 ^ k
cut_tenths factor digits count lead k e l =
    let no_zeros : count - length digits ≡ 0 = omega arith in
    let cut : length digits - count + lead ≡ k = omega arith in
    rw (no_zeros, mul-one, cut) (elim (cases_lt (length digits) k) [
      | inl lt ↦ (let none : count ≡ 0 = omega arith in rw (none, mul-zero) (nothing_plus _))
      | inr le ↦ sym (cut_within factor digits count k (omega arith))
    ])

rounded_below : (factor : ℕ) (digits : List ℕ) (count lead k : ℕ) → count ≡ length digits - k → lead ≡ k - length digits → rounded (factor * value_of digits) (negsuc k) ≡ (tenths_of factor digits count lead + 5) / 10
rounded_below factor digits count lead k e l =
    rw (cut_tenths factor digits count lead k e l, pow_more 10 k) (halves (factor * value_of digits) (10 ^ k) (one-le-pow k 10 (lit< tt)))

-- ---- an exponent tells the place
-- the last digit stands k + 1 places over the units, or k places below
record IsAbove (place : ℤ) (count len : ℕ) : Type 0 where
  k : ℕ
  is : place ≡ pos k
  reaches : count ≡ len + k + 1

record IsBelow (place : ℤ) (count lead len : ℕ) : Type 0 where
  k : ℕ
  is : place ≡ negsuc k
  reaches : count ≡ len - k
  leads : lead ≡ k - len

above : (place : ℤ) (count len k : ℕ) → place ≡ pos k → count ≡ len + k + 1 → IsAbove place count len
above place count len k p q = record { k = k; is = p; reaches = q }

below : (place : ℤ) (count lead len k : ℕ) → place ≡ negsuc k → count ≡ len - k → lead ≡ k - len → IsBelow place count lead len
below place count lead len k p q r = record { k = k; is = p; reaches = q; leads = r }

plus_above : (e d f : ℕ) → f < e + d → pos e +ℤ pos d -ℤ pos f -ℤ pos 1 ≡ pos (e + d - f - 1)
plus_above e d f h = omega (arith, ints)

plus_below : (e d f : ℕ) → e + d ≤ f → pos e +ℤ pos d -ℤ pos f -ℤ pos 1 ≡ negsuc (f - e - d)
plus_below e d f h = omega (arith, ints)

minus_above : (e d f : ℕ) → e + f < d → neg_ℤ (pos e) +ℤ pos d -ℤ pos f -ℤ pos 1 ≡ pos (d - e - f - 1)
minus_above e d f h = omega (arith, ints)

minus_below : (e d f : ℕ) → d ≤ e + f → neg_ℤ (pos e) +ℤ pos d -ℤ pos f -ℤ pos 1 ≡ negsuc (e + f - d)
minus_below e d f h = omega (arith, ints)

placed : (negative : Bool) (e w d f : ℕ)
    → IsAbove (signed negative e +ℤ pos d -ℤ pos f -ℤ pos 1) (count_of w d negative e) (w + f)
    ⊎ IsBelow (signed negative e +ℤ pos d -ℤ pos f -ℤ pos 1) (count_of w d negative e) (lead_of w d negative e) (w + f)
placed false e w d f = elim (cases_lt f (e + d)) [
  | inl lt ↦ inl (above _ _ _ (e + d - f - 1) (plus_above e d f lt) (omega arith))
  | inr le ↦ inr (below _ _ _ _ (f - e - d) (plus_below e d f le) (omega arith) (omega arith))
]
placed true e w d f = elim (cases_lt (e + f) d) [
  | inl lt ↦ inl (above _ _ _ (d - e - f - 1) (minus_above e d f lt) (omega arith))
  | inr le ↦ inr (below _ _ _ _ (e + f - d) (minus_below e d f le) (omega arith) (omega arith))
]

-- the units of a number are its tenths, rounded
pub rounded_tenths : (factor : ℕ) (digits : List ℕ) (negative : Bool) (e w d f : ℕ) → length digits ≡ w + f → rounded (factor * value_of digits) (signed negative e +ℤ pos d -ℤ pos f -ℤ pos 1) ≡ (tenths_of factor digits (count_of w d negative e) (lead_of w d negative e) + 5) / 10
rounded_tenths factor digits negative e w d f len = elim (placed negative e w d f) [
  | inl a ↦ ap (rounded (factor * value_of digits)) a.is ∙ rounded_above factor digits (count_of w d negative e) (lead_of w d negative e) a.k (rw (← len) at a.reaches)
  | inr b ↦ ap (rounded (factor * value_of digits)) b.is ∙ rounded_below factor digits (count_of w d negative e) (lead_of w d negative e) b.k (rw (← len) at b.reaches) (rw (← len) at b.leads)
]

-- ---- a held exponent tells as much
abbrev pub AreLike : ℕ → ℕ → Type 0
AreLike m n = (m ≡ n) ⊎ ((10 ^ 8 ≤ m) × (10 ^ 8 ≤ n))

-- a front that is over the end puts the tenths over it
pub front_over : (factor : ℕ) (digits : List ℕ) (count lead : ℕ) → 1 ≤ factor → 10 ^ 8 ≤ front_of digits count → 10 ^ 8 ≤ tenths_of factor digits count lead
front_over factor digits count lead some over =
    let times : 1 * front_of digits count ≤ factor * front_of digits count = mul-le-mul_right (front_of digits count) some in
    omega (arith, times, over)

ends_over : (digits : List ℕ) (count : ℕ) → length digits + 8 ≤ count → 1 ≤ value_of digits → 10 ^ 8 ≤ front_of digits count
ends_over digits count h some =
    let all : length digits ≤ count = omega arith in
    let zeros : 10 ^ 8 ≤ 10 ^ (count - length digits) = pow-le-pow_right {n = 10} (lit< tt) {i = 8} {j = count - length digits} (omega arith) in
    rw (take_all count digits all) (omega (arith, mul-le-mul some zeros))

is_zero : (factor : ℕ) (digits : List ℕ) (count lead : ℕ) → length digits ≤ count → value_of digits ≡ 0 → tenths_of factor digits count lead ≡ 0
is_zero factor digits count lead all none = rw (no_rest factor digits count lead all, take_all count digits all, none) (gone factor (10 ^ (count - length digits)))

both_over : (factor : ℕ) (digits : List ℕ) (a b l m : ℕ) → 1 ≤ factor → length digits + 8 ≤ a → length digits + 8 ≤ b → AreLike (tenths_of factor digits a l) (tenths_of factor digits b m)
both_over factor digits a b l m one p q = elim (cases_lt 0 (value_of digits)) [
  | inl some ↦ inr (front_over factor digits a l one (ends_over digits a p some), front_over factor digits b m one (ends_over digits b q some))
  | inr none ↦ inl (is_zero factor digits a l (omega arith) (omega arith) ∙ sym (is_zero factor digits b m (omega arith) (omega arith)))
]

module _ (factor : ℕ) (digits : List ℕ) (are : AreDigits digits) (one : 1 ≤ factor) (small : factor ≤ 254) (w d f : ℕ) (len : length digits ≡ w + f)
    (p : w ≤ 16777216) (q : f ≤ 16777216) (r : d ≤ 6) where
  held_over : (negative : Bool) (e held : ℕ) → 2 ^ 26 ≤ e → 2 ^ 26 ≤ held
      → AreLike (tenths_of factor digits (count_of w d negative e) (lead_of w d negative e)) (tenths_of factor digits (count_of w d negative held) (lead_of w d negative held))
  held_over false e held x y = both_over factor digits _ _ _ _ one (omega arith) (omega arith)
  held_over true e held x y =
      let same : w + d - e ≡ w + d - held = omega arith in
      inl (ap (λ (n : ℕ). factor * front_of digits n + rest_of factor digits n (e - (w + d))) same
      ∙ ap (λ (n : ℕ). factor * front_of digits (w + d - held) + n)
      (rest_small factor digits (w + d - held) (e - (w + d)) are small (omega arith) ∙ sym (rest_small factor digits (w + d - held) (held - (w + d)) are small (omega arith))))

  pub held_tenths : (negative : Bool) (e held : ℕ) → IsHeld e held
      → AreLike (tenths_of factor digits (count_of w d negative e) (lead_of w d negative e)) (tenths_of factor digits (count_of w d negative held) (lead_of w d negative held))
  held_tenths negative e held (inl same) = inl (ap (λ (n : ℕ). tenths_of factor digits (count_of w d negative n) (lead_of w d negative n)) (sym same))
  held_tenths negative e held (inr k) = held_over negative e held k.0 k.1
