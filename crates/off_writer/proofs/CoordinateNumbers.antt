-- A written coordinate as a number: how many units it is, its bytes and its length.
use Rattle.std.proofs.Common.{◌≡◌, ℕ, zero, suc, ◌+◌, ◌*◌, ◌/◌, ◌^◌, ◌<◌, ◌≤◌, inl, inr, Bool, true, false, ℤ, pos, negsuc, ◌+ℤ◌, ◌-ℤ◌, unsigned_abs, List, [], ◌++◌, length, refl, sym, ap, ◌∙◌, arith, append_assoc, append-nil, length-append, Ok}
use Rattle.std.specs.Prelude.{nat_lt, codes}
use Rattle.std.specs.List.{list_all}
use Rattle.std.specs.Fmt.{decimal}
use Rattle.std.proofs.lemmas.Int.{ints}
use Rattle.std.proofs.lemmas.Bool.{and_from}
use Rattle.std.proofs.Math.Nat.{div-le_self}
use Rattle.std.proofs.lemmas.Fmt.{length-decimal-le}
use Rattle.std.proofs.lemmas.List.Folds.{list_all-append}
use Rattle.dec_text.specs.Numbers.{IsSign, signed, IsFraction, Number, rounded, value_of, magnitude_of}
use Rattle.dec_text.specs.declared.number.Length.TheVariants.{Millimetre}
use Rattle.lex_lines.specs.declared.token.Token.{Token}
use Rattle.part_text.specs.Words.{Units}
use Rattle.off_writer.specs.OffTexts.{last_digits, fraction_text, size_text, sign_text, coordinate_text}
use Rattle.off_writer.proofs.Words.{IsPlain}
use Rattle.off_writer.proofs.Numerals.{numeral, length-last_digits, are_last_digits, value_parted, digits_above}

-- ---- as a number
is_fraction : (decimals n : ℕ) → IsFraction (fraction_text decimals n) (last_digits decimals n)
is_fraction zero n = inl (refl, refl)
is_fraction (suc decimals) n = inr refl

whole_small : (decimals n : ℕ) → n ≤ 1048576 → n / 10 ^ decimals < 2 ^ 64
whole_small decimals n h = omega (arith, div-le_self n (10 ^ decimals), h)

joined : (sign whole behind : List ℕ) → sign ++ (whole ++ behind) ≡ sign ++ whole ++ behind ++ []
joined sign whole behind = sym (append-nil (sign ++ whole ++ behind) ∙ append_assoc sign whole behind)

-- a size with a sign in front
abbrev number : (negative : Bool) (sign : List ℕ) (decimals n : ℕ) → IsSign negative sign → n ≤ 1048576 → Number (sign ++ size_text decimals n)
number negative sign decimals n is_sign small = record {
  negative = negative;
  sign = sign;
  whole = decimal (n / 10 ^ decimals);
  behind = fraction_text decimals n;
  fraction = last_digits decimals n;
  tail = [];
  exponent = pos 0;
  is_sign = is_sign;
  whole_digits = (numeral (n / 10 ^ decimals) (whole_small decimals n small)).digits;
  fraction_digits = are_last_digits decimals n;
  is_fraction = is_fraction decimals n;
  some = (let k = (numeral (n / 10 ^ decimals) (whole_small decimals n small)).some in omega (arith, k));
  is_exponent = inl (refl, refl);
  all = joined sign (decimal (n / 10 ^ decimals)) (fraction_text decimals n);
}

tenth_place : (decimals : ℕ) → pos 0 +ℤ pos decimals -ℤ pos decimals -ℤ pos 1 ≡ negsuc 0
tenth_place decimals = omega (arith, ints)

tenths : (n : ℕ) → rounded (10 * n) (negsuc 0) ≡ n
tenths n = omega arith

-- tenths of a millimetre, so many places to the right
in_units : (decimals digits value n : ℕ) → digits ≡ decimals → value ≡ n → rounded (10 * value) (pos 0 +ℤ pos decimals -ℤ pos digits -ℤ pos 1) ≡ n
in_units decimals digits value n e f =
    ap (λ (d : ℕ). rounded (10 * value) (pos 0 +ℤ pos decimals -ℤ pos d -ℤ pos 1)) e ∙ ap (λ (z : ℤ). rounded (10 * value) z) (tenth_place decimals)
    ∙ ap (λ (v : ℕ). rounded (10 * v) (negsuc 0)) f ∙ tenths n

magnitude_is : (negative : Bool) (sign : List ℕ) (decimals n : ℕ) (is_sign : IsSign negative sign) (small : n ≤ 1048576)
    → magnitude_of decimals Millimetre (number negative sign decimals n is_sign small) ≡ n
magnitude_is negative sign decimals n is_sign small =
    in_units decimals (length (last_digits decimals n)) (value_of (decimal (n / 10 ^ decimals) ++ last_digits decimals n)) n (length-last_digits decimals n) (value_parted decimals n (omega (arith, small)))

at_most : (m n : ℕ) → m ≡ n → n ≤ 1048576 → m ≤ 1048576
at_most m n e h = omega (arith, e, h)

-- the units that a coordinate's text is read as
pub units_read : (decimals : ℕ) (z : ℤ) (line : ℕ) (tokens : List Token) → unsigned_abs z ≤ 2 ^ 20
    → Units decimals Millimetre (coordinate_text decimals z) line tokens (Ok (z, tokens))
units_read decimals (pos n) line tokens small =
    let low : n ≤ 1048576 = omega (arith, small) in
    let read : Number (coordinate_text decimals (pos n)) = number false [] decimals n (inl refl) low in
    let e : magnitude_of decimals Millimetre read ≡ n = magnitude_is false [] decimals n (inl refl) low in
    inl (read, at_most _ n e low, ap (λ (m : ℕ). Ok (pos m, tokens)) (sym e))
units_read decimals (negsuc n) line tokens small =
    let low : suc n ≤ 1048576 = omega (arith, small) in
    let read : Number (coordinate_text decimals (negsuc n)) = number true (codes "-") decimals (suc n) refl low in
    let e : magnitude_of decimals Millimetre read ≡ suc n = magnitude_is true (codes "-") decimals (suc n) refl low in
    inl (read, at_most _ (suc n) e low, ap (λ (m : ℕ). Ok (signed true m, tokens)) (sym e))

-- ---- as a word
above-append : (xs ys : List ℕ) → list_all (nat_lt 35) xs ≡ true → list_all (nat_lt 35) ys ≡ true → list_all (nat_lt 35) (xs ++ ys) ≡ true
above-append xs ys h k = list_all-append (nat_lt 35) xs ys ∙ and_from (list_all (nat_lt 35) xs) (list_all (nat_lt 35) ys) h k

above_sign : (z : ℤ) → list_all (nat_lt 35) (sign_text z) ≡ true
above_sign (pos n) = refl
above_sign (negsuc n) = refl

above_fraction : (decimals n : ℕ) → list_all (nat_lt 35) (fraction_text decimals n) ≡ true
above_fraction zero n = refl
above_fraction (suc decimals) n = above-append (codes ".") (last_digits (suc decimals) n) refl (digits_above (last_digits (suc decimals) n) (are_last_digits (suc decimals) n))

behind_more : (xs ys : List ℕ) → 0 < length ys → 0 < length (xs ++ ys)
behind_more xs ys h = omega (arith, length-append xs ys, h)

before_more : (xs ys : List ℕ) → 0 < length xs → 0 < length (xs ++ ys)
before_more xs ys h = omega (arith, length-append xs ys, h)

pub plain_coordinate : (decimals : ℕ) (z : ℤ) → unsigned_abs z ≤ 2 ^ 20 → IsPlain (coordinate_text decimals z)
plain_coordinate decimals z small =
    let n = unsigned_abs z in
    let k = numeral (n / 10 ^ decimals) (whole_small decimals n (omega (arith, small))) in
    let whole = decimal (n / 10 ^ decimals) in
    record {
      some = behind_more (sign_text z) (size_text decimals n) (before_more whole (fraction_text decimals n) k.some);
      above = above-append (sign_text z) (size_text decimals n) (above_sign z) (above-append whole (fraction_text decimals n) (digits_above whole k.digits) (above_fraction decimals n));
    }

-- ---- its length
sign_short : (z : ℤ) → length (sign_text z) ≤ 1
sign_short (pos n) = omega arith
sign_short (negsuc n) = omega arith

fraction_short : (decimals n : ℕ) → length (fraction_text decimals n) ≤ decimals + 1
fraction_short zero n = omega arith
fraction_short (suc decimals) n = let e = length-last_digits (suc decimals) n in omega (arith, e)

whole_short : (decimals n : ℕ) → n ≤ 1048576 → length (decimal (n / 10 ^ decimals)) ≤ 7
whole_short decimals n h =
    let few : n / 10 ^ decimals < 10 ^ 7 = omega (arith, div-le_self n (10 ^ decimals), h) in
    length-decimal-le 7 (n / 10 ^ decimals) (omega arith) few (whole_small decimals n h)

pub coordinate_short : (decimals : ℕ) (z : ℤ) → decimals ≤ 6 → unsigned_abs z ≤ 2 ^ 20 → length (coordinate_text decimals z) ≤ 15
coordinate_short decimals z few small =
    let n = unsigned_abs z in
    let whole = decimal (n / 10 ^ decimals) in
    let behind = fraction_text decimals n in
    let a = sign_short z in
    let b = whole_short decimals n (omega (arith, small)) in
    let c = fraction_short decimals n in
    let e = length-append (sign_text z) (whole ++ behind) in
    let f = length-append whole behind in
    omega (arith, a, b, c, e, f, few)
