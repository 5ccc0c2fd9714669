-- Decimal numerals: their bytes, what they stand for, and how long they are.
use Rattle.std.proofs.Common.{◌≡◌, ℕ, zero, suc, ◌+◌, ◌*◌, ◌-◌, ◌/◌, ◌%◌, ◌^◌, ◌<◌, ◌≤◌, true, false, min, List, [], ◌∷◌, ◌++◌, length, Some, refl, sym, ap, ◌∙◌, arith, append_assoc, append-nil, pow-suc, length-append, ne_eqb, lt-ltb, le-leb, lit<}
use Rattle.std.specs.Prelude.{nat_lt, nat_le, codes}
use Rattle.std.specs.List.{list_all}
use Rattle.std.specs.Char.{is_ascii_digit}
use Rattle.std.specs.Fmt.{decimal}
use Rattle.std.proofs.lemmas.Bool.{and_parts, and_from}
use Rattle.std.proofs.lemmas.Fmt.{decimal_by_steps}
use Rattle.std.proofs.Math.Nat.{div-div-eq-div-mul}
use Rattle.dec_text.specs.Numbers.{AreDigits, value_of}
use Rattle.dec_text.proofs.Digits.{digit_size, digits-append, value-append}
use Rattle.part_text.specs.Words.{is_word}
use Rattle.off_reader.specs.Counts.{count_of}
use Rattle.off_writer.specs.OffTexts.{last_digits}
use Rattle.off_writer.proofs.Words.{IsPlain}

-- ---- digits
digit_byte : (n : ℕ) → n < 10 → AreDigits ((48 + n) ∷ [])
digit_byte n h = and_from (is_ascii_digit (48 + n)) true (and_from (nat_le 48 (48 + n)) (nat_le (48 + n) 57) (le-leb 48 (48 + n) (omega arith)) (le-leb (48 + n) 57 (omega (arith, h)))) refl

digit_value : (n : ℕ) → value_of ((48 + n) ∷ []) ≡ n
digit_value n = let e : 10 * 0 + (48 + n - 48) ≡ n = omega arith in e

ten_parts : (n : ℕ) → n / 10 * 10 ^ 1 + n % 10 ≡ n
ten_parts n = omega arith

-- one digit more
value_more : (n : ℕ) (text : List ℕ) → value_of text ≡ n / 10 → value_of (text ++ ((48 + n % 10) ∷ [])) ≡ n
value_more n text e = value-append text ((48 + n % 10) ∷ []) ∙ rw (e, digit_value (n % 10)) (ten_parts n)

digits_more : (n : ℕ) (text : List ℕ) → AreDigits text → AreDigits (text ++ ((48 + n % 10) ∷ []))
digits_more n text h = digits-append text ((48 + n % 10) ∷ []) h (digit_byte (n % 10) (omega arith))

-- ---- the text of a number
pub record IsNumeral (n : ℕ) (text : List ℕ) : Type 0 where
  pub some : 0 < length text
  pub digits : AreDigits text
  pub value : value_of text ≡ n

pub numeral : (n : ℕ) → n < 2 ^ 64 → IsNumeral n (decimal n)
numeral n small = decimal_by_steps IsNumeral one more n small
  where
    one : (m : ℕ) → m < 10 → IsNumeral m ((48 + m) ∷ [])
    one m h = record { some = lit< tt; digits = digit_byte m h; value = digit_value m }

    more : (m : ℕ) (text : List ℕ) → 10 ≤ m → IsNumeral (m / 10) text → IsNumeral m (text ++ ((48 + m % 10) ∷ []))
    more m text h k = record {
      some = omega (arith, length-append text ((48 + m % 10) ∷ []));
      digits = digits_more m text k.digits;
      value = value_more m text k.value;
    }

-- ---- the last digits of a number
pub length-last_digits : (count n : ℕ) → length (last_digits count n) ≡ count
length-last_digits zero n = refl
length-last_digits (suc count) n =
    length-append (last_digits count (n / 10)) ((48 + n % 10) ∷ []) ∙ (let e = length-last_digits count (n / 10) in omega (arith, e))

pub are_last_digits : (count n : ℕ) → AreDigits (last_digits count n)
are_last_digits zero n = refl
are_last_digits (suc count) n = digits_more n (last_digits count (n / 10)) (are_last_digits count (n / 10))

-- behind those in front of them they make the number
front_same : (count n : ℕ) → n / 10 ^ suc count ≡ n / 10 / 10 ^ count
front_same count n =
    let e : 10 ^ suc count ≡ 10 * 10 ^ count = pow-suc 10 count ∙ omega arith in
    ap (λ (p : ℕ). n / p) e ∙ sym (div-div-eq-div-mul n 10 (10 ^ count))

pub value_parted : (count n : ℕ) → n < 2 ^ 64 → value_of (decimal (n / 10 ^ count) ++ last_digits count n) ≡ n
value_parted zero n small =
    let one : n / 10 ^ 0 ≡ n = omega arith in
    rw (append-nil (decimal (n / 10 ^ 0)), one) (numeral n small).value
value_parted (suc count) n small =
    let less : n / 10 < 2 ^ 64 = omega (arith, small) in
    let front = decimal (n / 10 / 10 ^ count) in
    rw (front_same count n) (ap value_of (sym (append_assoc front (last_digits count (n / 10)) ((48 + n % 10) ∷ [])))
    ∙ value_more n (front ++ last_digits count (n / 10)) (value_parted count (n / 10) less))

-- ---- as words
pub digits_above : (text : List ℕ) → AreDigits text → list_all (nat_lt 35) text ≡ true
digits_above [] h = refl
digits_above (byte ∷ text) h =
    let both = and_parts (is_ascii_digit byte) (list_all is_ascii_digit text) h in
    let least = (digit_size byte both.0).0 in
    and_from (nat_lt 35 byte) (list_all (nat_lt 35) text) (lt-ltb 35 byte (omega (arith, least))) (digits_above text both.1)

pub plain_digits : (text : List ℕ) → 0 < length text → AreDigits text → IsPlain text
plain_digits text some h = record { some = some; above = digits_above text h }

pub plain_decimal : (n : ℕ) → n < 2 ^ 64 → IsPlain (decimal n)
plain_decimal n small = let k = numeral n small in plain_digits (decimal n) k.some k.digits

-- ---- as counts
min_small : (n : ℕ) → n < 2 ^ 32 → min n (2 ^ 64 - 1) ≡ n
min_small n h = omega (arith, h)

pub count_read : (n : ℕ) (text : List ℕ) → n < 2 ^ 32 → IsNumeral n text → count_of text ≡ Some n
count_read n [] small k = absurd (let h = k.some in omega (arith, h))
count_read n (byte ∷ text) small k = rw (k.digits, k.value) (ap (λ (m : ℕ). Some m) (min_small n small))

pub decimal_read : (n : ℕ) → n < 2 ^ 32 → count_of (decimal n) ≡ Some n
decimal_read n small = count_read n (decimal n) small (numeral n (omega (arith, small)))

-- a numeral is no word that begins with a letter
not_letter : (byte : ℕ) (text : List ℕ) → byte ≤ 57 → is_word (codes "BINARY") (byte ∷ text) ≡ false
not_letter byte text h = rw (lt-ltb byte 65 (omega (arith, h)), ne_eqb byte 98 (λ e. omega (arith, e, h))) refl

pub not_binary : (n : ℕ) (text : List ℕ) → IsNumeral n text → is_word (codes "BINARY") text ≡ false
not_binary n [] k = refl
not_binary n (byte ∷ text) k =
    let both = and_parts (is_ascii_digit byte) (list_all is_ascii_digit text) k.digits in
    not_letter byte text (digit_size byte both.0).1

-- ---- as they are written
last_digit : (count n : ℕ) → (count ≡ 0 → ⊥) → last_digits count n ≡ last_digits (count - 1) (n / 10) ++ ((48 + n % 10) ∷ [])
last_digit zero n some = absurd (some refl)
last_digit (suc count) n some = let e : suc count - 1 ≡ count = omega arith in rw e refl

-- one digit more is written
pub digit_pushed : (count n : ℕ) (start before after : List ℕ) → (count ≡ 0 → ⊥) → before ≡ start ++ last_digits (count - 1) (n / 10) → after ≡ before ++ ((48 + n % 10) ∷ [])
    → after ≡ start ++ last_digits count n
digit_pushed count n start before after some e f =
    let digit = (48 + n % 10) ∷ [] in
    f ∙ ap (λ (text : List ℕ). text ++ digit) e ∙ append_assoc start (last_digits (count - 1) (n / 10)) digit ∙ ap (λ (text : List ℕ). start ++ text) (sym (last_digit count n some))
