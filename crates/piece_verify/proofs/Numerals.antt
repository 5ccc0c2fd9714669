-- Digits that are read one after the other, and the decimal text of a number.
use Rattle.std.proofs.Common.{◌≡◌, ◌≢◌, ◌⊎◌, ℕ, ◌+◌, ◌*◌, ◌-◌, ◌/◌, ◌%◌, ◌^◌, ◌<◌, ◌≤◌, zero, suc, Bool, true, false, cond, ◌&&◌, List, [], ◌∷◌, ◌++◌, Option, Some, None, ℤ, pos, negsuc, unsigned_abs, length, get_or, refl, sym, ◌∙◌, ap, arith, inl, inr, lit<, append_assoc, append-nil}
use Rattle.std.specs.Prelude.{nat_lt, nat_le}
use Rattle.std.proofs.lemmas.Bool.{and_parts, and_from, leb-true, ltb-true, lt-ltb, le-leb}
use Rattle.std.proofs.lemmas.Fmt.{decimal_digit, decimal_step_wide, decimal_by_steps_wide}
use Rattle.std.proofs.lemmas.Option.{none-some}
use Rattle.std.specs.Option.{option_and_then}
use Rattle.std.specs.Char.{is_ascii_digit}
use Rattle.std.specs.Fmt.{decimal, signed_decimal}
use Rattle.piece_verify.specs.Columns.{IsFree, Reads}
use Rattle.piece_verify.specs.inner.Digits.{with_digit, read_on}
use Rattle.piece_verify.proofs.Parts.{free-append}

quotient : (v d : ℕ) → d < 10 → (10 * v + d) / 10 ≡ v
quotient v d h = omega arith

rest : (v d : ℕ) → d < 10 → (10 * v + d) % 10 ≡ d
rest v d h = omega arith

wide : (v d : ℕ) → v < 2 ^ 104 → d < 10 → 10 * v + d < 10 ^ 64
wide v d h k = omega (arith, h, k)

pub below : (n : ℕ) → n < 2 ^ 104 → n < 10 ^ 64
below n h = omega (arith, h)

-- one digit more
decimal_more : (v d : ℕ) → 0 < v → d < 10 → v < 2 ^ 104 → decimal (10 * v + d) ≡ decimal v ++ ((48 + d) ∷ [])
decimal_more v d some small size =
    decimal_step_wide (10 * v + d) (omega arith) (wide v d size small) ∙ rw (quotient v d small, rest v d small) refl

-- ---- one digit
record IsNext (byte value : ℕ) : Type 0 where
  least : 48 ≤ byte
  most : byte ≤ 57
  size : 10 * value + (byte - 48) < 2 ^ 104
  is : with_digit byte value ≡ Some (10 * value + (byte - 48))

taken : (digit small : Bool) (n : ℕ) → (cond (digit && small) (Some n) None ≡ None) ⊎ ((digit ≡ true) × (small ≡ true))
taken true true n = inr (refl, refl)
taken true false n = inl refl
taken false small n = inl refl

next : (byte value : ℕ) → (with_digit byte value ≡ None) ⊎ IsNext byte value
next byte value = elim (taken (is_ascii_digit byte) (nat_lt (10 * value + (byte - 48)) (2 ^ 104)) (10 * value + (byte - 48))) [
  | inl none ↦ inl none
  | inr both ↦ (let digit = and_parts (nat_le 48 byte) (nat_le byte 57) both.0 in
      inr record { least = leb-true 48 byte digit.0; most = leb-true byte 57 digit.1; size = ltb-true (10 * value + (byte - 48)) (2 ^ 104) both.1; is = rw (both.0, both.1) refl })
]

pub next_of : (byte value : ℕ) → 48 ≤ byte → byte ≤ 57 → 10 * value + (byte - 48) < 2 ^ 104 → with_digit byte value ≡ Some (10 * value + (byte - 48))
next_of byte value least most size =
    let digit : is_ascii_digit byte ≡ true = and_from (nat_le 48 byte) (nat_le byte 57) (le-leb 48 byte least) (le-leb byte 57 most) in
    let small : nat_lt (10 * value + (byte - 48)) (2 ^ 104) ≡ true = lt-ltb (10 * value + (byte - 48)) (2 ^ 104) size in
    rw (digit, small) refl

-- ---- what is read is written so
some_same : (m n : ℕ) → Some m ≡ Some n → m ≡ n
some_same m n e = cc

glyph : (byte : ℕ) → 48 ≤ byte → 48 + (byte - 48) ≡ byte
glyph byte h = omega arith

digit_below : (byte : ℕ) → 48 ≤ byte → byte ≤ 57 → byte - 48 < 10
digit_below byte h k = omega arith

pub record IsWritten (bytes : List ℕ) (n : ℕ) : Type 0 where
  pub size : n < 2 ^ 104
  pub is : bytes ≡ decimal n

read_more : (bytes : List ℕ) (value n : ℕ) → 0 < value → value < 2 ^ 104 → read_on bytes value ≡ Some n → IsWritten (decimal value ++ bytes) n
read_more [] value n some size e = rw (← some_same value n e) record { size = size; is = append-nil (decimal value) }
read_more (byte ∷ bytes) value n some size e = elim (next byte value) [
  | inl none ↦ absurd (none-some n (sym (ap (option_and_then (read_on bytes)) none) ∙ e))
  | inr x ↦ (let more = read_more bytes (10 * value + (byte - 48)) n (omega (arith, some)) x.size (sym (ap (option_and_then (read_on bytes)) x.is) ∙ e) in
      let one = decimal_more value (byte - 48) some (digit_below byte x.least x.most) size in
      let same : decimal (10 * value + (byte - 48)) ≡ decimal value ++ byte ∷ [] = one ∙ ap (λ (b : ℕ). decimal value ++ b ∷ []) (glyph byte x.least) in
      record { size = more.size; is = sym (append_assoc (decimal value) (byte ∷ []) bytes) ∙ ap (λ (t : List ℕ). t ++ bytes) (sym same) ∙ more.is })
]

first_value : (byte : ℕ) → 48 ≤ byte → byte ≢ 48 → 0 < 10 * 0 + (byte - 48)
first_value byte h k = omega (arith, h, k)

pub read_whole : (byte : ℕ) (bytes : List ℕ) (n : ℕ) → byte ≢ 48 → read_on (byte ∷ bytes) 0 ≡ Some n → IsWritten (byte ∷ bytes) n
read_whole byte bytes n solid e = elim (next byte 0) [
  | inl none ↦ absurd (none-some n (sym (ap (option_and_then (read_on bytes)) none) ∙ e))
  | inr x ↦ (let more = read_more bytes (10 * 0 + (byte - 48)) n (first_value byte x.least solid) x.size (sym (ap (option_and_then (read_on bytes)) x.is) ∙ e) in
      let none : 10 * 0 + (byte - 48) ≡ byte - 48 = omega arith in
      let same : decimal (10 * 0 + (byte - 48)) ≡ byte ∷ [] =
      ap decimal none ∙ decimal_digit (byte - 48) (digit_below byte x.least x.most) ∙ ap (λ (b : ℕ). b ∷ []) (glyph byte x.least) in
      record { size = more.size; is = sym (ap (λ (t : List ℕ). t ++ bytes) same) ∙ more.is })
]

-- ---- what is written is read
onward : (xs ys : List ℕ) → ((value : ℕ) → read_on (xs ++ ys) value ≡ option_and_then (read_on ys) (read_on xs value)) → (o : Option ℕ)
    → option_and_then (read_on (xs ++ ys)) o ≡ option_and_then (read_on ys) (option_and_then (read_on xs) o)
onward xs ys each None = refl
onward xs ys each (Some value) = each value

read-append : (xs ys : List ℕ) (value : ℕ) → read_on (xs ++ ys) value ≡ option_and_then (read_on ys) (read_on xs value)
read-append [] ys value = refl
read-append (x ∷ xs) ys value = onward xs ys (read-append xs ys) (with_digit x value)

digit_of : (n : ℕ) → (48 + n) - 48 ≡ n
digit_of n = omega arith

read_digit : (n value : ℕ) → n < 10 → 10 * value + n < 2 ^ 104 → read_on ((48 + n) ∷ []) value ≡ Some (10 * value + n)
read_digit n value h size =
    let e = digit_of n in
    let small : 10 * value + ((48 + n) - 48) < 2 ^ 104 = rw e size in
    let one = next_of (48 + n) value (omega arith) (omega (arith, h)) small in
    rw one (ap (λ (d : ℕ). Some (10 * value + d)) e)

parts : (n : ℕ) → 10 * (n / 10) + n % 10 ≡ n
parts n = omega arith

whole : (n : ℕ) → n < 2 ^ 104 → 10 * (n / 10) + n % 10 < 2 ^ 104
whole n h = omega (arith, h)

tenth : (n : ℕ) → n < 2 ^ 104 → n / 10 < 2 ^ 104
tenth n h = omega (arith, h)

pub read_decimal : (n : ℕ) → n < 2 ^ 104 → read_on (decimal n) 0 ≡ Some n
read_decimal n size = decimal_by_steps_wide (λ m ds. m < 2 ^ 104 → read_on ds 0 ≡ Some m) one more n (below n size) size
  where
    one : (m : ℕ) → m < 10 → m < 2 ^ 104 → read_on ((48 + m) ∷ []) 0 ≡ Some m
    one m small h = let e : 10 * 0 + m ≡ m = omega arith in let k : 10 * 0 + m < 2 ^ 104 = rw e h in read_digit m 0 small k ∙ ap Some e

    more : (m : ℕ) (ds : List ℕ) → 10 ≤ m → (m / 10 < 2 ^ 104 → read_on ds 0 ≡ Some (m / 10)) → m < 2 ^ 104 → read_on (ds ++ ((48 + m % 10) ∷ [])) 0 ≡ Some m
    more m ds least before h =
        read-append ds ((48 + m % 10) ∷ []) 0 ∙ ap (option_and_then (read_on ((48 + m % 10) ∷ []))) (before (tenth m h))
        ∙ read_digit (m % 10) (m / 10) (omega arith) (whole m h) ∙ ap Some (parts m)

-- ---- the first digit
pub record IsLed (n : ℕ) (text : List ℕ) : Type 0 where
  pub first : ℕ
  pub more : List ℕ
  pub is : text ≡ first ∷ more
  pub digit : 48 ≤ first
  pub solid : 0 < n → 48 < first

pub led : (n : ℕ) → n < 2 ^ 104 → IsLed n (decimal n)
led n size = decimal_by_steps_wide IsLed one further n (below n size)
  where
    one : (m : ℕ) → m < 10 → IsLed m ((48 + m) ∷ [])
    one m small = record { first = 48 + m; more = []; is = refl; digit = omega arith; solid = λ some. omega (arith, some) }

    further : (m : ℕ) (ds : List ℕ) → 10 ≤ m → IsLed (m / 10) ds → IsLed m (ds ++ ((48 + m % 10) ∷ []))
    further m ds least x = record {
      first = x.first;
      more = x.more ++ ((48 + m % 10) ∷ []);
      is = ap (λ (t : List ℕ). t ++ ((48 + m % 10) ∷ [])) x.is;
      digit = x.digit;
      solid = λ some. x.solid (omega (arith, least));
    }

-- ---- what a natural number is read as
pub natural_empty : (n : ℕ) → n < 2 ^ 104 → [] ≡ decimal n → ⊥
natural_empty n size e = let x = led n size in let no : [] ≡ x.first ∷ x.more = e ∙ x.is in cc

pub natural_led : (byte : ℕ) (bytes : List ℕ) (n : ℕ) → n < 2 ^ 104 → byte ∷ bytes ≡ decimal n → 48 ≤ byte
natural_led byte bytes n size e = let x = led n size in let all : byte ∷ bytes ≡ x.first ∷ x.more = e ∙ x.is in let same : byte ≡ x.first = cc in rw same x.digit

pub natural_zero : 48 ∷ [] ≡ decimal 0
natural_zero = sym (decimal_digit 0 (lit< tt))

pub natural_padded : (byte : ℕ) (bytes : List ℕ) (n : ℕ) → n < 2 ^ 104 → 48 ∷ byte ∷ bytes ≡ decimal n → ⊥
natural_padded byte bytes zero size e = let all : 48 ∷ byte ∷ bytes ≡ 48 ∷ [] = e ∙ sym natural_zero in cc
natural_padded byte bytes (suc n) size e =
    let x = led (suc n) size in
    let all : 48 ∷ byte ∷ bytes ≡ x.first ∷ x.more = e ∙ x.is in
    let same : 48 ≡ x.first = cc in
    omega (arith, x.solid (omega arith), same)

read_result : (byte : ℕ) (bytes : List ℕ) (o : Option ℕ) → byte ≢ 48 → read_on (byte ∷ bytes) 0 ≡ o → Reads (λ n. n < 2 ^ 104) decimal (byte ∷ bytes) o
read_result byte bytes None solid e = λ n size is. none-some n (sym e ∙ ap (λ (t : List ℕ). read_on t 0) is ∙ read_decimal n size)
read_result byte bytes (Some n) solid e = let x = read_whole byte bytes n solid e in (x.size, x.is)

pub natural_read : (byte : ℕ) (bytes : List ℕ) → byte ≢ 48 → Reads (λ n. n < 2 ^ 104) decimal (byte ∷ bytes) (read_on (byte ∷ bytes) 0)
natural_read byte bytes solid = read_result byte bytes (read_on (byte ∷ bytes) 0) solid refl

-- ---- a number has one text
pub same_natural : (m n : ℕ) → m < 2 ^ 104 → n < 2 ^ 104 → decimal m ≡ decimal n → m ≡ n
same_natural m n h k e = some_same m n (sym (read_decimal m h) ∙ ap (λ (t : List ℕ). read_on t 0) e ∙ read_decimal n k)

-- ---- by the first byte and the length
pub by_empty : (bytes : List ℕ) → length bytes < 1 → (n : ℕ) → n < 2 ^ 104 → bytes ≡ decimal n → ⊥
by_empty [] none n size e = natural_empty n size e
by_empty (b ∷ bs) none n size e = omega arith

pub by_zero : (bytes : List ℕ) → get_or bytes 0 0 ≡ 48 → length bytes ≡ 1 → bytes ≡ decimal 0
by_zero [] first one = absurd (omega arith)
by_zero (b ∷ []) first one = ap (λ (x : ℕ). x ∷ []) first ∙ natural_zero
by_zero (b ∷ c ∷ cs) first one = absurd (omega arith)

pub by_padding : (bytes : List ℕ) → get_or bytes 0 0 ≡ 48 → length bytes ≢ 1 → (n : ℕ) → n < 2 ^ 104 → bytes ≡ decimal n → ⊥
by_padding [] first more n size e = natural_empty n size e
by_padding (b ∷ []) first more n size e = more refl
by_padding (b ∷ c ∷ cs) first more n size e = natural_padded c cs n size (ap (λ (x : ℕ). x ∷ c ∷ cs) (sym first) ∙ e)

pub by_digits : (bytes : List ℕ) → 1 ≤ length bytes → get_or bytes 0 0 ≢ 48 → Reads (λ n. n < 2 ^ 104) decimal bytes (read_on bytes 0)
by_digits [] some solid = absurd (omega arith)
by_digits (b ∷ bs) some solid = natural_read b bs solid

-- ---- signed numbers
-- a text behind `-`
pub negative_none : (size : ℕ) → size ≡ 0 → (z : ℤ) → unsigned_abs z < 2 ^ 104 → 45 ∷ decimal size ≡ signed_decimal z → ⊥
negative_none size none (pos n) small e = let k = natural_led 45 (decimal size) n small e in omega (arith, k)
negative_none size none (negsuc n) small e =
    let same : decimal size ≡ decimal (suc n) = cc in
    let no : 0 ≡ suc n = same_natural 0 (suc n) (lit< tt) small (ap decimal (sym none) ∙ same) in omega (arith, no)

behind : (b : ℕ) (bs ds : List ℕ) → b ∷ bs ≡ 45 ∷ ds → bs ≡ ds
behind b bs ds e = cc

pub minus_none : (bytes digits : List ℕ) → bytes ≡ 45 ∷ digits → ((n : ℕ) → n < 2 ^ 104 → digits ≡ decimal n → ⊥) → (z : ℤ) → unsigned_abs z < 2 ^ 104
    → bytes ≡ signed_decimal z → ⊥
minus_none bytes digits is none (pos n) small e = let k = natural_led 45 digits n small (sym is ∙ e) in omega (arith, k)
minus_none bytes digits is none (negsuc n) small e = none (suc n) small (behind 45 digits (decimal (suc n)) (sym is ∙ e))

first_is : (bytes more : List ℕ) (b : ℕ) → bytes ≡ b ∷ more → get_or bytes 0 0 ≡ b
first_is bytes more b e = rw e refl

pub plain_none : (bytes : List ℕ) → get_or bytes 0 0 ≢ 45 → ((n : ℕ) → n < 2 ^ 104 → bytes ≡ decimal n → ⊥) → (z : ℤ) → unsigned_abs z < 2 ^ 104 → bytes ≡ signed_decimal z → ⊥
plain_none bytes plain none (pos n) small e = none n small e
plain_none bytes plain none (negsuc n) small e = plain (first_is bytes (decimal (suc n)) 45 e)

pub same_whole : (y z : ℤ) → unsigned_abs y < 2 ^ 104 → unsigned_abs z < 2 ^ 104 → signed_decimal y ≡ signed_decimal z → y ≡ z
same_whole (pos m) (pos n) h k e = ap pos (same_natural m n h k e)
same_whole (negsuc m) (negsuc n) h k e =
    let same : suc m ≡ suc n = same_natural (suc m) (suc n) h k (behind 45 (decimal (suc m)) (decimal (suc n)) e) in let one : m ≡ n = omega (arith, same) in ap negsuc one
same_whole (pos m) (negsuc n) h k e = absurd (let least = natural_led 45 (decimal (suc n)) m h (sym e) in omega (arith, least))
same_whole (negsuc m) (pos n) h k e = absurd (let least = natural_led 45 (decimal (suc m)) n k e in omega (arith, least))

-- ---- which bytes are in none
larger : (byte m : ℕ) → byte < 48 → 48 + m ≢ byte
larger byte m h = λ e. omega (arith, h, e)

pub free_natural : (byte n : ℕ) → byte < 48 → n < 2 ^ 104 → IsFree byte (decimal n)
free_natural byte n h size = decimal_by_steps_wide (λ m ds. IsFree byte ds) (λ m small. (larger byte m h, tt)) (λ m ds least x. free-append byte ds ((48 + m % 10) ∷ []) x
    (larger byte (m % 10) h, tt)) n (below n size)

pub free_whole : (byte : ℕ) (z : ℤ) → byte < 48 → 45 ≢ byte → unsigned_abs z < 2 ^ 104 → IsFree byte (signed_decimal z)
free_whole byte (pos n) h k size = free_natural byte n h size
free_whole byte (negsuc n) h k size = (k, free_natural byte (suc n) h size)
