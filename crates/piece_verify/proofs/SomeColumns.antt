-- Each text begins with a column or doesn't: what the readers of columns find is there for any text, with no call.
use Rattle.std.proofs.Common.{◌≡◌, ◌≢◌, ◌⊎◌, inl, inr, ℕ, ◌<◌, ◌≤◌, ◌%◌, ◌^◌, zero, suc, Bool, true, false, List, [], ◌∷◌, ◌++◌, Option, Some, None, ℤ, pos, negsuc, unsigned_abs, refl, sym, ◌∙◌, ap, subst, arith, lit<, true≢false}
use Rattle.std.specs.Bool.{Decides}
use Rattle.std.specs.Cmp.Lexicographic.{bytes_decides}
use Rattle.std.specs.Fmt.{decimal, signed_decimal}
use Rattle.std.specs.Int.{IsGcd}
use Rattle.std.proofs.lemmas.Bool.{cases_eq, cases_lt}
use Rattle.std.proofs.lemmas.Int.{ints}
use Rattle.std.proofs.lemmas.Nat.Gcd.{IsGcd-from_zero, IsGcd-from_mod, same_from_IsGcd}
use Rattle.exact_frac.specs.declared.Frac.{Frac}
use Rattle.sheet_plan.specs.declared.sheet.Mark.{Mark}
use Rattle.sheet_plan.specs.declared.sheet.Mark.TheVariants.{Solid, Dashed, Chain, Hatch}
use Rattle.sheet_plan.specs.LineKinds.{word_of}
use Rattle.plot_rack.specs.Lists.{frac_text}
use Rattle.piece_verify.specs.Columns.{IsFree, Reads, IsColumn, HasNoColumn}
use Rattle.piece_verify.specs.Values.{IsView, IsInRange, IsListedFrac, IsAny}
use Rattle.piece_verify.specs.inner.Digits.{read_on}
use Rattle.piece_verify.specs.inner.Pairs.{Both, both_texts, AreNumbers, numbers_text, ArePlaces, places_text, AreFractions, fractions_text, AreEnds, ends_text}
use Rattle.piece_verify.specs.inner.Ratios.{IsRatio}
use Rattle.piece_verify.proofs.Heads.{no_end, no_value, one_value, free_view, free_mark, free_frac, free_number, view_none, view_unread, number_none, number_unread}
use Rattle.piece_verify.proofs.Joins.{no_first, no_second, both}
use Rattle.piece_verify.proofs.Numerals.{natural_empty, natural_padded, natural_zero, natural_read, negative_none, minus_none, plain_none}
use Rattle.piece_verify.proofs.Ratios.{no_num, no_den, ratio_result, no_whole, whole_listed, whole_fits}

-- ---- what is decided
by_test : {P : Type 0} (b : Bool) → Decides b P → P ⊎ ¬ P
by_test true h = inl (h.0 refl)
by_test false h = inr (λ p. true≢false (sym (h.1 p)))

pub same_bytes : (xs ys : List ℕ) → (xs ≡ ys) ⊎ (xs ≢ ys)
same_bytes xs ys = by_test _ (bytes_decides xs ys)

-- ---- a text is that of a value, or of none
abbrev IsRead : {X : Type 0} → (X → Type 0) → (X → List ℕ) → List ℕ → Type 0
IsRead {X} Holds text_of text = (o : Option X) × Reads Holds text_of text o

-- of a natural number
abbrev Natural : List ℕ → Type 0
Natural = IsRead (λ n. n < 2 ^ 104) decimal

after_zero : (bytes : List ℕ) → Natural (48 ∷ bytes)
after_zero [] = (Some 0, (lit< tt, natural_zero))
after_zero (b ∷ bytes) = (None, natural_padded b bytes)

digits : (b : ℕ) (bytes : List ℕ) → (b ≡ 48) ⊎ (b ≢ 48) → Natural (b ∷ bytes)
digits b bytes (inl zeros) = subst (λ (b : ℕ). Natural (b ∷ bytes)) (sym zeros) (after_zero bytes)
digits b bytes (inr solid) = (read_on (b ∷ bytes) 0, natural_read b bytes solid)

some_natural : (bytes : List ℕ) → Natural bytes
some_natural [] = (None, natural_empty)
some_natural (b ∷ bytes) = digits b bytes (cases_eq b 48)

-- of a whole number
abbrev Whole : List ℕ → Type 0
Whole = IsRead (λ z. unsigned_abs z < 2 ^ 104) signed_decimal

negative : (bytes : List ℕ) → Natural bytes → Whole (45 ∷ bytes)
negative bytes (None, none) = (None, minus_none (45 ∷ bytes) bytes refl none)
negative bytes (Some zero, (size, is)) = (None, λ z small e. negative_none 0 refl z small (ap (λ (t : List ℕ). 45 ∷ t) (sym is) ∙ e))
negative bytes (Some (suc n), (size, is)) = (Some (negsuc n), (size, ap (λ (t : List ℕ). 45 ∷ t) is))

plain : (b : ℕ) (bytes : List ℕ) → b ≢ 45 → Natural (b ∷ bytes) → Whole (b ∷ bytes)
plain b bytes other (None, none) = (None, plain_none (b ∷ bytes) other none)
plain b bytes other (Some n, (size, is)) = (Some (pos n), (size, is))

signed : (b : ℕ) (bytes : List ℕ) → (b ≡ 45) ⊎ (b ≢ 45) → Whole (b ∷ bytes)
signed b bytes (inl minus) = subst (λ (b : ℕ). Whole (b ∷ bytes)) (sym minus) (negative bytes (some_natural bytes))
signed b bytes (inr other) = plain b bytes other (some_natural (b ∷ bytes))

some_whole : (bytes : List ℕ) → Whole bytes
some_whole [] = (None, plain_none [] (λ e. omega (arith, e)) natural_empty)
some_whole (b ∷ bytes) = signed b bytes (cases_eq b 45)

-- of a view's number that isn't below this one
some_view : (least : ℕ) (bytes : List ℕ) → IsRead (IsView least) decimal bytes
some_view least bytes = by (some_natural bytes)
  where
    narrow : (n : ℕ) → n < 2 ^ 104 → bytes ≡ decimal n → (n < least) ⊎ (least ≤ n) → (n < 2 ^ 32) ⊎ (2 ^ 32 ≤ n) → IsRead (IsView least) decimal bytes
    narrow n size is (inl less) within = (None, view_none least n bytes size is None (λ v. omega (arith, less, v.from)))
    narrow n size is (inr from) (inr beyond) = (None, view_none least n bytes size is None (λ v. omega (arith, beyond, v.size)))
    narrow n size is (inr from) (inl within) = (Some n, view_none least n bytes size is (Some n) (refl, record { from = from; size = within }))

    by : Natural bytes → IsRead (IsView least) decimal bytes
    by (None, none) = (None, view_unread least bytes none)
    by (Some n, (size, is)) = narrow n size is (cases_lt n least) (cases_lt n (2 ^ 32))

-- of an `i64`
ranged : (z : ℤ) → IsInRange z ⊎ ¬ IsInRange z
ranged (pos n) = by (cases_lt n (2 ^ 63))
  where
    by : (n < 2 ^ 63) ⊎ (2 ^ 63 ≤ n) → IsInRange (pos n) ⊎ ¬ IsInRange (pos n)
    by (inl within) = inl record { least = omega (arith, ints); most = omega (arith, ints, within) }
    by (inr beyond) = inr (λ h. omega (arith, ints, beyond, h.most))
ranged (negsuc n) = by (cases_lt n (2 ^ 63))
  where
    by : (n < 2 ^ 63) ⊎ (2 ^ 63 ≤ n) → IsInRange (negsuc n) ⊎ ¬ IsInRange (negsuc n)
    by (inl within) = inl record { least = omega (arith, ints, within); most = omega (arith, ints) }
    by (inr beyond) = inr (λ h. omega (arith, ints, beyond, h.least))

some_number : (bytes : List ℕ) → IsRead IsInRange signed_decimal bytes
some_number bytes = by (some_whole bytes)
  where
    narrow : (z : ℤ) → unsigned_abs z < 2 ^ 104 → bytes ≡ signed_decimal z → IsInRange z ⊎ ¬ IsInRange z → IsRead IsInRange signed_decimal bytes
    narrow z size is (inl within) = (Some z, number_none z bytes size is (Some z) (refl, within))
    narrow z size is (inr beyond) = (None, number_none z bytes size is None beyond)

    by : Whole bytes → IsRead IsInRange signed_decimal bytes
    by (None, none) = (None, number_unread bytes none)
    by (Some z, (size, is)) = narrow z size is (ranged z)

-- of a mark
abbrev IsOrNot : List ℕ → Mark → Type 0
IsOrNot bytes m = (bytes ≡ word_of m) ⊎ (bytes ≢ word_of m)

some_mark : (bytes : List ℕ) → IsRead IsAny word_of bytes
some_mark bytes = by (same_bytes bytes (word_of Solid)) (same_bytes bytes (word_of Dashed)) (same_bytes bytes (word_of Chain)) (same_bytes bytes (word_of Hatch))
  where
    none : bytes ≢ word_of Solid → bytes ≢ word_of Dashed → bytes ≢ word_of Chain → bytes ≢ word_of Hatch → (m : Mark) → IsAny m → bytes ≡ word_of m → ⊥
    none a b c d Solid any e = a e
    none a b c d Dashed any e = b e
    none a b c d Chain any e = c e
    none a b c d Hatch any e = d e

    by : IsOrNot bytes Solid → IsOrNot bytes Dashed → IsOrNot bytes Chain → IsOrNot bytes Hatch → IsRead IsAny word_of bytes
    by (inl e) b c d = (Some Solid, (tt, e))
    by (inr x) (inl e) c d = (Some Dashed, (tt, e))
    by (inr x) (inr y) (inl e) d = (Some Chain, (tt, e))
    by (inr x) (inr y) (inr z) (inl e) = (Some Hatch, (tt, e))
    by (inr x) (inr y) (inr z) (inr w) = (None, none x y z w)

-- ---- two numbers have a greatest common divisor
rest_below : (a b : ℕ) → a % suc b < suc b
rest_below a b = omega arith

some_divisor : (steps a b : ℕ) → b < steps → (g : ℕ) × IsGcd a b g
some_divisor zero a b h = absurd (omega (arith, h))
some_divisor (suc steps) a zero h = (a, IsGcd-from_zero a 0 refl)
some_divisor (suc steps) a (suc b) h =
    let less = rest_below a b in
    let (g, is) = some_divisor steps (suc b) (a % suc b) (omega (arith, h, less)) in
    (g, IsGcd-from_mod a (suc b) g is)

abbrev HasRatio : ℤ → ℕ → Type 0
HasRatio z n = IsRatio z n ⊎ ¬ IsRatio z n

sized : (z : ℤ) (n : ℕ) → (1 < n) ⊎ (n ≤ 1) → (n < 2 ^ 70) ⊎ (2 ^ 70 ≤ n) → (g : ℕ) × IsGcd (unsigned_abs z) n g → HasRatio z n
sized z n (inr few) small (g, is) = inr (λ r. omega (arith, few, r.more))
sized z n (inl more) (inr large) (g, is) = inr (λ r. omega (arith, large, r.size))
sized z n (inl more) (inl small) (g, is) = by (cases_eq g 1)
  where
    by : (g ≡ 1) ⊎ (g ≢ 1) → HasRatio z n
    by (inl one) = inl record { more = more; size = small; lowest = record { not_negative = omega (arith, ints); greatest = subst (IsGcd (unsigned_abs z) n) one is } }
    by (inr other) = inr (λ r. other (same_from_IsGcd (unsigned_abs z) n g 1 is r.lowest.greatest))

has_ratio : (z : ℤ) (n : ℕ) → HasRatio z n
has_ratio z n = sized z n (cases_lt 1 n) (cases_lt n (2 ^ 70)) (some_divisor (suc n) (unsigned_abs z) n (omega arith))

-- ---- a text at the first of a byte
pub record IsSplit (byte : ℕ) (text : List ℕ) : Type 0 where
  pub head : List ℕ
  pub rest : List ℕ
  pub free : IsFree byte head
  pub is : text ≡ head ++ byte ∷ rest

split_on : (byte next : ℕ) (text : List ℕ) → (next ≡ byte) ⊎ (next ≢ byte) → IsFree byte text ⊎ IsSplit byte text → IsFree byte (next ∷ text) ⊎ IsSplit byte (next ∷ text)
split_on byte next text (inl here) later = inr record { head = []; rest = text; free = tt; is = ap (λ (b : ℕ). b ∷ text) here }
split_on byte next text (inr other) (inl free) = inl (other, free)
split_on byte next text (inr other) (inr s) = inr record { head = next ∷ s.head; rest = s.rest; free = (other, s.free); is = ap (λ (t : List ℕ). next ∷ t) s.is }

pub some_split : (byte : ℕ) (text : List ℕ) → IsFree byte text ⊎ IsSplit byte text
some_split byte [] = inl tt
some_split byte (next ∷ text) = split_on byte next text (cases_eq next byte) (some_split byte text)

-- ---- of a fraction
abbrev Fraction : List ℕ → Type 0
Fraction = IsRead IsListedFrac frac_text

some_fraction : (bytes : List ℕ) → Fraction bytes
some_fraction bytes = by (some_split 47 bytes)
  where
    whole : IsFree 47 bytes → Whole bytes → Fraction bytes
    whole free (None, none) = (None, no_whole bytes free none)
    whole free (Some z, (size, is)) =
        let f : Frac = record { num = z; den = pos 1; positive = omega (arith, ints); not_least = whole_fits z size } in
        (Some f, (whole_listed f size refl, is))

    ratio : (num den : List ℕ) → IsFree 47 num → Whole num → Natural den → Fraction (num ++ 47 ∷ den)
    ratio num den free (None, none) second = (None, no_num num den free none)
    ratio num den free (Some z, first) (None, none) = (None, no_den num den free none)
    ratio num den free (Some z, (num_size, num_is)) (Some n, (size, is)) = lowest (has_ratio z n)
      where
        lowest : HasRatio z n → Fraction (num ++ 47 ∷ den)
        lowest (inr none) = (None, ratio_result num den z n None free num_size size num_is is none)
        lowest (inl r) =
            let more = r.more in
            let f : Frac = record { num = z; den = pos n; positive = omega (arith, ints, more); not_least = whole_fits z num_size } in
            (Some f, ratio_result num den z n (Some f) free num_size size num_is is (r, refl, refl))

    by : IsFree 47 bytes ⊎ IsSplit 47 bytes → Fraction bytes
    by (inl free) = whole free (some_whole bytes)
    by (inr s) = subst Fraction (sym s.is) (ratio s.head s.rest s.free (some_whole s.head) (some_natural s.rest))

-- ---- columns of one value
-- what a text begins with, and what stands behind it
pub record IsColumnOf {X : Type 0} (Holds : X → Type 0) (text_of : X → List ℕ) (end : ℕ) (text : List ℕ) : Type 0 where
  pub value : X
  pub rest : List ℕ
  pub is : IsColumn Holds text_of end text value rest

abbrev pub MayHave : {X : Type 0} → (X → Type 0) → (X → List ℕ) → ℕ → List ℕ → Type 0
MayHave Holds text_of end text = HasNoColumn Holds text_of end text ⊎ IsColumnOf Holds text_of end text

module _ {X : Type 0} (Holds : X → Type 0) (text_of : X → List ℕ) (end : ℕ) (free : (x : X) → Holds x → IsFree end (text_of x)) where
  some_column : ((bytes : List ℕ) → IsRead Holds text_of bytes) → (text : List ℕ) → MayHave Holds text_of end text
  some_column each text = by (some_split end text)
    where
      at : (s : IsSplit end text) → IsRead Holds text_of s.head → MayHave Holds text_of end text
      at s (None, none) = inl (no_value Holds text_of end text s.head s.rest free s.free s.is none)
      at s (Some x, (holds, is)) = inr record { value = x; rest = s.rest; is = one_value Holds text_of end text s.head s.rest x free s.free s.is holds is }

      by : IsFree end text ⊎ IsSplit end text → MayHave Holds text_of end text
      by (inl none) = inl (no_end Holds text_of end text none)
      by (inr s) = at s (each s.head)

-- ---- two columns
module _ {X Y : Type 0} (P : X → Type 0) (Q : Y → Type 0) (first : X → List ℕ) (second : Y → List ℕ) (end : ℕ) where
  some_both : ((text : List ℕ) → MayHave P first 32 text) → ((text : List ℕ) → MayHave Q second end text) → (text : List ℕ) → MayHave (Both P Q) (both_texts first second) end text
  some_both one two text = by (one text)
    where
      behind : (x : IsColumnOf P first 32 text) → MayHave Q second end x.rest → MayHave (Both P Q) (both_texts first second) end text
      behind x (inl none) = inl (no_second P Q first second end text x.value x.rest x.is none)
      behind x (inr y) = inr record { value = (x.value, y.value); rest = y.rest; is = both P Q first second end text x.value x.rest y.value y.rest x.is y.is }

      by : MayHave P first 32 text → MayHave (Both P Q) (both_texts first second) end text
      by (inl none) = inl (no_first P Q first second end text none)
      by (inr x) = behind x (two x.rest)

-- ---- the columns of a list
pub view_column : (least : ℕ) (text : List ℕ) → MayHave (IsView least) decimal 32 text
view_column least = some_column (IsView least) decimal 32 (free_view least) (some_view least)

pub mark_column : (text : List ℕ) → MayHave IsAny word_of 32 text
mark_column = some_column IsAny word_of 32 free_mark some_mark

number_column : (end : ℕ) → end < 45 → (text : List ℕ) → MayHave IsInRange signed_decimal end text
number_column end h = some_column IsInRange signed_decimal end (free_number end h) some_number

pub number_pair : (end : ℕ) → end < 45 → (text : List ℕ) → MayHave AreNumbers numbers_text end text
number_pair end h = some_both IsInRange IsInRange signed_decimal signed_decimal end (number_column 32 (lit< tt)) (number_column end h)

pub place_columns : (text : List ℕ) → MayHave ArePlaces places_text 10 text
place_columns = some_both AreNumbers AreNumbers numbers_text numbers_text 10 (number_pair 32 (lit< tt)) (number_pair 10 (lit< tt))

fraction_column : (text : List ℕ) → MayHave IsListedFrac frac_text 32 text
fraction_column = some_column IsListedFrac frac_text 32 free_frac some_fraction

fraction_pair : (text : List ℕ) → MayHave AreFractions fractions_text 32 text
fraction_pair = some_both IsListedFrac IsListedFrac frac_text frac_text 32 fraction_column fraction_column

pub end_columns : (text : List ℕ) → MayHave AreEnds ends_text 32 text
end_columns = some_both AreFractions AreFractions fractions_text fractions_text 32 fraction_pair fraction_pair
