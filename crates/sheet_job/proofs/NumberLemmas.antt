-- Numbers as they are written.
use Rattle.std.proofs.Common.{◌≡◌, inl, inr, ℕ, ◌+◌, ◌<◌, ◌≤◌, ◌==◌, ℤ, pos, zero, suc, unsigned_abs, Bool, true, false, ◌&&◌, List, [], ◌∷◌, ◌++◌, length, get_or, drop, None, codes, arith, refl, sym, ap, subst, ◌∙◌, map, nat_le, append-nil, append_assoc}
use Rattle.std.proofs.lemmas.Bool.{cases_Bool, and_parts}
use Rattle.std.proofs.lemmas.Bool.Decides.{nat_tests}
use Rattle.std.proofs.lemmas.List.{at_drop_more}
use Rattle.std.specs.Char.{is_ascii_digit}
use Rattle.std.specs.List.{list_all, list_any}
use Rattle.dec_text.specs.Numbers.{AreDigits, IsSign, signed, IsFraction, Number, magnitude_of, units_of}
use Rattle.dec_text.specs.declared.number.Length.{Length}
use Rattle.lattice.specs.Faults.{IsFirstOutside}
use Rattle.lattice.specs.declared.points.Axis.{Axis}
use Rattle.lattice.specs.declared.points.Axis.TheVariants.{X, Y, Z}
use Rattle.job_text.specs.Seen.{item_seen}
use Rattle.job_text.specs.declared.item.TextItem.{TextItem}
use Rattle.sheet_job.specs.WrittenValues.{not_zero, toward_of, after_sign, has_point_form, is_length}

-- ---- directions
-- none is outside
pub none_outside : (axis : Axis) (x y z : ℤ) → unsigned_abs x ≤ 9 → unsigned_abs y ≤ 9 → unsigned_abs z ≤ 9 → IsFirstOutside axis x y z → ⊥
none_outside X x y z fx fy fz h = absurd (omega (arith, h, fx))
none_outside Y x y z fx fy fz h = absurd (omega (arith, h.1, fy))
none_outside Z x y z fx fy fz h = absurd (omega (arith, h.2, fz))

pub zero_direction : (x y z : ℤ) → (x ≡ pos 0) × (y ≡ pos 0) × (z ≡ pos 0) → not_zero (record { x = x; y = y; z = z }) ≡ None
zero_direction x y z h = rw (h.0, h.1, h.2) refl

-- ---- digits and a point, byte by byte
pub point_at : (xs : List ℕ) (i : ℕ) → i < length xs → get_or xs i 0 ≡ 46 → has_point_form (drop i xs) ≡ list_all is_ascii_digit (drop (i + 1) xs)
point_at xs i h e = at_drop_more has_point_form xs i 0 h ∙ rw e refl

pub digit_at : (xs : List ℕ) (i : ℕ) → i < length xs → is_ascii_digit (get_or xs i 0) ≡ true → (get_or xs i 0 == 46) ≡ false → has_point_form (drop i xs) ≡ has_point_form (drop (i + 1) xs)
digit_at xs i h digit e = at_drop_more has_point_form xs i 0 h ∙ rw (e, digit) refl

pub other_at : (xs : List ℕ) (i : ℕ) → i < length xs → is_ascii_digit (get_or xs i 0) ≡ false → (get_or xs i 0 == 46) ≡ false → has_point_form (drop i xs) ≡ false
other_at xs i h digit e = at_drop_more has_point_form xs i 0 h ∙ rw (e, digit) refl

-- ---- the parts of a number
-- digits, and a point and digits or nothing
record PointParts (text : List ℕ) : Type 0 where
  whole : List ℕ
  behind : List ℕ
  fraction : List ℕ
  whole_digits : AreDigits whole
  fraction_digits : AreDigits fraction
  is_fraction : IsFraction behind fraction
  all : text ≡ whole ++ behind
  some : list_any is_ascii_digit text ≡ true → 0 < length whole + length fraction

any_length : (p : ℕ → Bool) (xs : List ℕ) → list_any p xs ≡ true → 0 < length xs
any_length p [] h = absurd (cc)
any_length p (x ∷ xs) h = omega arith

no_digit : (byte : ℕ) → (byte == 46) ≡ true → is_ascii_digit byte ≡ false
no_digit byte e = grind (arith, nat_tests)

digits_more : (byte : ℕ) (digits : List ℕ) → is_ascii_digit byte ≡ true → AreDigits digits → AreDigits (byte ∷ digits)
digits_more byte digits h more = rw h more

parts : (text : List ℕ) → has_point_form text ≡ true → PointParts text
parts [] h = record { whole = []; behind = []; fraction = []; whole_digits = refl; fraction_digits = refl; is_fraction = inl (refl, refl); all = refl; some = λ d. absurd (cc) }
parts (byte ∷ rest) h =
    elim (cases_Bool (byte == 46)) [
      | inl point ↦
          let byte_is : byte ≡ 46 = grind (arith, nat_tests) in
          let digits : AreDigits rest = rw point at h in
          record {
            whole = [];
            behind = byte ∷ rest;
            fraction = rest;
            whole_digits = refl;
            fraction_digits = digits;
            is_fraction = inr (ap (λ (b : ℕ). b ∷ rest) byte_is);
            all = refl;
            some = λ d. let more = any_length is_ascii_digit rest (rw (no_digit byte point) at d) in omega (arith, more);
          }
      | inr other ↦
          let both = and_parts (is_ascii_digit byte) (has_point_form rest) (rw other at h) in
          let p : PointParts rest = parts rest both.1 in
          record {
            whole = byte ∷ p.whole;
            behind = p.behind;
            fraction = p.fraction;
            whole_digits = digits_more byte p.whole both.0 p.whole_digits;
            fraction_digits = p.fraction_digits;
            is_fraction = p.is_fraction;
            all = ap (λ (xs : List ℕ). byte ∷ xs) p.all;
            some = λ d. omega arith;
          }
    ]

-- ---- directions of items
pub too_few : (items : List TextItem) → length items < 3 → None ≡ toward_of (map item_seen items)
too_few [] h = refl
too_few (x ∷ []) h = refl
too_few (x ∷ y ∷ []) h = refl
too_few (x ∷ y ∷ z ∷ items) h = absurd (omega (arith, h))

pub too_many : (items : List TextItem) → 3 < length items → None ≡ toward_of (map item_seen items)
too_many [] h = absurd (omega (arith, h))
too_many (x ∷ []) h = absurd (omega (arith, h))
too_many (x ∷ y ∷ []) h = absurd (omega (arith, h))
too_many (x ∷ y ∷ z ∷ []) h = absurd (omega (arith, h))
too_many (x ∷ y ∷ z ∷ w ∷ items) h = refl

-- ---- a length is a number
-- the sign of a number with these parts
sign_case : (word : List ℕ) (negative : Bool) (sign : List ℕ) → IsSign negative sign → (text : List ℕ) → word ≡ sign ++ text → (list_any is_ascii_digit word ≡ true → list_any is_ascii_digit text ≡ true)
    → list_any is_ascii_digit word ≡ true → PointParts text → Number word
sign_case word negative sign is_sign text is digits some p = record {
  negative = negative;
  sign = sign;
  whole = p.whole;
  behind = p.behind;
  fraction = p.fraction;
  tail = [];
  exponent = pos 0;
  is_sign = is_sign;
  whole_digits = p.whole_digits;
  fraction_digits = p.fraction_digits;
  is_fraction = p.is_fraction;
  some = p.some (digits some);
  is_exponent = inl (refl, refl);
  all = is ∙ ap (λ (t : List ℕ). sign ++ t) p.all ∙ sym (append_assoc sign p.whole p.behind) ∙ sym (append-nil (sign ++ p.whole ++ p.behind));
}

plus_no_digit : (byte : ℕ) → (byte == 43) ≡ true → is_ascii_digit byte ≡ false
plus_no_digit byte e = grind (arith, nat_tests)

minus_no_digit : (byte : ℕ) → (byte == 45) ≡ true → is_ascii_digit byte ≡ false
minus_no_digit byte e = grind (arith, nat_tests)

form_is_number : (word : List ℕ) → has_point_form (after_sign word) ≡ true → list_any is_ascii_digit word ≡ true → Number word
form_is_number [] h some = absurd (cc)
form_is_number (byte ∷ rest) h some =
    elim (cases_Bool (byte == 43)) [
      | inl plus ↦
          let is : byte ≡ 43 = grind (arith, nat_tests) in
          let form : has_point_form rest ≡ true = rw plus at h in
          let digits : list_any is_ascii_digit (byte ∷ rest) ≡ true → list_any is_ascii_digit rest ≡ true = λ d. rw (plus_no_digit byte plus) at d in
          sign_case (byte ∷ rest) false (codes "+") (inr refl) rest (ap (λ (b : ℕ). b ∷ rest) is) digits some (parts rest form)
      | inr no_plus ↦
          elim (cases_Bool (byte == 45)) [
            | inl minus ↦
                let is : byte ≡ 45 = grind (arith, nat_tests) in
                let form : has_point_form rest ≡ true = rw (no_plus, minus) at h in
                let digits : list_any is_ascii_digit (byte ∷ rest) ≡ true → list_any is_ascii_digit rest ≡ true = λ d. rw (minus_no_digit byte minus) at d in
                sign_case (byte ∷ rest) true (codes "-") refl rest (ap (λ (b : ℕ). b ∷ rest) is) digits some (parts rest form)
            | inr no_minus ↦
                let form : has_point_form (byte ∷ rest) ≡ true = rw (no_plus, no_minus) at h in
                sign_case (byte ∷ rest) false [] (inl refl) (byte ∷ rest) refl (λ d. d) some (parts (byte ∷ rest) form)
          ]
    ]

pub length_is_number : (word : List ℕ) → is_length word ≡ true → Number word
length_is_number word h =
    let both = and_parts (has_point_form (after_sign word) && list_any is_ascii_digit word) (nat_le (length word) 16777216) h in
    let form = and_parts (has_point_form (after_sign word)) (list_any is_ascii_digit word) both.0 in
    form_is_number word form.0 form.1

-- ---- its size
signed_size : (negative : Bool) (m : ℕ) → unsigned_abs (signed negative m) ≡ m
signed_size false m = refl
signed_size true zero = refl
signed_size true (suc m) = refl

pub units_size : (decimals : ℕ) (unit : Length) (word : List ℕ) (n : Number word) (v : ℤ) → magnitude_of decimals unit n ≤ 1048576 → units_of decimals unit n ≡ v → unsigned_abs v ≤ 1048576
units_size decimals unit word n v few is = subst (λ (z : ℤ). unsigned_abs z ≤ 1048576) is (rw (signed_size n.negative (magnitude_of decimals unit n)) few)
