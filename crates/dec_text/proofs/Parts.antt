-- A number is parted in one way only.
use Rattle.std.proofs.Common.{◌≡◌, ◌⊎◌, ℕ, ◌+◌, ◌*◌, ◌<◌, ◌≤◌, suc, Bool, true, false, ◌||◌, ◌==◌, ℤ, pos, ◌+ℤ◌, ◌-ℤ◌, List, [], ◌∷◌, ◌++◌, length, refl, sym, ◌∙◌, ap, subst, arith, inl, inr, append_assoc}
use Rattle.std.proofs.lemmas.Bool.{and_parts, ne_eqb, or_parts}
use Rattle.std.proofs.lemmas.List.{length-append}
use Rattle.std.specs.List.{list_all}
use Rattle.std.specs.Char.{is_ascii_digit}
use Rattle.dec_text.specs.Numbers.{AreDigits, value_of, IsSign, signed, HasExponent, IsExponent, IsFraction, Number, tenths_in, rounded, magnitude_of, units_of}
use Rattle.dec_text.specs.declared.number.Length.{Length}
use Rattle.dec_text.specs.inner.Reading.{is_minus, behind_sign, IsDigitEnd, HasFraction}
use Rattle.dec_text.proofs.Digits.{one_end, digit_size}

or_neither : (x y : Bool) → x ≡ false → y ≡ false → (x || y) ≡ false
or_neither x y h k = rw (h, k) refl

-- ---- the exponent's mark is no digit and no point
mark_end : (mark : ℕ) (behind : List ℕ) → (mark ≡ 101) ⊎ (mark ≡ 69) → IsDigitEnd (mark ∷ behind)
mark_end mark behind (inl e) = rw e refl
mark_end mark behind (inr e) = rw e refl

pub tail_end : (tail : List ℕ) (exponent : ℤ) → IsExponent tail exponent → IsDigitEnd tail
tail_end tail exponent (inl e) = rw e.0 tt
tail_end tail exponent (inr x) = rw x.all (mark_end x.mark (x.sign ++ x.digits) x.is_mark)

point_mark : (behind more : List ℕ) (mark : ℕ) → (mark ≡ 101) ⊎ (mark ≡ 69) → 46 ∷ behind ≡ mark ∷ more → ⊥
point_mark behind more mark (inl e) h = let n : 46 ≡ mark = cc in omega arith
point_mark behind more mark (inr e) h = let n : 46 ≡ mark = cc in omega arith

point_tail : {P : Type 0} (behind tail : List ℕ) (exponent : ℤ) → IsExponent tail exponent → 46 ∷ behind ≡ tail → P
point_tail behind tail exponent (inl e) h = absurd (let n : ⊥ = cc (h ∙ e.0) in n)
point_tail behind tail exponent (inr x) h = absurd (point_mark behind (x.sign ++ x.digits) x.mark x.is_mark (h ∙ x.all))

-- ---- digits behind a point
point_parts : (behind front back more fraction tail : List ℕ) (exponent : ℤ) → behind ≡ front ++ back → AreDigits front → IsDigitEnd back → IsFraction more fraction → AreDigits fraction → IsExponent tail exponent → 46 ∷ behind ≡ more ++ tail → (front ≡ fraction) × (back ≡ tail)
point_parts behind front back more fraction tail exponent e h k (inl f) l x all =
    point_tail behind tail exponent x (all ∙ ap (λ (m : List ℕ). m ++ tail) f.0)
point_parts behind front back more fraction tail exponent e h k (inr f) l x all =
    let same : 46 ∷ behind ≡ 46 ∷ (fraction ++ tail) = all ∙ ap (λ (m : List ℕ). m ++ tail) f in
    let rest : behind ≡ fraction ++ tail = cc in
    one_end front fraction back tail h l k (tail_end tail exponent x) (sym e ∙ rest)

pub fraction_parts : (text behind front back fraction tail : List ℕ) → text ≡ 46 ∷ behind → behind ≡ front ++ back → AreDigits front → IsDigitEnd back → HasFraction text fraction tail → (front ≡ fraction) × (back ≡ tail)
fraction_parts text behind front back fraction tail t e h k x =
    point_parts behind front back x.behind fraction tail x.exponent e h k x.is_fraction x.are_digits x.is_exponent (sym t ∙ x.all)

-- ---- the sign
-- no sign comes first
abbrev IsUnsigned : List ℕ → Type 0
IsUnsigned [] = Unit {0}
IsUnsigned (b ∷ bs) = (b == 43 || b == 45) ≡ false

digit_unsigned : (b : ℕ) (bs : List ℕ) → is_ascii_digit b ≡ true → IsUnsigned (b ∷ bs)
digit_unsigned b bs h = let s = digit_size b h in or_neither (b == 43) (b == 45) (ne_eqb b 43 (λ e. omega (arith, s.0))) (ne_eqb b 45 (λ e. omega (arith, s.0)))

unsigned_rest : (whole behind fraction tail : List ℕ) → AreDigits whole → IsFraction behind fraction → 0 < length whole + length fraction → IsUnsigned (whole ++ behind ++ tail)
unsigned_rest [] behind fraction tail h (inl f) some = let none : length fraction ≡ 0 = ap length f.1 in absurd (omega arith)
unsigned_rest [] behind fraction tail h (inr f) some = rw f refl
unsigned_rest (w ∷ ws) behind fraction tail h f some = digit_unsigned w (ws ++ behind ++ tail) (and_parts (is_ascii_digit w) (list_all is_ascii_digit ws) h).0

plain_minus : (bytes : List ℕ) → IsUnsigned bytes → is_minus bytes ≡ false
plain_minus [] h = refl
plain_minus (b ∷ bs) h = (or_parts (b == 43) (b == 45) h).1

plain_behind : (bytes : List ℕ) → IsUnsigned bytes → behind_sign bytes ≡ bytes
plain_behind [] h = refl
plain_behind (b ∷ bs) h = rw h refl

record HasSign (bytes : List ℕ) (negative : Bool) (rest : List ℕ) : Type 0 where
  minus : is_minus bytes ≡ negative
  behind : behind_sign bytes ≡ rest

signed_parts : (negative : Bool) (sign rest : List ℕ) → IsSign negative sign → IsUnsigned rest → HasSign (sign ++ rest) negative rest
signed_parts false sign rest (inl e) h = rw e (record { minus = plain_minus rest h; behind = plain_behind rest h })
signed_parts false sign rest (inr e) h = rw e (record { minus = refl; behind = refl })
signed_parts true sign rest e h = rw e (record { minus = refl; behind = refl })

sign_parts : (bytes : List ℕ) (n : Number bytes) → HasSign bytes n.negative (n.whole ++ n.behind ++ n.tail)
sign_parts bytes n =
    let apart : bytes ≡ n.sign ++ (n.whole ++ n.behind ++ n.tail) = n.all ∙ simp append_assoc in
    subst (λ (b : List ℕ). HasSign b n.negative (n.whole ++ n.behind ++ n.tail)) (sym apart)
    (signed_parts n.negative n.sign (n.whole ++ n.behind ++ n.tail) n.is_sign (unsigned_rest n.whole n.behind n.fraction n.tail n.whole_digits n.is_fraction n.some))

pub minus_is : (bytes : List ℕ) (n : Number bytes) → is_minus bytes ≡ n.negative
minus_is bytes n = (sign_parts bytes n).minus

-- ---- the digits before the point
whole_end : (behind fraction tail : List ℕ) (exponent : ℤ) → IsFraction behind fraction → IsExponent tail exponent → IsDigitEnd (behind ++ tail)
whole_end behind fraction tail exponent (inl f) x = rw f.0 (tail_end tail exponent x)
whole_end behind fraction tail exponent (inr f) x = rw f refl

pub whole_parts : (bytes behind front back : List ℕ) → behind ≡ behind_sign bytes → behind ≡ front ++ back → AreDigits front → IsDigitEnd back → (n : Number bytes) → (front ≡ n.whole) × (back ≡ n.behind ++ n.tail)
whole_parts bytes behind front back e parts h k n =
    let same : n.whole ++ n.behind ++ n.tail ≡ n.whole ++ (n.behind ++ n.tail) = append_assoc n.whole n.behind n.tail in
    one_end front n.whole back (n.behind ++ n.tail) h n.whole_digits k (whole_end n.behind n.fraction n.tail n.exponent n.is_fraction n.is_exponent) (sym parts ∙ e ∙ (sign_parts bytes n).behind ∙ same)

pub has_fraction : (bytes back : List ℕ) (n : Number bytes) → back ≡ n.behind ++ n.tail → HasFraction back n.fraction n.tail
has_fraction bytes back n e = record { behind = n.behind; exponent = n.exponent; is_fraction = n.is_fraction; are_digits = n.fraction_digits; is_exponent = n.is_exponent; all = e }

-- ---- no part is longer than the whole
behind_long : (behind fraction : List ℕ) → IsFraction behind fraction → length fraction ≤ length behind
behind_long behind fraction (inl f) = let e : length fraction ≡ 0 = ap length f.1 in omega arith
behind_long behind fraction (inr f) = let e : length behind ≡ suc (length fraction) = ap length f in omega arith

pub parts_long : (bytes : List ℕ) (n : Number bytes) → (length n.whole ≤ length bytes) × (length n.fraction ≤ length bytes)
parts_long bytes n =
    let e = ap length n.all in
    let f = behind_long n.behind n.fraction n.is_fraction in
    let l : length bytes ≡ length n.sign + length n.whole + length n.behind + length n.tail = simp length-append at e in
    (omega arith, omega arith)

-- ---- two readings of the same bytes
same_text : (a b : ℕ) (xs ys : List ℕ) → a ∷ xs ≡ b ∷ ys → xs ≡ ys
same_text a b xs ys h = cc

no_mark : {P : Type 0} (mark : ℕ) (more tail : List ℕ) → tail ≡ [] → tail ≡ mark ∷ more → P
no_mark mark more tail e h = absurd (let n : ⊥ = cc (sym e ∙ h) in n)

unsigned_digits : (digits : List ℕ) → AreDigits digits → IsUnsigned digits
unsigned_digits [] h = tt
unsigned_digits (d ∷ ds) h = digit_unsigned d ds (and_parts (is_ascii_digit d) (list_all is_ascii_digit ds) h).0

same_signed : (text other : List ℕ) (negative minus : Bool) (rest behind : List ℕ) → text ≡ other → HasSign text negative rest → HasSign other minus behind → (negative ≡ minus) × (rest ≡ behind)
same_signed text other negative minus rest behind e h k = (sym h.minus ∙ ap is_minus e ∙ k.minus, sym h.behind ∙ ap behind_sign e ∙ k.behind)

one_power : (tail : List ℕ) (d e : ℤ) → HasExponent tail d → HasExponent tail e → d ≡ e
one_power tail d e x y =
    let same : x.sign ++ x.digits ≡ y.sign ++ y.digits = same_text x.mark y.mark (x.sign ++ x.digits) (y.sign ++ y.digits) (sym x.all ∙ y.all) in
    let parts =
    same_signed (x.sign ++ x.digits) (y.sign ++ y.digits) x.negative y.negative x.digits y.digits same
    (signed_parts x.negative x.sign x.digits x.is_sign (unsigned_digits x.digits x.are_digits))
    (signed_parts y.negative y.sign y.digits y.is_sign (unsigned_digits y.digits y.are_digits)) in
    x.is ∙ ap (λ (b : Bool). signed b (value_of x.digits)) parts.0 ∙ ap (λ (l : List ℕ). signed y.negative (value_of l)) parts.1 ∙ sym y.is

one_exponent : (tail : List ℕ) (d e : ℤ) → IsExponent tail d → IsExponent tail e → d ≡ e
one_exponent tail d e (inl h) (inl k) = h.1 ∙ sym k.1
one_exponent tail d e (inl h) (inr y) = no_mark y.mark (y.sign ++ y.digits) tail h.0 y.all
one_exponent tail d e (inr x) (inl k) = no_mark x.mark (x.sign ++ x.digits) tail k.0 x.all
one_exponent tail d e (inr x) (inr y) = one_power tail d e x y

-- the parts that make the value
record AreSame (bytes : List ℕ) (n m : Number bytes) : Type 0 where
  negative : n.negative ≡ m.negative
  whole : n.whole ≡ m.whole
  fraction : n.fraction ≡ m.fraction
  exponent : n.exponent ≡ m.exponent

same_tails : (behind more fraction other tail rest : List ℕ) (d e : ℤ) → IsFraction behind fraction → IsFraction more other → AreDigits fraction → AreDigits other → IsExponent tail d → IsExponent rest e → behind ++ tail ≡ more ++ rest → (fraction ≡ other) × (tail ≡ rest)
same_tails behind more fraction other tail rest d e (inl f) (inl g) h k x y all = (f.1 ∙ sym g.1, sym (ap (λ (m : List ℕ). m ++ tail) f.0) ∙ all ∙ ap (λ (m : List ℕ). m ++ rest) g.0)
same_tails behind more fraction other tail rest d e (inl f) (inr g) h k x y all =
    point_tail (other ++ rest) tail d x (sym (sym (ap (λ (m : List ℕ). m ++ tail) f.0) ∙ all ∙ ap (λ (m : List ℕ). m ++ rest) g))
same_tails behind more fraction other tail rest d e (inr f) g h k x y all =
    point_parts (fraction ++ tail) fraction tail more other rest e refl h (tail_end tail d x) g k y (sym (ap (λ (m : List ℕ). m ++ tail) f) ∙ all)

all_same : (bytes : List ℕ) (n m : Number bytes) → AreSame bytes n m
all_same bytes n m =
    let parts : behind_sign bytes ≡ n.whole ++ (n.behind ++ n.tail) = (sign_parts bytes n).behind ∙ append_assoc n.whole n.behind n.tail in
    let w = whole_parts bytes (behind_sign bytes) n.whole (n.behind ++ n.tail) refl parts n.whole_digits (whole_end n.behind n.fraction n.tail n.exponent n.is_fraction n.is_exponent) m in
    let f = same_tails n.behind m.behind n.fraction m.fraction n.tail m.tail n.exponent m.exponent n.is_fraction m.is_fraction n.fraction_digits m.fraction_digits n.is_exponent m.is_exponent w.1 in
    record {
      negative = sym (minus_is bytes n) ∙ minus_is bytes m;
      whole = w.0;
      fraction = f.0;
      exponent = one_exponent m.tail n.exponent m.exponent (subst (λ (t : List ℕ). IsExponent t n.exponent) f.1 n.is_exponent) m.is_exponent;
    }

same_rounded : (decimals factor : ℕ) (whole front fraction behind : List ℕ) (d e : ℤ) → whole ≡ front → fraction ≡ behind → d ≡ e → rounded (factor * value_of (whole ++ fraction)) (d +ℤ pos decimals -ℤ pos (length fraction) -ℤ pos 1) ≡ rounded (factor * value_of (front ++ behind)) (e +ℤ pos decimals -ℤ pos (length behind) -ℤ pos 1)
same_rounded decimals factor whole front fraction behind d e h k x = rw (h, k, x) refl

-- bytes are so many units in one way only
pub one_value : (decimals : ℕ) (unit : Length) (bytes : List ℕ) (n m : Number bytes) → magnitude_of decimals unit n ≡ magnitude_of decimals unit m
one_value decimals unit bytes n m = let s = all_same bytes n m in same_rounded decimals (tenths_in unit) n.whole m.whole n.fraction m.fraction n.exponent m.exponent s.whole s.fraction s.exponent

pub one_units : (decimals : ℕ) (unit : Length) (bytes : List ℕ) (n m : Number bytes) → units_of decimals unit n ≡ units_of decimals unit m
one_units decimals unit bytes n m =
    let s = all_same bytes n m in
    ap (λ (b : Bool). signed b (magnitude_of decimals unit n)) s.negative ∙ ap (signed m.negative) (one_value decimals unit bytes n m)
