-- Bytes begin a number as long as the states go on, and are one where these end well.
use Rattle.std.proofs.Common.{◌≡◌, ◌⊎◌, ℕ, ◌+◌, ◌<◌, ◌≤◌, Bool, true, false, ◌||◌, ◌==◌, cond, ℤ, pos, List, [], ◌∷◌, ◌++◌, length, fold, take, drop, get_or, refl, sym, ◌∙◌, ap, arith, inl, inr, append_assoc, append-nil}
use Rattle.std.proofs.lemmas.Bool.{and_parts, or_cases, eqb-true, both_ways, cases_order}
use Rattle.std.proofs.lemmas.List.{take-append-drop, take_all, take-take}
use Rattle.std.proofs.lemmas.List.Sums.{fold-append, fold_more}
use Rattle.std.specs.Prelude.{Option, Some, None, codes}
use Rattle.std.specs.List.{list_all}
use Rattle.std.specs.Char.{is_ascii_digit}
use Rattle.dec_text.specs.Numbers.{AreDigits, value_of, IsSign, signed, HasExponent, IsExponent, IsFraction, Number, BeginsNumber, IsLongestStart}
use Rattle.dec_text.specs.inner.Reading.{byte_kind, step, may_end}
use Rattle.dec_text.specs.declared.number.Kind.{Kind}
use Rattle.dec_text.specs.declared.number.Kind.TheVariants.{Digit, Point, Mark, Sign, Other}
use Rattle.dec_text.specs.declared.number.State.{State}
use Rattle.dec_text.specs.declared.number.State.TheVariants.{Start, Signed, Whole, Pointed, Fraction, Marked, MarkSigned, Powered}

-- one byte more, where the bytes before begin a number
abbrev pub reads : Option State → ℕ → Option State
reads None byte = None
reads (Some state) byte = step state (byte_kind byte)

-- what was read last of the bytes, where they begin a number
abbrev pub state_after : List ℕ → Option State
state_after bytes = fold reads (Some Start) bytes

-- ---- what the kind tells of a byte
abbrev Tells : ℕ → Kind → Type 0
Tells byte Digit = is_ascii_digit byte ≡ true
Tells byte Point = byte ≡ 46
Tells byte Mark = (byte ≡ 101) ⊎ (byte ≡ 69)
Tells byte Sign = (byte ≡ 43) ⊎ (byte ≡ 45)
Tells byte Other = Unit {0}

either : (byte m n : ℕ) → (byte == m || byte == n) ≡ true → (byte ≡ m) ⊎ (byte ≡ n)
either byte m n h = elim (or_cases (byte == m) (byte == n) h) [ inl p ↦ inl (eqb-true byte m p) | inr p ↦ inr (eqb-true byte n p) ]

swapped : {A B : Type 0} → A ⊎ B → B ⊎ A
swapped (inl a) = inr a
swapped (inr b) = inl b

abbrev sign_kind : ℕ → Kind
sign_kind byte = cond (byte == 43 || byte == 45) Sign Other

abbrev mark_kind : ℕ → Kind
mark_kind byte = cond (byte == 69 || byte == 101) Mark (sign_kind byte)

abbrev point_kind : ℕ → Kind
point_kind byte = cond (byte == 46) Point (mark_kind byte)

sign_tells : (byte : ℕ) (b : Bool) → (byte == 43 || byte == 45) ≡ b → Tells byte (cond b Sign Other)
sign_tells byte true h = either byte 43 45 h
sign_tells byte false h = tt

mark_tells : (byte : ℕ) (b : Bool) → (byte == 69 || byte == 101) ≡ b → Tells byte (cond b Mark (sign_kind byte))
mark_tells byte true h = swapped (either byte 69 101 h)
mark_tells byte false h = sign_tells byte (byte == 43 || byte == 45) refl

point_tells : (byte : ℕ) (b : Bool) → (byte == 46) ≡ b → Tells byte (cond b Point (mark_kind byte))
point_tells byte true h = eqb-true byte 46 h
point_tells byte false h = mark_tells byte (byte == 69 || byte == 101) refl

digit_tells : (byte : ℕ) (b : Bool) → is_ascii_digit byte ≡ b → Tells byte (cond b Digit (point_kind byte))
digit_tells byte true h = h
digit_tells byte false h = point_tells byte (byte == 46) refl

kind_tells : (byte : ℕ) → Tells byte (byte_kind byte)
kind_tells byte = digit_tells byte (is_ascii_digit byte) refl

digit_kind : (byte : ℕ) → is_ascii_digit byte ≡ true → byte_kind byte ≡ Digit
digit_kind byte h = ap (λ (b : Bool). cond b Digit (point_kind byte)) h

-- ---- what is to come behind a state
record DigitsTail (least : ℕ) (bytes : List ℕ) : Type 0 where
  digits : List ℕ
  tail : List ℕ
  exponent : ℤ
  are_digits : AreDigits digits
  enough : least ≤ length digits
  is_exponent : IsExponent tail exponent
  all : bytes ≡ digits ++ tail

record WholeTail (least : ℕ) (bytes : List ℕ) : Type 0 where
  whole : List ℕ
  behind : List ℕ
  fraction : List ℕ
  tail : List ℕ
  exponent : ℤ
  whole_digits : AreDigits whole
  fraction_digits : AreDigits fraction
  is_fraction : IsFraction behind fraction
  enough : least ≤ length whole + length fraction
  is_exponent : IsExponent tail exponent
  all : bytes ≡ whole ++ behind ++ tail

record PowerTail (bytes : List ℕ) : Type 0 where
  negative : Bool
  sign : List ℕ
  digits : List ℕ
  is_sign : IsSign negative sign
  are_digits : AreDigits digits
  some : 0 < length digits
  all : bytes ≡ sign ++ digits

abbrev Rest : State → List ℕ → Type 0
Rest Start bytes = Number bytes
Rest Signed bytes = WholeTail 1 bytes
Rest Whole bytes = WholeTail 0 bytes
Rest Pointed bytes = DigitsTail 1 bytes
Rest Fraction bytes = DigitsTail 0 bytes
Rest Marked bytes = PowerTail bytes
Rest MarkSigned bytes = (0 < length bytes) × AreDigits bytes
Rest Powered bytes = AreDigits bytes

-- ---- one byte before what is to come
digit_before : (b : ℕ) (bs : List ℕ) → is_ascii_digit b ≡ true → AreDigits bs → AreDigits (b ∷ bs)
digit_before b bs h k = rw h k

digits_more : (b : ℕ) (bs : List ℕ) → is_ascii_digit b ≡ true → DigitsTail 0 bs → DigitsTail 1 (b ∷ bs)
digits_more b bs h r = record {
  digits = b ∷ r.digits;
  tail = r.tail;
  exponent = r.exponent;
  are_digits = digit_before b r.digits h r.are_digits;
  enough = omega arith;
  is_exponent = r.is_exponent;
  all = ap (λ (x : List ℕ). b ∷ x) r.all;
}

digits_weaker : (bs : List ℕ) → DigitsTail 1 bs → DigitsTail 0 bs
digits_weaker bs r = record { digits = r.digits; tail = r.tail; exponent = r.exponent; are_digits = r.are_digits; enough = omega arith; is_exponent = r.is_exponent; all = r.all }

whole_more : (b : ℕ) (bs : List ℕ) → is_ascii_digit b ≡ true → WholeTail 0 bs → WholeTail 1 (b ∷ bs)
whole_more b bs h r = record {
  whole = b ∷ r.whole;
  behind = r.behind;
  fraction = r.fraction;
  tail = r.tail;
  exponent = r.exponent;
  whole_digits = digit_before b r.whole h r.whole_digits;
  fraction_digits = r.fraction_digits;
  is_fraction = r.is_fraction;
  enough = omega arith;
  is_exponent = r.is_exponent;
  all = ap (λ (x : List ℕ). b ∷ x) r.all;
}

whole_weaker : (bs : List ℕ) → WholeTail 1 bs → WholeTail 0 bs
whole_weaker bs r = record { whole = r.whole; behind = r.behind; fraction = r.fraction; tail = r.tail; exponent = r.exponent; whole_digits = r.whole_digits; fraction_digits = r.fraction_digits; is_fraction = r.is_fraction; enough = omega arith; is_exponent = r.is_exponent; all = r.all }

point_before : (least b : ℕ) (bs : List ℕ) → b ≡ 46 → DigitsTail least bs → WholeTail least (b ∷ bs)
point_before least b bs h r = record {
  whole = [];
  behind = 46 ∷ r.digits;
  fraction = r.digits;
  tail = r.tail;
  exponent = r.exponent;
  whole_digits = refl;
  fraction_digits = r.are_digits;
  is_fraction = inr refl;
  enough = omega (arith, r.enough);
  is_exponent = r.is_exponent;
  all = rw h (ap (λ (x : List ℕ). 46 ∷ x) r.all);
}

mark_before : (b : ℕ) (bs : List ℕ) → (b ≡ 101) ⊎ (b ≡ 69) → (r : PowerTail bs) → HasExponent (b ∷ bs) (signed r.negative (value_of r.digits))
mark_before b bs h r = record {
  mark = b;
  negative = r.negative;
  sign = r.sign;
  digits = r.digits;
  is_mark = h;
  is_sign = r.is_sign;
  are_digits = r.are_digits;
  some = r.some;
  all = ap (λ (x : List ℕ). b ∷ x) r.all;
  is = refl;
}

mark_at_once : (b : ℕ) (bs : List ℕ) → (b ≡ 101) ⊎ (b ≡ 69) → PowerTail bs → DigitsTail 0 (b ∷ bs)
mark_at_once b bs h r = record { digits = []; tail = b ∷ bs; exponent = signed r.negative (value_of r.digits); are_digits = refl; enough = omega arith; is_exponent = inr (mark_before b bs h r); all = refl }

mark_behind_whole : (b : ℕ) (bs : List ℕ) → (b ≡ 101) ⊎ (b ≡ 69) → PowerTail bs → WholeTail 0 (b ∷ bs)
mark_behind_whole b bs h r = record {
  whole = [];
  behind = [];
  fraction = [];
  tail = b ∷ bs;
  exponent = signed r.negative (value_of r.digits);
  whole_digits = refl;
  fraction_digits = refl;
  is_fraction = inl (refl, refl);
  enough = omega arith;
  is_exponent = inr (mark_before b bs h r);
  all = refl;
}

power_unsigned : (b : ℕ) (bs : List ℕ) → is_ascii_digit b ≡ true → AreDigits bs → PowerTail (b ∷ bs)
power_unsigned b bs h k = record { negative = false; sign = []; digits = b ∷ bs; is_sign = inl refl; are_digits = digit_before b bs h k; some = omega arith; all = refl }

power_signed : (b : ℕ) (bs : List ℕ) → (b ≡ 43) ⊎ (b ≡ 45) → 0 < length bs → AreDigits bs → PowerTail (b ∷ bs)
power_signed b bs (inl e) some k = record { negative = false; sign = codes "+"; digits = bs; is_sign = inr refl; are_digits = k; some = some; all = rw e refl }
power_signed b bs (inr e) some k = record { negative = true; sign = codes "-"; digits = bs; is_sign = refl; are_digits = k; some = some; all = rw e refl }

number_of : (negative : Bool) (sign bytes : List ℕ) → IsSign negative sign → (r : WholeTail 1 bytes) → (all : List ℕ) → all ≡ sign ++ r.whole ++ r.behind ++ r.tail → Number all
number_of negative sign bytes h r all e = record {
  negative = negative;
  sign = sign;
  whole = r.whole;
  behind = r.behind;
  fraction = r.fraction;
  tail = r.tail;
  exponent = r.exponent;
  is_sign = h;
  whole_digits = r.whole_digits;
  fraction_digits = r.fraction_digits;
  is_fraction = r.is_fraction;
  some = omega (arith, r.enough);
  is_exponent = r.is_exponent;
  all = e;
}

unsigned_number : (bytes : List ℕ) → WholeTail 1 bytes → Number bytes
unsigned_number bytes r = number_of false [] bytes (inl refl) r bytes r.all

sign_before : (b : ℕ) (bs : List ℕ) → (b ≡ 43) ⊎ (b ≡ 45) → WholeTail 1 bs → Number (b ∷ bs)
sign_before b bs (inl e) r = number_of false (codes "+") bs (inr refl) r (b ∷ bs) (rw e (ap (λ (x : List ℕ). 43 ∷ x) r.all))
sign_before b bs (inr e) r = number_of true (codes "-") bs refl r (b ∷ bs) (rw e (ap (λ (x : List ℕ). 45 ∷ x) r.all))

-- ---- states that end well tell a number
abbrev ends : Option State → Bool
ends None = false
ends (Some state) = may_end state

dead : (bytes : List ℕ) → fold reads None bytes ≡ None
dead [] = refl
dead (b ∷ bs) = dead bs

not_dead : {P : Type 0} (bytes : List ℕ) → ends (fold reads None bytes) ≡ true → P
not_dead bytes h = let no : false ≡ true = rw (dead bytes) at h in absurd (let n : ⊥ = cc in n)

done : (state : State) → may_end state ≡ true → Rest state []
done Whole h = record { whole = []; behind = []; fraction = []; tail = []; exponent = pos 0; whole_digits = refl; fraction_digits = refl; is_fraction = inl (refl, refl); enough = omega arith; is_exponent = inl (refl, refl); all = refl }
done Fraction h = record { digits = []; tail = []; exponent = pos 0; are_digits = refl; enough = omega arith; is_exponent = inl (refl, refl); all = refl }
done Powered h = refl
done _ h = absurd (let n : ⊥ = cc in n)

onward : (b : ℕ) (bs : List ℕ) (state : State) (kind : Kind) → Tells b kind → ((next : State) → ends (fold reads (Some next) bs) ≡ true → Rest next bs) → ends (fold reads (step state kind) bs) ≡ true → Rest state (b ∷ bs)
onward b bs Start Digit t more h = unsigned_number (b ∷ bs) (whole_more b bs t (more Whole h))
onward b bs Start Sign t more h = sign_before b bs t (more Signed h)
onward b bs Start Point t more h = unsigned_number (b ∷ bs) (point_before 1 b bs t (more Pointed h))
onward b bs Signed Digit t more h = whole_more b bs t (more Whole h)
onward b bs Signed Point t more h = point_before 1 b bs t (more Pointed h)
onward b bs Whole Digit t more h = whole_weaker (b ∷ bs) (whole_more b bs t (more Whole h))
onward b bs Whole Point t more h = point_before 0 b bs t (more Fraction h)
onward b bs Whole Mark t more h = mark_behind_whole b bs t (more Marked h)
onward b bs Pointed Digit t more h = digits_more b bs t (more Fraction h)
onward b bs Fraction Digit t more h = digits_weaker (b ∷ bs) (digits_more b bs t (more Fraction h))
onward b bs Fraction Mark t more h = mark_at_once b bs t (more Marked h)
onward b bs Marked Digit t more h = power_unsigned b bs t (more Powered h)
onward b bs Marked Sign t more h = power_signed b bs t (more MarkSigned h).0 (more MarkSigned h).1
onward b bs MarkSigned Digit t more h = (omega arith, digit_before b bs t (more Powered h))
onward b bs Powered Digit t more h = digit_before b bs t (more Powered h)
onward b bs _ _ t more h = not_dead bs h

rest_of : (bytes : List ℕ) (state : State) → ends (fold reads (Some state) bytes) ≡ true → Rest state bytes
rest_of [] state h = done state h
rest_of (b ∷ bs) state h = onward b bs state (byte_kind b) (kind_tells b) (rest_of bs) h

number_by_states : (bytes : List ℕ) (state : State) → state_after bytes ≡ Some state → may_end state ≡ true → Number bytes
number_by_states bytes state e h = rest_of bytes Start (ap ends e ∙ h)

-- ---- a number ends well
digits_stay : (state : State) → step state Digit ≡ Some state → (digits : List ℕ) → AreDigits digits → fold reads (Some state) digits ≡ Some state
digits_stay state h [] k = refl
digits_stay state h (d ∷ ds) k =
    let p = and_parts (is_ascii_digit d) (list_all is_ascii_digit ds) k in
    let same : reads (Some state) d ≡ Some state = ap (step state) (digit_kind d p.0) ∙ h in
    ap (λ (s : Option State). fold reads s ds) same ∙ digits_stay state h ds p.1

digits_enter : (state next : State) → step state Digit ≡ Some next → step next Digit ≡ Some next → (digits : List ℕ) → 0 < length digits → AreDigits digits → fold reads (Some state) digits ≡ Some next
digits_enter state next h i [] some k = absurd (omega arith)
digits_enter state next h i (d ∷ ds) some k =
    let p = and_parts (is_ascii_digit d) (list_all is_ascii_digit ds) k in
    let same : reads (Some state) d ≡ Some next = ap (step state) (digit_kind d p.0) ∙ h in
    ap (λ (s : Option State). fold reads s ds) same ∙ digits_stay next i ds p.1

power_ends : (negative : Bool) (sign digits : List ℕ) → IsSign negative sign → 0 < length digits → AreDigits digits → fold reads (Some Marked) (sign ++ digits) ≡ Some Powered
power_ends false sign digits (inl e) some k = rw e (digits_enter Marked Powered refl refl digits some k)
power_ends false sign digits (inr e) some k = rw e (digits_enter MarkSigned Powered refl refl digits some k)
power_ends true sign digits e some k = rw e (digits_enter MarkSigned Powered refl refl digits some k)

mark_kind_of : (mark : ℕ) → (mark ≡ 101) ⊎ (mark ≡ 69) → byte_kind mark ≡ Mark
mark_kind_of mark (inl e) = rw e refl
mark_kind_of mark (inr e) = rw e refl

exponent_ends : (state : State) → step state Mark ≡ Some Marked → (tail : List ℕ) (exponent : ℤ) → HasExponent tail exponent → fold reads (Some state) tail ≡ Some Powered
exponent_ends state h tail exponent x =
    let marked : reads (Some state) x.mark ≡ Some Marked = ap (step state) (mark_kind_of x.mark x.is_mark) ∙ h in
    ap (fold reads (Some state)) x.all
    ∙ ap (λ (s : Option State). fold reads s (x.sign ++ x.digits)) marked
    ∙ power_ends x.negative x.sign x.digits x.is_sign x.some x.are_digits

tail_ends : (state : State) → step state Mark ≡ Some Marked → may_end state ≡ true → (tail : List ℕ) (exponent : ℤ) → IsExponent tail exponent → ends (fold reads (Some state) tail) ≡ true
tail_ends state h m tail exponent (inl e) = ap (λ (t : List ℕ). ends (fold reads (Some state) t)) e.0 ∙ m
tail_ends state h m tail exponent (inr x) = ap ends (exponent_ends state h tail exponent x)

-- a tail behind what leads from one state to another
then_tail : (from to : State) (front tail : List ℕ) (exponent : ℤ) → fold reads (Some from) front ≡ Some to → step to Mark ≡ Some Marked → may_end to ≡ true → IsExponent tail exponent → ends (fold reads (Some from) (front ++ tail)) ≡ true
then_tail from to front tail exponent e h m x =
    ap ends (fold-append reads (Some from) front tail)
    ∙ ap (λ (s : Option State). ends (fold reads s tail)) e
    ∙ tail_ends to h m tail exponent x

fraction_entered : (fraction : List ℕ) → AreDigits fraction → fold reads (Some Whole) (46 ∷ fraction) ≡ Some Fraction
fraction_entered fraction k = digits_stay Fraction refl fraction k

point_entered : (state : State) → step state Point ≡ Some Pointed → (fraction : List ℕ) → 0 < length fraction → AreDigits fraction → fold reads (Some state) (46 ∷ fraction) ≡ Some Fraction
point_entered state h fraction some k = ap (λ (s : Option State). fold reads s fraction) h ∙ digits_enter Pointed Fraction refl refl fraction some k

-- digits with or without a point
mantissa : (state : State) → step state Digit ≡ Some Whole → step state Point ≡ Some Pointed → (whole behind fraction : List ℕ) → AreDigits whole → AreDigits fraction → IsFraction behind fraction → 0 < length whole + length fraction → (fold reads (Some state) (whole ++ behind) ≡ Some Whole) ⊎ (fold reads (Some state) (whole ++ behind) ≡ Some Fraction)
mantissa state h p [] behind fraction k l (inl e) some = let none : length fraction ≡ 0 = ap length e.1 in absurd (omega arith)
mantissa state h p [] behind fraction k l (inr e) some = inr (rw e (point_entered state p fraction (omega arith) l))
mantissa state h p (w ∷ ws) behind fraction k l (inl e) some =
    inl (
    ap (λ (x : List ℕ). fold reads (Some state) ((w ∷ ws) ++ x)) e.0
    ∙ ap (fold reads (Some state)) (append-nil (w ∷ ws))
    ∙ digits_enter state Whole h refl (w ∷ ws) (omega arith) k
    )
mantissa state h p (w ∷ ws) behind fraction k l (inr e) some =
    inr (
    ap (λ (x : List ℕ). fold reads (Some state) ((w ∷ ws) ++ x)) e
    ∙ fold-append reads (Some state) (w ∷ ws) (46 ∷ fraction)
    ∙ ap (λ (s : Option State). fold reads s (46 ∷ fraction)) (digits_enter state Whole h refl (w ∷ ws) (omega arith) k)
    ∙ fraction_entered fraction l
    )

unsigned_ends : (state : State) → step state Digit ≡ Some Whole → step state Point ≡ Some Pointed → (bytes : List ℕ) (n : Number bytes) → ends (fold reads (Some state) (n.whole ++ n.behind ++ n.tail)) ≡ true
unsigned_ends state h p bytes n = elim (mantissa state h p n.whole n.behind n.fraction n.whole_digits n.fraction_digits n.is_fraction n.some) [
  | inl e ↦ then_tail state Whole (n.whole ++ n.behind) n.tail n.exponent e refl refl n.is_exponent
  | inr e ↦ then_tail state Fraction (n.whole ++ n.behind) n.tail n.exponent e refl refl n.is_exponent
]

behind_sign_ends : (negative : Bool) (sign rest : List ℕ) → IsSign negative sign → ends (fold reads (Some Start) rest) ≡ true → ends (fold reads (Some Signed) rest) ≡ true → ends (state_after (sign ++ rest)) ≡ true
behind_sign_ends false sign rest (inl e) h k = rw e h
behind_sign_ends false sign rest (inr e) h k = rw e k
behind_sign_ends true sign rest e h k = rw e k

sign_apart : (bytes : List ℕ) (n : Number bytes) → bytes ≡ n.sign ++ (n.whole ++ n.behind ++ n.tail)
sign_apart bytes n = n.all ∙ simp append_assoc

number_ends : (bytes : List ℕ) → Number bytes → ends (state_after bytes) ≡ true
number_ends bytes n =
    ap (λ (x : List ℕ). ends (state_after x)) (sign_apart bytes n)
    ∙ behind_sign_ends n.negative n.sign (n.whole ++ n.behind ++ n.tail) n.is_sign (unsigned_ends Start refl refl bytes n) (unsigned_ends Signed refl refl bytes n)

-- ---- how long bytes begin a number
zero_ends : (state : State) → ends (step state Digit) ≡ true
zero_ends Start = refl
zero_ends Signed = refl
zero_ends Whole = refl
zero_ends Pointed = refl
zero_ends Fraction = refl
zero_ends Marked = refl
zero_ends MarkSigned = refl
zero_ends Powered = refl

begins_by_state : (bytes : List ℕ) (state : State) → state_after bytes ≡ Some state → BeginsNumber bytes
begins_by_state bytes state e =
    let zero : ends (state_after (bytes ++ 48 ∷ [])) ≡ true =
    ap ends (fold-append reads (Some Start) bytes (48 ∷ []) ∙ ap (λ (s : Option State). reads s 48) e) ∙ zero_ends state in
    (48 ∷ [], rest_of (bytes ++ 48 ∷ []) Start zero)

none_begins : (bytes : List ℕ) → state_after bytes ≡ None → BeginsNumber bytes → ⊥
none_begins bytes e b =
    not_dead b.0 (sym (ap ends (fold-append reads (Some Start) bytes b.0 ∙ ap (λ (s : Option State). fold reads s b.0) e)) ∙ number_ends (bytes ++ b.0) b.1)

-- no beginning behind a dead one begins a number
dead_behind : (bytes : List ℕ) (i n : ℕ) → i ≤ n → state_after (take i bytes) ≡ None → state_after (take n bytes) ≡ None
dead_behind bytes i n le e =
    ap state_after (sym (take-append-drop i (take n bytes)))
    ∙ fold-append reads (Some Start) (take i (take n bytes)) (drop i (take n bytes))
    ∙ ap (λ (x : List ℕ). fold reads (state_after x) (drop i (take n bytes))) (take-take i n bytes le)
    ∙ ap (λ (s : Option State). fold reads s (drop i (take n bytes))) e
    ∙ dead (drop i (take n bytes))

whole_begins : (bytes : List ℕ) → Number bytes → BeginsNumber (take (length bytes) bytes)
whole_begins bytes n = ([], rw (take_all (length bytes) bytes (omega arith), append-nil bytes) n)

-- the next byte leads nowhere
pub stops : (bytes : List ℕ) (at : ℕ) (state : State) → at < length bytes → state_after (take at bytes) ≡ Some state → step state (byte_kind (get_or bytes at 0)) ≡ None → (Number bytes → ⊥) × IsLongestStart bytes at
stops bytes at state lt e h =
    let now : state_after (take (at + 1) bytes) ≡ None = fold_more reads (Some Start) bytes at 0 lt ∙ ap (λ (s : Option State). reads s (get_or bytes at 0)) e ∙ h in
    let longest : (n : ℕ) → at < n → n ≤ length bytes → BeginsNumber (take n bytes) → ⊥ = λ n p q. none_begins (take n bytes) (dead_behind bytes (at + 1) n (omega arith) now) in
    (λ n. longest (length bytes) lt (omega arith) (whole_begins bytes n), record { within = omega arith; begins = begins_by_state (take at bytes) state e; longest = longest })

-- the bytes end too early
pub ends_early : (bytes : List ℕ) (at : ℕ) (state : State) → length bytes ≤ at → state_after (take at bytes) ≡ Some state → may_end state ≡ false → (Number bytes → ⊥) × IsLongestStart bytes (length bytes)
ends_early bytes at state le e h =
    let all : take at bytes ≡ bytes = take_all at bytes le in
    let state_is : state_after bytes ≡ Some state = sym (ap state_after all) ∙ e in
    let same : take (length bytes) bytes ≡ bytes = take_all (length bytes) bytes (omega arith) in (
      λ n. both_ways (may_end state) h (sym (ap ends state_is) ∙ number_ends bytes n),
      record {
        within = omega arith;
        begins = rw same (begins_by_state bytes state state_is);
        longest = λ n p q. absurd (omega arith);
      },
    )

pub ends_well : (bytes : List ℕ) (at : ℕ) (state : State) → length bytes ≤ at → state_after (take at bytes) ≡ Some state → may_end state ≡ true → Number bytes
ends_well bytes at state le e h = number_by_states bytes state (sym (ap state_after (take_all at bytes le)) ∙ e) h

-- the place is one alone
pub one_longest : (bytes : List ℕ) (m n : ℕ) → IsLongestStart bytes m → IsLongestStart bytes n → m ≡ n
one_longest bytes m n p q = elim (cases_order m n) [
  | inl e ↦ e
  | inr o ↦ elim o [ inl lt ↦ absurd (p.longest n lt q.within q.begins) | inr lt ↦ absurd (q.longest m lt p.within p.begins) ]
]
