-- What digits stand for, as a whole and in parts.
use Rattle.std.proofs.Common.{◌≡◌, ℕ, ◌+◌, ◌-◌, ◌*◌, ◌^◌, ◌<◌, ◌≤◌, zero, suc, Bool, true, false, List, [], ◌∷◌, ◌++◌, length, fold, take, drop, refl, sym, ◌∙◌, ap, arith, lit<, inl, inr}
use Rattle.std.proofs.Math.Nat.{pow-suc, pow-le-pow_right, mul-le-mul_right, mul-le-mul_left, one-le-pow, sub-zero, zero-sub, suc-sub-suc}
use Rattle.std.proofs.lemmas.Bool.{and_parts, and_from, leb-true}
use Rattle.std.proofs.lemmas.List.{take-append-drop, length-take}
use Rattle.std.proofs.lemmas.List.Sums.{fold-append}
use Rattle.std.proofs.lemmas.List.Folds.{list_all-append}
use Rattle.std.specs.Prelude.{nat_le}
use Rattle.std.specs.List.{list_all}
use Rattle.std.specs.Char.{is_ascii_digit}
use Rattle.dec_text.specs.Numbers.{AreDigits, value_of}
use Rattle.dec_text.specs.inner.Reading.{IsDigitEnd, IsHeld}

-- ---- what digits stand for
abbrev pub more : ℕ → ℕ → ℕ
more n digit = 10 * n + (digit - 48)

one_more : (n d p v : ℕ) → (10 * n + d) * p + v ≡ n * (p * 10) + ((10 * 0 + d) * p + v)
one_more n d p v = omega arith

-- n digits stand before
pub fold_value : (ys : List ℕ) (n : ℕ) → fold more n ys ≡ n * 10 ^ length ys + value_of ys
fold_value [] n = omega arith
fold_value (y ∷ ys) n =
    rw (pow-suc 10 (length ys), fold_value ys (10 * 0 + (y - 48)))
    (fold_value ys (10 * n + (y - 48)) ∙ one_more n (y - 48) (10 ^ length ys) (value_of ys))

pub value-append : (xs ys : List ℕ) → value_of (xs ++ ys) ≡ value_of xs * 10 ^ length ys + value_of ys
value-append xs ys = fold-append more 0 xs ys ∙ fold_value ys (value_of xs)

-- ---- their size
pub digit_size : (y : ℕ) → is_ascii_digit y ≡ true → (48 ≤ y) × (y ≤ 57)
digit_size y h = let k = and_parts (nat_le 48 y) (nat_le y 57) h in (leb-true 48 y k.0, leb-true y 57 k.1)

less : (d p v : ℕ) → d * p ≤ 9 * p → v < p → (10 * 0 + d) * p + v < p * 10
less d p v h k = omega arith

pub value_less : (ys : List ℕ) → AreDigits ys → value_of ys < 10 ^ length ys
value_less [] h = lit< tt
value_less (y ∷ ys) h =
    let k = and_parts (is_ascii_digit y) (list_all is_ascii_digit ys) h in
    let s = digit_size y k.0 in
    let d : y - 48 ≤ 9 = omega (arith, s.1) in
    rw (pow-suc 10 (length ys), fold_value ys (10 * 0 + (y - 48)))
    (less (y - 48) (10 ^ length ys) (value_of ys) (mul-le-mul_right (10 ^ length ys) d) (value_less ys k.1))

-- ---- digits in parts
pub digits-append : (xs ys : List ℕ) → AreDigits xs → AreDigits ys → AreDigits (xs ++ ys)
digits-append xs ys h k = list_all-append is_ascii_digit xs ys ∙ and_from _ _ h k

pub both_digits : (xs ys : List ℕ) → AreDigits (xs ++ ys) → (AreDigits xs) × (AreDigits ys)
both_digits xs ys h = and_parts _ _ (sym (list_all-append is_ascii_digit xs ys) ∙ h)

pub digits-take : (n : ℕ) (xs : List ℕ) → AreDigits xs → AreDigits (take n xs)
digits-take n xs h = (both_digits (take n xs) (drop n xs) (rw (take-append-drop n xs) h)).0

pub digits-drop : (n : ℕ) (xs : List ℕ) → AreDigits xs → AreDigits (drop n xs)
digits-drop n xs h = (both_digits (take n xs) (drop n xs) (rw (take-append-drop n xs) h)).1

-- ---- more digits make no less
grown : (n p v : ℕ) → 1 ≤ p → n * 1 ≤ n * p → n ≤ n * p + v
grown n p v h k = omega arith

pub fold-le : (ys : List ℕ) (n : ℕ) → n ≤ fold more n ys
fold-le ys n =
    let one : 1 ≤ 10 ^ length ys = one-le-pow (length ys) 10 (lit< tt) in
    rw (fold_value ys n) (grown n (10 ^ length ys) (value_of ys) one (mul-le-mul_left n one))

pub fold_front : (xs : List ℕ) (i a : ℕ) → fold more a (take i xs) ≤ fold more a xs
fold_front xs i a =
    let e : fold more a xs ≡ fold more (fold more a (take i xs)) (drop i xs) = ap (fold more a) (sym (take-append-drop i xs)) ∙ fold-append more a (take i xs) (drop i xs) in
    rw e (fold-le (drop i xs) (fold more a (take i xs)))

-- ---- held values
pub held_next : (value held digit value' held' : ℕ) → IsHeld value held → held < 2 ^ 26 → value' ≡ 10 * value + digit → held' ≡ 10 * held + digit → IsHeld value' held'
held_next value held digit value' held' (inl e) h p q = inl (omega arith)
held_next value held digit value' held' (inr k) h p q = absurd (omega (arith, k.1))

pub held_stays : (value held digit value' held' : ℕ) → IsHeld value held → 2 ^ 26 ≤ held → value' ≡ 10 * value + digit → held' ≡ held → IsHeld value' held'
held_stays value held digit value' held' (inl e) h p q = inr (omega arith, omega arith)
held_stays value held digit value' held' (inr k) h p q = inr (omega (arith, k.0), omega arith)

-- ---- the front of two lists in a row
take_none : (n : ℕ) → take {A = ℕ} n [] ≡ []
take_none zero = refl
take_none (suc n) = refl

pub take_both : (xs ys : List ℕ) (n : ℕ) → take n (xs ++ ys) ≡ take n xs ++ take (n - length xs) ys
take_both [] ys n = rw (take_none n, sub-zero) refl
take_both (x ∷ xs) ys zero = rw zero-sub refl
take_both (x ∷ xs) ys (suc n) = rw suc-sub-suc (ap (λ (r : List ℕ). x ∷ r) (take_both xs ys n))

-- ---- where digits end
digit_or_not : {P : Type 0} (b : Bool) → b ≡ true → b ≡ false → P
digit_or_not b h k = let no : true ≡ false = cc in absurd (let no : ⊥ = cc in no)

-- a text is parted in one way only
pub one_end : (xs us ys vs : List ℕ) → AreDigits xs → AreDigits us → IsDigitEnd ys → IsDigitEnd vs → xs ++ ys ≡ us ++ vs → (xs ≡ us) × (ys ≡ vs)
one_end [] [] ys vs h k p q e = (refl, e)
one_end [] (u ∷ us) [] vs h k p q e = absurd (let no : ⊥ = cc in no)
one_end [] (u ∷ us) (y ∷ ys) vs h k p q e =
    let same : y ≡ u = cc in
    digit_or_not (is_ascii_digit u) (and_parts (is_ascii_digit u) (list_all is_ascii_digit us) k).0 (rw same at p)
one_end (x ∷ xs) [] ys [] h k p q e = absurd (let no : ⊥ = cc in no)
one_end (x ∷ xs) [] ys (v ∷ vs) h k p q e =
    let same : v ≡ x = cc in
    digit_or_not (is_ascii_digit x) (and_parts (is_ascii_digit x) (list_all is_ascii_digit xs) h).0 (rw same at q)
one_end (x ∷ xs) (u ∷ us) ys vs h k p q e =
    let first : x ≡ u = cc in
    let rest : xs ++ ys ≡ us ++ vs = cc in
    let m = one_end xs us ys vs (and_parts (is_ascii_digit x) (list_all is_ascii_digit xs) h).1 (and_parts (is_ascii_digit u) (list_all is_ascii_digit us) k).1 p q rest in
    (let both = m.0 in cc, m.1)

-- ---- a few digits
pub digits_size : (text : List ℕ) (most : ℕ) → length text ≤ most → AreDigits text → value_of text < 10 ^ most
digits_size text most few digits = let p = value_less text digits in let q = pow-le-pow_right {n = 10} (omega arith) few in omega (arith, p, q)

pub front_size : (text : List ℕ) (i : ℕ) → length text ≤ 13 → AreDigits text → value_of (take i text) < 10 ^ 13
front_size text i few digits = digits_size (take i text) 13 (let e = length-take i text in omega (arith, e)) (digits-take i text digits)
