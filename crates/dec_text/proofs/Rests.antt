-- How many whole ones digits behind a point are, each times a factor.
use Rattle.std.proofs.Common.{◌≡◌, ℕ, ◌+◌, ◌-◌, ◌*◌, ◌/◌, ◌^◌, ◌<◌, ◌≤◌, min, zero, suc, List, [], ◌∷◌, ◌++◌, length, take, drop, get_or, refl, sym, subst, ◌∙◌, ap, arith, lit<}
use Rattle.std.proofs.Math.Nat.{pow-suc, mul_assoc, div-eq_of_lt, div-div-eq-div-mul, mul-add-div_right, mul-le-mul_left, mul-le-mul_right, one-le-pow, pow-le-pow_right, sub-zero, zero-sub, suc-sub-suc}
use Rattle.std.proofs.Math.Seq.{take-length, drop-cons}
use Rattle.std.proofs.lemmas.Bool.{and_parts}
use Rattle.std.proofs.lemmas.Nat.{pow-add}
use Rattle.std.proofs.lemmas.List.{length-append, length-drop, drop_min}
use Rattle.std.specs.List.{list_all}
use Rattle.std.specs.Char.{is_ascii_digit}
use Rattle.dec_text.specs.Numbers.{AreDigits, value_of}
use Rattle.dec_text.specs.inner.Reading.{rest_of}
use Rattle.dec_text.proofs.Digits.{fold_value, digit_size, value-append, value_less, digits-drop}

pub times_sum : (factor a p b : ℕ) → factor * (a * p + b) ≡ factor * a * p + factor * b
times_sum factor a p b = rw (mul_assoc factor a p) (apart factor (a * p) b)
  where
    apart : (factor x b : ℕ) → factor * (x + b) ≡ factor * x + factor * b
    apart factor x b = omega arith

-- a part that is divided before it is added
quotients : (a b p q : ℕ) → 0 < p → (a + b / p) / q ≡ (a * p + b) / (p * q)
quotients a b p q some = ap (λ (n : ℕ). n / q) (sym (mul-add-div_right some a b)) ∙ div-div-eq-div-mul (a * p + b) p q

module _ (factor behind : ℕ) where
  -- one more digit before
  pub carry_more : (y carry : ℕ) (ys : List ℕ) → carry ≡ (factor * value_of ys + behind) / 10 ^ length ys
      → (factor * (y - 48) + carry) / 10 ≡ (factor * value_of (y ∷ ys) + behind) / 10 ^ length (y ∷ ys)
  carry_more y carry ys is =
      rw (is, pow-suc 10 (length ys), fold_value ys (10 * 0 + (y - 48)), alone (y - 48))
      (quotients (factor * (y - 48)) (factor * value_of ys + behind) (10 ^ length ys) 10 (one-le-pow (length ys) 10 (lit< tt))
      ∙ ap (λ (n : ℕ). n / (10 ^ length ys * 10)) (together (factor * (y - 48) * 10 ^ length ys) (factor * value_of ys) behind
      ∙ ap (λ (n : ℕ). n + behind) (sym (times_sum factor (y - 48) (10 ^ length ys) (value_of ys)))))
    where
      alone : (d : ℕ) → 10 * 0 + d ≡ d
      alone d = omega arith

      together : (a b c : ℕ) → a + (b + c) ≡ a + b + c
      together a b c = omega arith

  pub carry_size : (d carry : ℕ) → d ≤ 9 → carry < factor → (factor * d + carry) / 10 < factor
  carry_size d carry few less = omega (arith, mul-le-mul_left factor few)

  -- the digit before the place that was reached
  module _ (digits : List ℕ) (at digit carry : ℕ) (are : AreDigits digits) (some : 0 < at) (within : at ≤ length digits) (is : digit ≡ get_or digits (at - 1) 0 - 48) where
    front : drop (at - 1) digits ≡ get_or digits (at - 1) 0 ∷ drop at digits
    front =
        let next : suc (at - 1) ≡ at = omega arith in
        drop-cons digits (at - 1) 0 (omega (arith, some, within)) ∙ ap (λ (n : ℕ). get_or digits (at - 1) 0 ∷ drop n digits) next

    few : digit ≤ 9
    few =
        let first = (and_parts (is_ascii_digit (get_or digits (at - 1) 0)) (list_all is_ascii_digit (drop at digits)) (subst AreDigits front (digits-drop (at - 1) digits are))).0 in
        omega (arith, is, (digit_size (get_or digits (at - 1) 0) first).1)

    pub step_value : carry ≡ (factor * value_of (drop at digits) + behind) / 10 ^ length (drop at digits)
        → (factor * digit + carry) / 10 ≡ (factor * value_of (drop (at - 1) digits) + behind) / 10 ^ length (drop (at - 1) digits)
    step_value value = rw (front, is) (carry_more (get_or digits (at - 1) 0) carry (drop at digits) value)

    pub step_size : carry < factor → (factor * digit + carry) / 10 < factor
    step_size size = carry_size digit carry few size

-- ---- two parts
pub whole_drop : (n : ℕ) (xs : List ℕ) → take (length xs - n) (drop n xs) ≡ drop n xs
whole_drop n xs = rw (← length-drop n xs) (take-length (drop n xs))

drop_both : (xs ys : List ℕ) (n : ℕ) → drop n (xs ++ ys) ≡ drop n xs ++ drop (n - length xs) ys
drop_both [] ys n = rw (drop_none n, sub-zero) refl
  where
    drop_none : (n : ℕ) → drop {A = ℕ} n [] ≡ []
    drop_none zero = refl
    drop_none (suc n) = refl
drop_both (x ∷ xs) ys zero = rw zero-sub refl
drop_both (x ∷ xs) ys (suc n) = rw suc-sub-suc (drop_both xs ys n)

module _ (factor : ℕ) where
  whole_rest : (xs ys : List ℕ) → (factor * value_of xs + (factor * value_of ys + 0) / 10 ^ length ys) / 10 ^ length xs ≡ (factor * value_of (xs ++ ys)) / 10 ^ length (xs ++ ys)
  whole_rest xs ys =
      quotients (factor * value_of xs) (factor * value_of ys + 0) (10 ^ length ys) (10 ^ length xs) (one-le-pow (length ys) 10 (lit< tt))
      ∙ (λ i. above i / below i)
    where
      zero_more : (n : ℕ) → n + 0 ≡ n
      zero_more n = omega arith

      above : factor * value_of xs * 10 ^ length ys + (factor * value_of ys + 0) ≡ factor * value_of (xs ++ ys)
      above = ap (λ (n : ℕ). factor * value_of xs * 10 ^ length ys + n) (zero_more (factor * value_of ys))
          ∙ sym (times_sum factor (value_of xs) (10 ^ length ys) (value_of ys)) ∙ ap (λ (n : ℕ). factor * n) (sym (value-append xs ys))

      swapped : (a b : ℕ) → a + b ≡ b + a
      swapped a b = omega arith

      below : 10 ^ length ys * 10 ^ length xs ≡ 10 ^ length (xs ++ ys)
      below = sym (pow-add 10 (length ys) (length xs)) ∙ ap (λ (n : ℕ). 10 ^ n) (swapped (length ys) (length xs) ∙ sym (length-append xs ys))

  -- the carry of what is left of both parts, with zeros before
  pub rest_parts : (ws fs : List ℕ) (count first second behind carry lead : ℕ) → first ≡ min count (length ws) → second ≡ min (count - length ws) (length fs)
      → behind ≡ (factor * value_of (drop second fs) + 0) / 10 ^ length (drop second fs)
      → carry ≡ (factor * value_of (drop first ws) + behind) / 10 ^ length (drop first ws)
      → carry / 10 ^ lead ≡ rest_of factor (ws ++ fs) count lead
  rest_parts ws fs count first second behind carry lead p q b c =
      ap (λ (n : ℕ). n / 10 ^ lead) whole ∙ div-div-eq-div-mul (factor * value_of left) (10 ^ length left) (10 ^ lead)
      ∙ ap (λ (n : ℕ). factor * value_of left / n) (sym (pow-add 10 (length left) lead))
      ∙ ap (λ (n : ℕ). factor * value_of left / 10 ^ (n + lead)) (length-drop count (ws ++ fs))
    where
      left : List ℕ
      left = drop count (ws ++ fs)

      parts : drop first ws ++ drop second fs ≡ left
      parts = (λ i. drop (p i) ws ++ drop (q i) fs) ∙ (λ i. drop_min count ws i ++ drop_min (count - length ws) fs i) ∙ sym (drop_both ws fs count)

      whole : carry ≡ (factor * value_of left) / 10 ^ length left
      whole = c ∙ ap (λ (n : ℕ). (factor * value_of (drop first ws) + n) / 10 ^ length (drop first ws)) b
          ∙ whole_rest (drop first ws) (drop second fs) ∙ ap (λ (l : List ℕ). (factor * value_of l) / 10 ^ length l) parts

  -- with three zeros before it is nothing
  pub rest_small : (digits : List ℕ) (count lead : ℕ) → AreDigits digits → factor ≤ 254 → 3 ≤ lead → rest_of factor digits count lead ≡ 0
  rest_small digits count lead are small three = div-eq_of_lt (rw (pow-add 10 (length digits - count) lead) less)
    where
      size : value_of (drop count digits) < 10 ^ (length digits - count)
      size = rw (← length-drop count digits) (value_less (drop count digits) (digits-drop count digits are))

      times : (v p t : ℕ) → v < p → 1000 ≤ t → factor * v ≤ 254 * v → p * 1000 ≤ p * t → factor * v < p * t
      times v p t a b c d = omega arith

      less : factor * value_of (drop count digits) < 10 ^ (length digits - count) * 10 ^ lead
      less =
          let thousand : 1000 ≤ 10 ^ lead = pow-le-pow_right {n = 10} (lit< tt) {i = 3} {j = lead} three in
          times (value_of (drop count digits)) (10 ^ (length digits - count)) (10 ^ lead) size thousand
          (mul-le-mul_right (value_of (drop count digits)) small) (mul-le-mul_left (10 ^ (length digits - count)) thousand)
