-- How numbers are written, and how many units they are.
use Rattle.std.specs.Prelude.{◌≡◌, ◌⊎◌, ℕ, ◌+◌, ◌*◌, ◌-◌, ◌^◌, ◌/◌, ◌<◌, ◌≤◌, nat_le, ◌&&◌, if◌then◌else◌, Bool, true, false, Option, Some, None, ℤ, pos, negsuc, neg_ℤ, ◌+ℤ◌, ◌-ℤ◌, List, [], ◌∷◌, ◌++◌, length, fold, take, codes}
use Rattle.std.specs.List.{list_all}
use Rattle.std.specs.Char.{is_ascii_digit}
use Rattle.dec_text.specs.declared.number.Length.{Length}
use Rattle.dec_text.specs.declared.number.Length.TheVariants.{Millimetre, Inch}

-- ---- how a number is written
abbrev pub AreDigits : List ℕ → Type 0
AreDigits digits = list_all is_ascii_digit digits ≡ true

-- what decimal digits stand for; 48 is `0`
abbrev pub value_of : List ℕ → ℕ
value_of digits = fold (λ n digit. 10 * n + (digit - 48)) 0 digits

-- what 1 to `most` digits stand for
abbrev pub digits_value : ℕ → List ℕ → Option ℕ
digits_value most text = if nat_le 1 (length text) && nat_le (length text) most && list_all is_ascii_digit text then Some (value_of text) else None

-- of a number that is not negative nothing or `+`, of a negative one `-`
abbrev pub IsSign : Bool → List ℕ → Type 0
IsSign false sign = (sign ≡ []) ⊎ (sign ≡ codes "+")
IsSign true sign = sign ≡ codes "-"

abbrev pub signed : Bool → ℕ → ℤ
signed false n = pos n
signed true n = neg_ℤ (pos n)

-- `e` or `E`, a sign and at least one digit
pub record HasExponent (text : List ℕ) (exponent : ℤ) : Type 0 where
  pub mark : ℕ
  pub negative : Bool
  pub sign : List ℕ
  pub digits : List ℕ
  pub is_mark : (mark ≡ 101) ⊎ (mark ≡ 69)
  pub is_sign : IsSign negative sign
  pub are_digits : AreDigits digits
  pub some : 0 < length digits
  pub all : text ≡ mark ∷ sign ++ digits
  pub is : exponent ≡ signed negative (value_of digits)

-- nothing, which is 0, or such an exponent
abbrev pub IsExponent : List ℕ → ℤ → Type 0
IsExponent text exponent = ((text ≡ []) × (exponent ≡ pos 0)) ⊎ HasExponent text exponent

-- nothing, or a point and the digits behind it
abbrev pub IsFraction : List ℕ → List ℕ → Type 0
IsFraction text digits = ((text ≡ []) × (digits ≡ [])) ⊎ (text ≡ codes "." ++ digits)

-- the bytes as a number: a sign, digits with or without a point, of which at least one, and an exponent
pub record Number (bytes : List ℕ) : Type 0 where
  pub negative : Bool
  pub sign : List ℕ
  pub whole : List ℕ
  pub behind : List ℕ
  pub fraction : List ℕ
  pub tail : List ℕ
  pub exponent : ℤ
  pub is_sign : IsSign negative sign
  pub whole_digits : AreDigits whole
  pub fraction_digits : AreDigits fraction
  pub is_fraction : IsFraction behind fraction
  pub some : 0 < length whole + length fraction
  pub is_exponent : IsExponent tail exponent
  pub all : bytes ≡ sign ++ whole ++ behind ++ tail

-- ---- how many units it is
-- a length in tenths of a millimetre
abbrev pub tenths_in : Length → ℕ
tenths_in Millimetre = 10
tenths_in Inch = 254

-- m times 10 ^ places, to the nearest whole number, halves up
abbrev pub rounded : ℕ → ℤ → ℕ
rounded m (pos n) = m * 10 ^ n
rounded m (negsuc n) = (2 * m + 10 ^ (n + 1)) / (2 * 10 ^ (n + 1))

-- the size of the number of such lengths in units, 10 ^ decimals to a millimetre
abbrev pub magnitude_of : ℕ → Length → {bytes : List ℕ} → Number bytes → ℕ
magnitude_of decimals unit n =
    rounded (tenths_in unit * value_of (n.whole ++ n.fraction)) (n.exponent +ℤ pos decimals -ℤ pos (length n.fraction) -ℤ pos 1)

-- the number in units, halves away from zero
abbrev pub units_of : ℕ → Length → {bytes : List ℕ} → Number bytes → ℤ
units_of decimals unit n = signed n.negative (magnitude_of decimals unit n)

-- ---- where bytes cease to be a number
-- some number begins with these bytes
abbrev pub BeginsNumber : List ℕ → Type 0
BeginsNumber bytes = (rest : List ℕ) × Number (bytes ++ rest)

-- the longest beginning of the bytes with which some number begins has this length
pub record IsLongestStart (bytes : List ℕ) (at : ℕ) : Type 0 where
  pub within : at ≤ length bytes
  pub begins : BeginsNumber (take at bytes)
  pub longest : (n : ℕ) → at < n → n ≤ length bytes → ¬ BeginsNumber (take n bytes)
