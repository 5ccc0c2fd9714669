-- How a number is read: byte after byte, and then part after part.
use Rattle.std.specs.Prelude.{◌≡◌, ◌⊎◌, ℕ, ◌+◌, ◌-◌, ◌*◌, ◌/◌, ◌^◌, ◌<◌, ◌≤◌, Bool, true, false, ◌||◌, ◌==◌, if◌then◌else◌, ℤ, List, [], ◌∷◌, ◌++◌, length, take, drop, Option, Some, None, MatchOption}
use Rattle.std.specs.Char.{is_ascii_digit}
use Rattle.dec_text.specs.Numbers.{AreDigits, value_of, signed, IsExponent, IsFraction}
use Rattle.dec_text.specs.declared.number.Kind.{Kind}
use Rattle.dec_text.specs.declared.number.Kind.TheVariants.{Digit, Point, Mark, Sign, Other}
use Rattle.dec_text.specs.declared.number.State.{State}
use Rattle.dec_text.specs.declared.number.State.TheVariants.{Start, Signed, Whole, Pointed, Fraction, Marked, MarkSigned, Powered}
use Rattle.dec_text.specs.declared.number.Exponent.{Exponent}

-- ---- byte after byte
abbrev pub byte_kind : ℕ → Kind
byte_kind byte =
    if is_ascii_digit byte
    then Digit
    else (if byte == 46 then Point else (if byte == 69 || byte == 101 then Mark else (if byte == 43 || byte == 45 then Sign else Other)))

abbrev pub step : State → Kind → Option State
step Start Digit = Some Whole
step Start Sign = Some Signed
step Start Point = Some Pointed
step Signed Digit = Some Whole
step Signed Point = Some Pointed
step Whole Digit = Some Whole
step Whole Point = Some Fraction
step Whole Mark = Some Marked
step Pointed Digit = Some Fraction
step Fraction Digit = Some Fraction
step Fraction Mark = Some Marked
step Marked Digit = Some Powered
step Marked Sign = Some MarkSigned
step MarkSigned Digit = Some Powered
step Powered Digit = Some Powered
step _ _ = None

-- a number may end here
abbrev pub may_end : State → Bool
may_end Whole = true
may_end Fraction = true
may_end Powered = true
may_end _ = false

-- ---- part after part
abbrev pub is_minus : List ℕ → Bool
is_minus [] = false
is_minus (byte ∷ behind) = byte == 45

abbrev pub behind_sign : List ℕ → List ℕ
behind_sign [] = []
behind_sign (byte ∷ behind) = if byte == 43 || byte == 45 then behind else byte ∷ behind

-- no digit comes first
abbrev pub IsDigitEnd : List ℕ → Type 0
IsDigitEnd [] = Unit {0}
IsDigitEnd (byte ∷ behind) = is_ascii_digit byte ≡ false

-- a point and digits, or nothing, and an exponent, or nothing
pub record HasFraction (text fraction tail : List ℕ) : Type 0 where
  pub behind : List ℕ
  pub exponent : ℤ
  pub is_fraction : IsFraction behind fraction
  pub are_digits : AreDigits fraction
  pub is_exponent : IsExponent tail exponent
  pub all : text ≡ behind ++ tail

-- the value as it is, or both are large
abbrev pub IsHeld : ℕ → ℕ → Type 0
IsHeld value held = (held ≡ value) ⊎ ((2 ^ 26 ≤ value) × (2 ^ 26 ≤ held))

-- an exponent whose size is held
pub record IsHeldExponent (exponent : ℤ) (held : Exponent) : Type 0 where
  pub size : ℕ
  pub is : exponent ≡ signed held.negative size
  pub is_held : IsHeld size held.size

-- ---- tenths of a unit
-- how many digits there are down to the units, from the first one on
abbrev pub count_of : ℕ → ℕ → Bool → ℕ → ℕ
count_of whole decimals true size = whole + decimals - size
count_of whole decimals false size = whole + decimals + size

-- how many zeros there are below the units before the first digit
abbrev pub lead_of : ℕ → ℕ → Bool → ℕ → ℕ
lead_of whole decimals true size = size - (whole + decimals)
lead_of whole decimals false size = 0

-- what the first digits stand for, with zeros behind where there are fewer
abbrev pub front_of : List ℕ → ℕ → ℕ
front_of digits count = value_of (take count digits) * 10 ^ (count - length digits)

-- how many whole ones the digits behind them are, with zeros before, each times a factor
abbrev pub rest_of : ℕ → List ℕ → ℕ → ℕ → ℕ
rest_of factor digits count lead = (factor * value_of (drop count digits)) / 10 ^ (length digits - count + lead)

abbrev pub tenths_of : ℕ → List ℕ → ℕ → ℕ → ℕ
tenths_of factor digits count lead = factor * front_of digits count + rest_of factor digits count lead

-- the value, where it is below 10 ^ 8
abbrev pub IsBelowEnd : ℕ → Option ℕ → Type 0
IsBelowEnd value result = MatchOption result (10 ^ 8 ≤ value) (λ n. (n ≡ value) × (value < 10 ^ 8))
