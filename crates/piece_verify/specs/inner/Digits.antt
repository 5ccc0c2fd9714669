-- Digits as they are read, one after the other.
use Rattle.std.specs.Prelude.{ℕ, ◌+◌, ◌*◌, ◌-◌, ◌^◌, cond, ◌&&◌, nat_lt, List, [], ◌∷◌, Option, Some, None}
use Rattle.std.specs.Option.{option_and_then}
use Rattle.std.specs.Char.{is_ascii_digit}

-- a value with one more digit, where it stays below 2 ^ 104
abbrev pub with_digit : ℕ → ℕ → Option ℕ
with_digit byte value = cond (is_ascii_digit byte && nat_lt (10 * value + (byte - 48)) (2 ^ 104)) (Some (10 * value + (byte - 48))) None

-- a value with all these digits
abbrev pub read_on : List ℕ → ℕ → Option ℕ
read_on [] value = Some value
read_on (byte ∷ bytes) value = option_and_then (read_on bytes) (with_digit byte value)
