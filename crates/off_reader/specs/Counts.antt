-- Counts: what runs of digits say.
use Rattle.std.specs.Prelude.{ℕ, ◌-◌, ◌^◌, Bool, true, false, not, ◌&&◌, if◌then◌else◌, min, List, [], ◌∷◌, Option, Some, None}
use Rattle.std.specs.List.{list_all}
use Rattle.std.specs.Char.{is_ascii_digit}
use Rattle.dec_text.specs.Numbers.{value_of}
use Rattle.weld.specs.declared.fault.PartKind.TheVariants.{BadNumber}
use Rattle.weld.specs.declared.fault.Want.{Want}
use Rattle.part_text.specs.Steps.{Step, StepGives, Fails, ◌then◌}
use Rattle.part_text.specs.Words.{text_of, NextToken}

abbrev pub is_blank : List ℕ → Bool
is_blank [] = true
is_blank (byte ∷ text) = false

-- what digits stand for; above the greatest number of 64 bits that number
abbrev pub count_of : List ℕ → Option ℕ
count_of text = if not (is_blank text) && list_all is_ascii_digit text then Some (min (value_of text) (2 ^ 64 - 1)) else None

-- a count, and its line
abbrev pub CountOf : Option ℕ → ℕ → Step (ℕ × ℕ)
CountOf (Some n) line = StepGives (n, line)
CountOf None line = Fails line BadNumber

abbrev pub Count : List ℕ → ℕ → Want → Step (ℕ × ℕ)
Count bytes end want = NextToken end want then λ t. CountOf (count_of (text_of bytes t)) t.line
