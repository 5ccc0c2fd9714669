-- Lengths in inches, with four decimals.
use Rattle.std.specs.Prelude.{ℕ, ◌*◌, ◌/◌, ◌%◌, ◌^◌, ◌≤◌, ℤ, pos, negsuc, suc, ◌+ℤ◌, ◌-ℤ◌, ◌*ℤ◌, unsigned_abs, List, codes}
use Rattle.std.specs.Fmt.{decimal}
use Rattle.integers.specs.Floors.{floor_of}
use Rattle.svg_page.specs.Texts.{◌⊕◌}

-- an inch is 25.4 mm: so many tenths of a unit of 10^-decimals mm
abbrev pub inch_units : ℕ → ℕ
inch_units decimals = 254 * 10 ^ decimals

-- so many units in ten-thousandths of an inch, rounded half up
abbrev pub half_up : ℕ → ℤ → ℤ
half_up inch units = floor_of ((pos 200000 *ℤ units) +ℤ pos inch) (pos (2 * inch))

abbrev pub inch_parts : ℕ → ℤ → ℤ
inch_parts decimals units = half_up (inch_units decimals) units

-- so many ten-thousandths of an inch are no farther from so many units than half of one: a unit is 100,000 / (254 * 10^decimals) of them
abbrev pub IsNearest : ℕ → ℤ → ℤ → Type 0
IsNearest decimals units parts = 2 * unsigned_abs ((pos (inch_units decimals) *ℤ parts) -ℤ (pos 100000 *ℤ units)) ≤ inch_units decimals

-- the point and the four digits behind it
abbrev pub tail_text : ℕ → List ℕ
tail_text n = codes "." ⊕ decimal (n / 1000 % 10) ⊕ decimal (n / 100 % 10) ⊕ decimal (n / 10 % 10) ⊕ decimal (n % 10)

-- so many ten-thousandths
abbrev pub parts_text : ℤ → List ℕ
parts_text (pos n) = decimal (n / 10000) ⊕ tail_text n
parts_text (negsuc n) = codes "-" ⊕ decimal (suc n / 10000) ⊕ tail_text (suc n)

-- so many units of 10^-decimals mm, in inches
abbrev pub inch_text : ℕ → ℤ → List ℕ
inch_text decimals units = parts_text (inch_parts decimals units)
