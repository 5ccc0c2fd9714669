-- Lengths by the unit that a sheet says them in.
use Rattle.std.specs.Prelude.{ℕ, ℤ, List}
use Rattle.dec_text.specs.declared.number.Length.{Length}
use Rattle.dec_text.specs.declared.number.Length.TheVariants.{Millimetre, Inch}
use Rattle.length_text.specs.Inches.{inch_text}
use Rattle.length_text.specs.Lengths.{mm_text}

-- so many units of 10^-decimals mm, in this unit
abbrev pub length_text : ℕ → Length → ℤ → List ℕ
length_text decimals Millimetre units = mm_text decimals units
length_text decimals Inch units = inch_text decimals units
