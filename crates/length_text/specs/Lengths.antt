-- Lengths in millimetres, as a line says them.
use Rattle.std.specs.Prelude.{ℕ, ◌/◌, ◌%◌, ◌^◌, ℤ, pos, negsuc, List, [], codes}
use Rattle.std.proofs.Common.{zero, suc}
use Rattle.std.specs.Fmt.{decimal}
use Rattle.svg_page.specs.Texts.{◌⊕◌}

-- the digits behind a point, without zeros at their end
abbrev pub digits : ℕ → ℕ → List ℕ
digits zero rest = []
digits (suc count) zero = []
digits (suc count) (suc less) = decimal (suc less / 10 ^ count) ⊕ digits count (suc less % 10 ^ count)

-- and their point, where there is one
abbrev pub behind_point : ℕ → ℕ → List ℕ
behind_point count zero = []
behind_point count (suc less) = codes "." ⊕ digits count (suc less)

-- so many units of 10^-decimals mm, in mm
abbrev pub whole_text : ℕ → ℕ → List ℕ
whole_text decimals units = decimal (units / 10 ^ decimals) ⊕ behind_point decimals (units % 10 ^ decimals)

abbrev pub mm_text : ℕ → ℤ → List ℕ
mm_text decimals (pos n) = whole_text decimals n
mm_text decimals (negsuc n) = codes "-" ⊕ whole_text decimals (suc n)
