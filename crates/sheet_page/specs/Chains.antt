-- Where chain lines begin in their pattern. Lengths are in thousandths of a millimetre, where nothing else is said.
use Rattle.std.specs.Prelude.{ℕ, ◌+◌, ◌-◌, ◌*◌, ◌/◌, ◌%◌, ℤ, pos, ◌*ℤ◌, unsigned_abs, int_le, if◌then◌else◌, List, [], ◌∷◌, codes}
use Rattle.std.specs.Fmt.{decimal}
use Rattle.std.specs.Int.{int_rem_euclid}
use Rattle.std.specs.Ordering.{int_eq}
use Rattle.sheet_page.specs.Pens.{narrow_of}
use Rattle.sheet_page.specs.declared.pens.Pens.{Pens}
use Rattle.stroke_paths.specs.declared.path.Point.{Point}
use Rattle.svg_page.specs.Texts.{◌⊕◌}

-- the pattern is a dash of 24 widths, a gap of 3, a dot of half a width and a gap of 3; a width is in hundredths of a millimetre
abbrev pub chain_dash : Pens → ℕ
chain_dash pens = 240 * narrow_of pens

abbrev pub chain_gap : Pens → ℕ
chain_gap pens = 30 * narrow_of pens

abbrev pub chain_dot : Pens → ℕ
chain_dot pens = 5 * narrow_of pens

abbrev pub period : Pens → ℕ
period pens = 305 * narrow_of pens

-- thousandths as hundredths of a millimetre, with one decimal
abbrev pub with_tenth : ℕ → List ℕ
with_tenth n = decimal (n / 10) ⊕ codes "." ⊕ decimal (n % 10)

-- the pattern, as it is written
abbrev pub pattern : Pens → List ℕ
pattern pens =
    with_tenth (chain_dash pens) ⊕ codes " " ⊕ with_tenth (chain_gap pens) ⊕ codes " " ⊕ with_tenth (chain_dot pens) ⊕ codes " " ⊕ with_tenth (chain_gap pens)

-- how far a place in hundredths is beyond a whole multiple of the pattern
abbrev pub beyond : Pens → ℤ → ℕ
beyond pens place = unsigned_abs (int_rem_euclid (pos 10 *ℤ place) (pos (period pens)))

-- how far into its pattern a line begins that goes along an axis from one place toward another: so that dashes are at the same places
-- whichever way it goes and wherever it begins, and chain lines that cover one another look like one
abbrev pub phase : Pens → ℤ → ℤ → ℕ
phase pens from to = if int_le from to then beyond pens from else (chain_dash pens + period pens - beyond pens from) % period pens

-- that of a line from one point to another; traces are level or upright
abbrev pub phase_between : Pens → Point → Point → ℕ
phase_between pens p q = if int_eq p.x q.x then phase pens p.y q.y else phase pens p.x q.x

-- that of a path, by its first line
abbrev pub phase_of : Pens → List Point → ℕ
phase_of pens [] = 0
phase_of pens (p ∷ []) = 0
phase_of pens (p ∷ q ∷ rest) = phase_between pens p q
