-- The letters of cuts.
use Rattle.std.specs.Prelude.{◌≡◌, ℕ, List, Some, slice_get, codes}

-- the cut with this number, from 0, has this letter; I, which may be read as a 1, is none
abbrev pub letters : List ℕ
letters = codes "ABCDEFGHJKLM"

abbrev pub IsLetterOf : ℕ → ℕ → Type 0
IsLetterOf number letter = slice_get letters number ≡ Some letter
