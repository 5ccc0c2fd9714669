-- Lines by numbers, and strips with the numbers of their lines.
use Rattle.std.specs.Prelude.{◌≡◌, ℕ, List, map, IsPermutation}
use Rattle.std.specs.List.Sorted.{IsNonDecreasingBy}
use Rattle.lattice.specs.declared.lines.Line.{Line}
use Rattle.lattice.specs.declared.pieces.Strip.{Strip}
use Rattle.line_merge.specs.declared.numbering.Listed.{Listed}
use Rattle.line_merge.specs.declared.numbering.Numbered.{Numbered}
use Rattle.line_merge.specs.Numbers.{IsNumbering}

abbrev pub numbered_by : (Line → ℕ) → Strip → Numbered
numbered_by number x = record { strip = x; line = number x.line }

-- each strip stands in its place with the number of its line
pub record AreNumbered (strips : List Strip) (numbered : List Numbered) : Type 0 where
  pub number : Line → ℕ
  pub numbering : IsNumbering strips number
  pub same : numbered ≡ map (numbered_by number) strips

-- the strip itself, with the number of its line
abbrev pub listed_strip : Listed → Numbered
listed_strip x = record { strip = x.strip.now; line = x.line }

-- the strips, each with the number of its line, in the order of these numbers
pub record AreListedByLine (strips : List Strip) (listed : List Listed) : Type 0 where
  pub number : Line → ℕ
  pub numbering : IsNumbering strips number
  pub moves : IsPermutation (map (numbered_by number) strips) (map listed_strip listed)
  pub ascending : IsNonDecreasingBy (λ (x : Listed). x.line) listed
