-- Strips that are taken line by line, in the order of the numbers of their lines.
use Rattle.std.specs.Prelude.{◌≡◌, ◌≤◌, ℕ, List, All, map}
use Rattle.lattice.specs.declared.lines.Line.{Line}
use Rattle.lattice.specs.declared.pieces.Strip.{Strip}
use Rattle.lattice.specs.Triple.{Triple}
use Rattle.line_merge.specs.declared.by_line.LineMerge.{LineMerge}
use Rattle.line_merge.specs.Merging.{AreStrips}
use Rattle.line_merge.specs.inner.Numbering.{numbered_by}
use Rattle.line_merge.specs.inner.Pieces.{AreUpToLine}

-- these strips were taken, by these numbers of their lines, and each is on its line and no dot
pub record AreTaken (d : Triple) (number : Line → ℕ) (given : List Strip) (lines : LineMerge) : Type 0 where
  pub ends : AreStrips d given
  pub up_to : AreUpToLine d (map (numbered_by number) given) lines.pieces.items lines.here.items lines.line

-- the number of the last line from which strips were taken, or 0
abbrev pub last_line : LineMerge → ℕ
last_line lines = lines.line

-- after those that were taken these strips may be: all are on the line with this number, which comes after no other
pub record MayBeTaken (d : Triple) (number : Line → ℕ) (given : List Strip) (lines : LineMerge) (line : ℕ) (strips : List Strip) : Type 0 where
  pub taken : AreTaken d number given lines
  pub ends : AreStrips d strips
  pub on_line : All (λ x. number x.line ≡ line) strips
  pub later : last_line lines ≤ line
