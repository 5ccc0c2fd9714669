-- Lines by numbers: the number of a line is its place in a table that holds each line once.
use Rattle.std.specs.Prelude.{◌≡◌, ◌↔◌, ◌&&◌, ℕ, Bool, true, List, Contains}
use Rattle.std.specs.List.{list_any, position_or_len}
use Rattle.std.specs.Ordering.{int_eq}
use Rattle.lattice.specs.declared.lines.Line.{Line}
use Rattle.lattice.specs.declared.pieces.Strip.{Strip}
use Rattle.lattice.specs.Lines.{IsSameLine}

-- two strips have one number exactly where their lines are the same
abbrev pub IsNumbering : List Strip → (Line → ℕ) → Type 0
IsNumbering strips number = (x y : Strip) → Contains strips x → Contains strips y → (number x.line ≡ number y.line) ↔ IsSameLine x.line y.line

-- the test of two lines, number by number
abbrev pub same_line : Line → Line → Bool
same_line l m = int_eq l.a m.a && (int_eq l.b m.b && int_eq l.c m.c)

-- the place of the line in the table, or behind all of them
abbrev pub number_in : List Line → Line → ℕ
number_in table l = position_or_len (same_line l) table

-- a line of the table
abbrev pub IsIn : List Line → Line → Type 0
IsIn table l = list_any (same_line l) table ≡ true
