use Rattle.std.proofs.Common.{ℕ, ◌≤◌, ◌<◌, length, map, take, get_or}
use Rattle.lattice.specs.Points.{of_dir}
use Rattle.line_merge.specs.declared.numbering.Listed.{Listed}
use Rattle.line_merge.specs.inner.Numbering.{listed_strip}
use Rattle.line_merge.specs.inner.Pieces.{AreUpToLine}
use Rattle.line_merge.proofs.by_line.take_listed.Given as goal

-- the strips so far are taken, and none that is left is on an earlier line
abbrev pub invariant-loop-x : goal.invariant-loop-x
invariant-loop-x l = AreUpToLine (of_dir l.d) (take l.x-index (map listed_strip l.listed)) l.lines.pieces.items l.lines.here.items l.lines.line
    × ((j : ℕ) (e : Listed) → l.x-index ≤ j → j < length l.listed → l.lines.line ≤ (get_or l.listed j e).line)
