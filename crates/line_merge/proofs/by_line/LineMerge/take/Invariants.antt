use Rattle.std.proofs.Common.{ℕ, ◌≤◌, List, ◌++◌, take}
use Rattle.lattice.specs.Points.{of_dir}
use Rattle.lattice.specs.declared.lines.Line.{Line}
use Rattle.lattice.specs.declared.pieces.Strip.{Strip}
use Rattle.line_merge.specs.Taken.{AreTaken, MayBeTaken}
use Rattle.line_merge.proofs.by_line.LineMerge.take.Given as goal

-- the strips so far are taken
abbrev pub invariant-loop-strip : goal.invariant-loop-strip
invariant-loop-strip l =
    ((number : Line → ℕ) → (given : List Strip) → MayBeTaken (of_dir l.d) number given l.fn.self l.line l.strips → AreTaken (of_dir l.d) number (given ++ take l.strip-index l.strips) l.self)
    × (l.self.line ≤ l.line)
