use Rattle.std.proofs.Common.{ℕ, ◌≤◌, ◌<◌, List, length, map, take, get_or}
use Rattle.std.specs.List.{All}
use Rattle.lattice.specs.Points.{of_dir}
use Rattle.lattice.specs.declared.lines.Line.{Line}
use Rattle.line_merge.specs.Taken.{last_line}
use Rattle.view_lines.specs.declared.sources.Placed.{Placed}
use Rattle.view_lines.specs.inner.Sources.{origin_of, IsPlaced, AreTakenOf}
use Rattle.view_lines.proofs.merged.take_by_line.Given as goal

-- the strips so far are taken, and none that is left is on an earlier line
abbrev pub invariant-loop-x : goal.invariant-loop-x
invariant-loop-x l =
    (table : List Line) × All (IsPlaced (of_dir l.d) l.solid table) l.placed × AreTakenOf (of_dir l.d) l.solid table (map (λ x. origin_of x.source) (take l.x-index l.placed)) l.lines
    × ((j : ℕ) (e : Placed) → l.x-index ≤ j → j < length l.placed → last_line l.lines ≤ (get_or l.placed j e).line)
