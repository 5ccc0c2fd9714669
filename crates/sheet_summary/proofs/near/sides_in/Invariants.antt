use Rattle.std.proofs.Common.{◌≡◌, ◌++◌, All, drop}
use Rattle.near_lines.specs.Sides.{IsSmall}
use Rattle.sheet_summary.specs.NearLines.{sides_from}
use Rattle.sheet_summary.proofs.near.sides_in.Given as goal

-- the sides so far, and then those of what is left
abbrev pub invariant-loop-number : goal.invariant-loop-number
invariant-loop-number l = record {
  all : l.sides.items ++ sides_from l.view l.number (drop l.number l.items) ≡ sides_from l.view 0 l.items;
  small : All IsSmall l.sides.items;
}
