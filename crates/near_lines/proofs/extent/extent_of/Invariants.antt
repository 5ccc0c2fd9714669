use Rattle.std.proofs.Common.{◌≡◌, drop}
use Rattle.std.specs.Prelude.{fold}
use Rattle.near_lines.specs.Scales.{extent_of, widened}
use Rattle.near_lines.proofs.extent.extent_of.Given as goal

-- with the sides that are left it is the box of all
abbrev pub invariant-loop-side : goal.invariant-loop-side
invariant-loop-side l = fold widened l.extent (drop l.side-index l.sides) ≡ extent_of l.sides
