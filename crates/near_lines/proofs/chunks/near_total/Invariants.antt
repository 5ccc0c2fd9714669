use Rattle.std.proofs.Common.{◌≡◌, ◌+◌, ◌*◌, ◌≤◌, ◌^◌, drop, map}
use Rattle.std.specs.Prelude.{sum}
use Rattle.near_lines.specs.Near.{near_length, near_total}
use Rattle.near_lines.proofs.chunks.near_total.Given as goal

-- the length so far and that of the sides that are left are the whole length
abbrev pub invariant-loop-side : goal.invariant-loop-side
invariant-loop-side l = record {
  all : l.total + sum (map (near_length l.d l.fn.sides) (drop l.side-index l.sides)) ≡ near_total l.d l.fn.sides;
  below : l.total ≤ 2 ^ 43 * l.side-index;
}
