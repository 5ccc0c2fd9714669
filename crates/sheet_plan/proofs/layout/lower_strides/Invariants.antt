use Rattle.std.proofs.Common.{◌≡◌, ◌*◌, ◌^◌, drop, pos, ◌+ℤ◌, ◌≤ℤ◌}
use Rattle.sheet_plan.specs.Layout.{total, lower_part_of}
use Rattle.sheet_plan.proofs.layout.lower_strides.Given as goal

-- the sum so far, and what is left
abbrev pub invariant-loop-shape : goal.invariant-loop-shape
invariant-loop-shape l = record {
  value : l.sum +ℤ total lower_part_of (drop l.shape-index l.shapes) ≡ total lower_part_of l.shapes;
  least : pos 0 ≤ℤ l.sum;
  greatest : l.sum ≤ℤ pos (l.shape-index * 2 ^ 47);
}
