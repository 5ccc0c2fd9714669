use Rattle.std.proofs.Common.{◌≡◌, ◌*◌, ◌^◌, pos, ◌≤ℤ◌}
use Rattle.sheet_plan.specs.Layout.{sum_below}
use Rattle.sheet_plan.specs.inner.Strides.{stride_in}
use Rattle.sheet_plan.proofs.layout.strides_before.Given as goal

-- the sum so far
abbrev pub invariant-loop-number : goal.invariant-loop-number
invariant-loop-number l = record {
  value : l.sum ≡ sum_below (stride_in l.bands l.shapes) l.number;
  least : pos 0 ≤ℤ l.sum;
  greatest : l.sum ≤ℤ pos (l.number * 2 ^ 47);
}
