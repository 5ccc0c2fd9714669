use Rattle.std.proofs.Common.{◌≡◌, drop}
use Rattle.std.specs.Int.{int_max}
use Rattle.sheet_plan.specs.Layout.{greatest, part_of}
use Rattle.sheet_plan.specs.inner.Sizes.{IsStride}
use Rattle.sheet_plan.proofs.layout.stride.Given as goal

-- the greatest so far, and what is left
abbrev pub invariant-loop-shape : goal.invariant-loop-shape
invariant-loop-shape l = record {
  value : int_max l.greatest (greatest (part_of l.band) (drop l.shape-index l.shapes)) ≡ greatest (part_of l.band) l.shapes;
  size : IsStride l.greatest;
}
