use Rattle.std.proofs.Common.{◌≡◌, ◌++◌, drop}
use Rattle.std.specs.List.{All}
use Rattle.sheet_plan.specs.Layout.{shapes_of}
use Rattle.sheet_plan.specs.Numbers.{measure_of}
use Rattle.sheet_plan.specs.inner.Sizes.{IsSmall}
use Rattle.sheet_plan.proofs.shapes.shapes.Given as goal

-- the shapes so far and those of the views that are left are all shapes
abbrev pub invariant-loop-i : goal.invariant-loop-i
invariant-loop-i l = record {
  value : l.shapes.items ++ shapes_of l.third (measure_of l.ruler.scale l.ruler.decimals) (drop l.i l.views) (drop l.i l.extents)
      ≡ shapes_of l.third (measure_of l.ruler.scale l.ruler.decimals) l.views l.extents;
  small : All IsSmall l.shapes.items;
}
