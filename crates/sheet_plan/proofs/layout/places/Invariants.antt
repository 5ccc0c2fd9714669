use Rattle.std.proofs.Common.{◌≡◌, ℕ, ◌*◌, ◌^◌, pos, ◌≤ℤ◌, length, take, Some, slice_get}
use Rattle.lattice.specs.Points.{of_dir}
use Rattle.sheet_plan.specs.Layout.{lower_strides, StandsInCell}
use Rattle.sheet_plan.specs.declared.bounds.Extent.{Extent}
use Rattle.sheet_plan.specs.declared.cells.Shape.{Shape}
use Rattle.sheet_plan.specs.declared.sheet.Spread.{Spread}
use Rattle.sheet_plan.proofs.layout.places.Given as goal

-- the views so far stand in their places
abbrev pub invariant-loop-i : goal.invariant-loop-i
invariant-loop-i l = record {
  count : length l.places.items ≡ l.i;
  taken : l.taken ≡ lower_strides (take l.i l.shapes);
  least : pos 0 ≤ℤ l.taken;
  greatest : l.taken ≤ℤ pos (l.i * 2 ^ 47);
  direction : (j : ℕ) (e : Extent) (p : Spread) → slice_get l.extents j ≡ Some e → slice_get l.places.items j ≡ Some p → of_dir p.d ≡ of_dir e.d;
  each : (j : ℕ) (s : Shape) (p : Spread) → slice_get l.shapes j ≡ Some s → slice_get l.places.items j ≡ Some p → StandsInCell l.shapes j s p;
}
