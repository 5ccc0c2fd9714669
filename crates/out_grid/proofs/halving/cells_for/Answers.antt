use Rattle.std.proofs.Common.{◌≡◌, ℕ, ◌+◌, ◌/◌, List, length, refl, ap, subst, ◌∙◌, arith}
use Rattle.lattice.specs.Points.{of_dir}
use Rattle.solid_mesh.specs.Solids.{solid_part}
use Rattle.solid_mesh.proofs.Facts.{few_corners, few_triangles}
use Rattle.out_grid.specs.inner.Places.{raster_of}
use Rattle.out_grid.specs.inner.Triangles.{AreHalved, AreRoomy}
use Rattle.out_grid.specs.declared.meter.NearMeter.{NearMeter}
use Rattle.out_grid.proofs.BoxSizes.{roomy_in_one, left_first, left_within, left_more, left_looked, fewer_cells}
use Rattle.out_grid.proofs.NearCells.{cells_of_raster, cells_halved}
use Rattle.out_grid.proofs.halving.cells_for.Goals as goal
use Rattle.out_grid.proofs.halving.cells_for.Goals.{then-loop-columns-test+else-are_crowded, else-loop-columns-test}

pub loop-columns-init : goal.loop-columns-init
loop-columns-init c = record {
  some = c.columns_for-columns.ensures.some;
  few = c.columns_for-columns.ensures.few;
  cells = cells_of_raster (of_dir c.args.d.now) (solid_part c.args.solid.now) c.columns_for-columns.result (raster_of c.raster_over-raster.result) c.raster_over-raster.ensures
      c.in_ok-cells.cells.items c.in_ok-cells.ensures.right c.in_ok-cells.ensures.for_each c.in_ok-cells.ensures.within;
  square = c.columns_for-columns.ensures.square;
  left = left_first c.columns_for-columns.result (c.args.meter.now.steps + c.len.result) (c.args.meter.now.steps + length (solid_part c.args.solid.now).corners)
      (length (solid_part c.args.solid.now).corners + length (solid_part c.args.solid.now).triangles) c.columns_for-columns.ensures.few
      (omega (arith, c.len.ensures, c.in_ok-cells.cells.ok.0, c.in_ok-cells.ensures.for_each));
  each = omega (arith, c.len.ensures, c.in_ok-cells.cells.ok.0, c.in_ok-cells.ensures.for_each);
}

pub are_crowded-requires-clause-room : goal.are_crowded-requires-clause-room
are_crowded-requires-clause-room c =
    let solid = c.args.solid.now in
    let corners = length (solid_part solid).corners in
    let triangles = length (solid_part solid).triangles in
    let within = left_within c.loop-columns.columns c.loop-columns.meter.steps (c.args.meter.now.steps + corners) (corners + triangles) c.loop-columns.invariant.left in
    omega (arith, within, c.requires.room, few_corners solid, few_triangles solid)

pub halved-requires-clause-room : goal.halved-requires-clause-room
halved-requires-clause-room c =
    let solid = c.args.solid.now in
    let corners = length (solid_part solid).corners in
    let triangles = length (solid_part solid).triangles in
    let within = left_within c.loop-columns.columns c.loop-columns.meter.steps (c.args.meter.now.steps + corners) (corners + triangles) c.loop-columns.invariant.left in
    let long : length c.deref-in-loop-columns.result.now ≡ corners = ap (length {A = ℕ}) c.deref-in-loop-columns.ensures.value ∙ c.loop-columns.invariant.cells.for_each in
    omega (arith, within, long, c.are_crowded.ensures.counted, c.requires.room, few_corners solid, few_triangles solid)

pub loop-columns-preserved : goal.loop-columns-preserved
loop-columns-preserved c =
    let n = c.loop-columns.columns in
    let h = c.loop-columns.invariant in
    let corners = length (solid_part c.args.solid.now).corners in
    let triangles = length (solid_part c.args.solid.now).triangles in
    let long : length c.deref-in-loop-columns.result.now ≡ corners = ap (length {A = ℕ}) c.deref-in-loop-columns.ensures.value ∙ h.cells.for_each in
    let halved = subst (λ (xs : List ℕ). AreHalved n xs c.in_ok-cells-2.cells.items) c.deref-in-loop-columns.ensures.value c.in_ok-cells-2.ensures.halved in
    record {
      some = omega (arith, c.loop-columns-test.true);
      few = omega (arith, h.few);
      cells = cells_halved n h.some (of_dir c.args.d.now) (solid_part c.args.solid.now) c.loop-columns.cells.items c.in_ok-cells-2.cells.items h.cells halved;
      square = fewer_cells n triangles h.some h.square;
      left = left_more n c.loop-columns.meter.steps (c.args.meter.now.steps + corners) (corners + triangles) h.left c.loop-columns-test.true ((n + 1) / 2) c.halved.new.meter.steps refl
          (omega (arith, c.in_ok-cells-2.ensures.counted, c.are_crowded.ensures.counted, long));
      each = omega (arith, h.each, c.are_crowded.ensures.counted, c.in_ok-cells-2.ensures.counted_on);
    }

pub returns-in_err-cells-2-clause-counted : goal.returns-in_err-cells-2-clause-counted
returns-in_err-cells-2-clause-counted c =
    let n = c.loop-columns.columns in
    let h = c.loop-columns.invariant in
    let corners = length (solid_part c.args.solid.now).corners in
    let triangles = length (solid_part c.args.solid.now).triangles in
    let long : length c.deref-in-loop-columns.result.now ≡ corners = ap (length {A = ℕ}) c.deref-in-loop-columns.ensures.value ∙ h.cells.for_each in
    let most = left_looked n c.loop-columns.meter.steps (c.args.meter.now.steps + corners) (corners + triangles) h.left c.loop-columns-test.true c.halved.new.meter.steps
    (omega (arith, c.in_err-cells-2.ensures.counted, c.are_crowded.ensures.counted, long)) in
    omega (arith, most)

pub returns-clause-roomy : goal.returns-clause-roomy
returns-clause-roomy c =
    let n = c.loop-columns.columns in
    let h = c.loop-columns.invariant in
    let cells = c.loop-columns.cells.items in
    let triangles = (solid_part c.args.solid.now).triangles in
    elim c.loop-columns-test.branch [
      | then-loop-columns-test+else-are_crowded w ↦ subst (λ (xs : List ℕ). AreRoomy n xs triangles) w.deref.ensures.value (w.are_crowded.ensures.roomy w.if-are_crowded.false)
      | else-loop-columns-test w ↦ roomy_in_one n cells triangles (omega (arith, h.some, w.loop-columns-test.false)) h.cells.within
    ]

pub returns-clause-counted : goal.returns-clause-counted
returns-clause-counted c =
    let n = c.loop-columns.columns in
    let h = c.loop-columns.invariant in
    let corners = length (solid_part c.args.solid.now).corners in
    let triangles = length (solid_part c.args.solid.now).triangles in
    elim c.loop-columns-test.branch [
      | then-loop-columns-test+else-are_crowded w ↦
          let most = left_looked n c.loop-columns.meter.steps (c.args.meter.now.steps + corners) (corners + triangles) h.left w.loop-columns-test.true w.are_crowded.new.meter.steps (omega (arith, w.are_crowded.ensures.counted)) in
          omega (arith, most, ap (λ (m : NearMeter). m.steps) w.meter-is)
      | else-loop-columns-test w ↦
          let most = left_within n c.loop-columns.meter.steps (c.args.meter.now.steps + corners) (corners + triangles) h.left in
          omega (arith, most, ap (λ (m : NearMeter). m.steps) w.meter-is)
    ]

pub returns-clause-counted_each : goal.returns-clause-counted_each
returns-clause-counted_each c =
    let h = c.loop-columns.invariant in
    elim c.loop-columns-test.branch [
      | then-loop-columns-test+else-are_crowded w ↦ omega (arith, h.each, w.are_crowded.ensures.counted, ap (λ (m : NearMeter). m.steps) w.meter-is)
      | else-loop-columns-test w ↦ omega (arith, h.each, ap (λ (m : NearMeter). m.steps) w.meter-is)
    ]
