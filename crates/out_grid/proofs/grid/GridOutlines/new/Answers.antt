use Rattle.std.proofs.Common.{ℕ, List, Vec, Global, length, sym, subst, ap, arith}
use Rattle.lattice.specs.Points.{of_dir}
use Rattle.solid_mesh.specs.Solids.{solid_part, edge_halves}
use Rattle.solid_mesh.specs.Stars.{lists_of}
use Rattle.edge_pick.proofs.PickedSizes.{few_outlines}
use Rattle.out_grid.specs.inner.Lists.{AreHeld}
use Rattle.out_grid.specs.inner.Places.{raster_of}
use Rattle.out_grid.proofs.CellBounds.{put_within, all_within}
use Rattle.out_grid.proofs.Laws.{law_of_solid}
use Rattle.out_grid.proofs.Making.{is_grid}
use Rattle.out_grid.proofs.grid.GridOutlines.new.Goals as goal

pub put_outlines-requires-clause-few_outlines : goal.put_outlines-requires-clause-few_outlines
put_outlines-requires-clause-few_outlines c =
    let long = ap (length {A = ℕ}) c.deref.ensures.value in
    omega (arith, long, few_outlines c.args.solid.now c.args.picked.now (of_dir c.args.d.now, (c.requires.picked).0, (c.requires.picked).1))

pub returns-in_err-put_outlines-clause-counted : goal.returns-in_err-put_outlines-clause-counted
returns-in_err-put_outlines-clause-counted c bound h =
    put_within (of_dir c.args.d.now) (solid_part c.args.solid.now) (edge_halves c.args.solid.now) c.args.picked.now c.args.columns (raster_of c.raster_over-raster.result)
    c.raster_over-raster.ensures c.deref.result.now c.deref.ensures.value c.args.meter.now.cells c.put_outlines.new.meter.cells bound c.put_outlines.ensures.counted h

pub lists_along-requires-clause-held : goal.lists_along-requires-clause-held
lists_along-requires-clause-held c =
    let d = of_dir c.args.d.now in
    let s = solid_part c.args.solid.now in
    let halves = edge_halves c.args.solid.now in
    let r = raster_of c.raster_over-raster.result in
    let held = subst (λ (outlines : List ℕ). AreHeld d r s halves outlines c.args.columns (lists_of c.put_outlines.new.cells.items)) c.deref.ensures.value c.in_ok-put_outlines.ensures.held in
    subst (λ (cells : List (Vec ℕ Global)). AreHeld d r s halves c.args.picked.now.outlines.items c.args.columns (lists_of cells)) (sym c.deref-2.ensures.value) held

pub lists_along-requires-clause-room : goal.lists_along-requires-clause-room
lists_along-requires-clause-room c =
    let long = ap (length {A = ℕ}) c.deref.ensures.value in
    let few = few_outlines c.args.solid.now c.args.picked.now (of_dir c.args.d.now, (c.requires.picked).0, (c.requires.picked).1) in
    omega (arith, long, few, c.put_outlines.ensures.size, c.requires.room)

pub returns-in_err-lists-clause-counted : goal.returns-in_err-lists-clause-counted
returns-in_err-lists-clause-counted c bound h =
    all_within (of_dir c.args.d.now) (solid_part c.args.solid.now) (edge_halves c.args.solid.now) c.args.picked.now c.args.columns (raster_of c.raster_over-raster.result)
    c.raster_over-raster.ensures c.deref.result.now c.deref.ensures.value c.args.meter.now.cells c.put_outlines.new.meter.cells bound c.put_outlines.ensures.counted h c.lists_along.new.meter.cells
    c.lists_along.ensures.counted

pub returns-clause-grid : goal.returns-clause-grid
returns-clause-grid c =
    let d = of_dir c.args.d.now in
    let s = solid_part c.args.solid.now in
    let halves = edge_halves c.args.solid.now in
    let r = raster_of c.raster_over-raster.result in
    let held = subst (λ (outlines : List ℕ). AreHeld d r s halves outlines c.args.columns (lists_of c.put_outlines.new.cells.items)) c.deref.ensures.value c.in_ok-put_outlines.ensures.held in
    is_grid d s halves c.args.picked.now _ r c.raster_over-raster.ensures held c.in_ok-corner_cells.ensures.for_each c.in_ok-corner_cells.ensures.right c.in_ok-lists.ensures.along
    c.in_ok-lists.ensures.others

pub returns-clause-law : goal.returns-clause-law
returns-clause-law c tests = law_of_solid (of_dir c.args.d.now) c.args.solid.now c.args.picked.now c.args.columns _ (returns-clause-grid c) c.in_ok-triangles.ensures.near tests

pub returns-clause-counted : goal.returns-clause-counted
returns-clause-counted c bound h =
    all_within (of_dir c.args.d.now) (solid_part c.args.solid.now) (edge_halves c.args.solid.now) c.args.picked.now c.args.columns (raster_of c.raster_over-raster.result)
    c.raster_over-raster.ensures c.deref.result.now c.deref.ensures.value c.args.meter.now.cells c.put_outlines.new.meter.cells bound c.put_outlines.ensures.counted h c.lists_along.new.meter.cells
    c.lists_along.ensures.counted

pub returns-clause-counted_each : goal.returns-clause-counted_each
returns-clause-counted_each c =
    let long = ap (length {A = ℕ}) c.deref.ensures.value in
    omega (arith, long, c.in_ok-put_outlines.ensures.counted_each, c.in_ok-lists.ensures.counted_each)
