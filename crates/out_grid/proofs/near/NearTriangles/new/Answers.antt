use Rattle.std.proofs.Common.{ℕ, ◌*◌, ◌<◌, List, length, ap, subst, arith}
use Rattle.std.proofs.lemmas.Option.{slice_get_within, get_or_from_slice_get}
use Rattle.lattice.specs.Points.{of_dir}
use Rattle.solid_mesh.specs.Solids.{solid_part}
use Rattle.solid_mesh.specs.Stars.{lists_of}
use Rattle.solid_mesh.proofs.Facts.{few_corners, few_triangles}
use Rattle.out_grid.specs.inner.Triangles.{AreFilled, box_sizes}
use Rattle.out_grid.proofs.Filled.{cell_ascends, near_corner}
use Rattle.out_grid.proofs.near.NearTriangles.new.Goals as goal

pub invariant_of-result-clause-within : goal.invariant_of-result-clause-within
invariant_of-result-clause-within c number cell at =
    let n = c.in_ok-corners.corners.columns in
    let cells = c.in_ok-corners.corners.cells.items in
    let inside : cell < n * n = subst (λ (m : ℕ). m < n * n) (get_or_from_slice_get cells number cell cell at) (c.in_ok-corners.ensures.cells.within number cell (slice_get_within cells number cell at)) in
    omega (arith, inside, c.put_triangles.ensures.long, c.put_triangles.new.cells.ok.0)

pub invariant_of-result-clause-ascending : goal.invariant_of-result-clause-ascending
invariant_of-result-clause-ascending c =
    let s = solid_part c.args.solid.now in
    let n = c.in_ok-corners.corners.columns in
    let lists = lists_of c.put_triangles.new.cells.items in
    let filled = subst (λ (xs : List ℕ). AreFilled n xs s.triangles (length s.triangles) lists) c.deref.ensures.value c.in_ok-put_triangles.ensures.filled in
    cell_ascends (of_dir c.args.d.now) s n c.in_ok-corners.ensures.some c.in_ok-corners.corners.cells.items c.in_ok-corners.ensures.cells lists filled

pub returns-clause-near : goal.returns-clause-near
returns-clause-near c number corner f at beside =
    let s = solid_part c.args.solid.now in
    let n = c.in_ok-corners.corners.columns in
    let lists = lists_of c.put_triangles.new.cells.items in
    let filled = subst (λ (xs : List ℕ). AreFilled n xs s.triangles (length s.triangles) lists) c.deref.ensures.value c.in_ok-put_triangles.ensures.filled in
    near_corner (of_dir c.args.d.now) s n c.in_ok-corners.ensures.some c.in_ok-corners.corners.cells.items c.in_ok-corners.ensures.cells lists filled (length c.put_triangles.new.cells.items) number corner f at beside

pub put_triangles-requires-clause-room : goal.put_triangles-requires-clause-room
put_triangles-requires-clause-room c =
    let s = solid_part c.args.solid.now in
    let same = ap (λ (xs : List ℕ). box_sizes c.in_ok-corners.corners.columns xs s.triangles) c.deref.ensures.value in
    omega (arith, same, c.in_ok-corners.ensures.counted, c.in_ok-corners.ensures.fewer, c.in_ok-corners.ensures.roomy, c.requires.room, few_corners c.args.solid.now, few_triangles c.args.solid.now)

pub returns-in_err-put_triangles-clause-counted : goal.returns-in_err-put_triangles-clause-counted
returns-in_err-put_triangles-clause-counted c =
    let s = solid_part c.args.solid.now in
    let same = ap (λ (xs : List ℕ). box_sizes c.in_ok-corners.corners.columns xs s.triangles) c.deref.ensures.value in
    omega (arith, same, c.in_ok-corners.ensures.counted, c.in_ok-corners.ensures.fewer, c.in_ok-corners.ensures.roomy, c.put_triangles.ensures.counted)

pub returns-clause-counted : goal.returns-clause-counted
returns-clause-counted c =
    let s = solid_part c.args.solid.now in
    let same = ap (λ (xs : List ℕ). box_sizes c.in_ok-corners.corners.columns xs s.triangles) c.deref.ensures.value in
    omega (arith, same, c.in_ok-corners.ensures.counted, c.in_ok-corners.ensures.fewer, c.in_ok-corners.ensures.roomy, c.put_triangles.ensures.counted)

pub returns-clause-counted_each : goal.returns-clause-counted_each
returns-clause-counted_each c = omega (arith, c.in_ok-corners.ensures.counted_each, c.in_ok-put_triangles.ensures.counted_each)
