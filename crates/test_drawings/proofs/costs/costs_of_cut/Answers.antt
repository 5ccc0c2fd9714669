use Rattle.std.proofs.Common.{ℕ, ◌≡◌, ◌+◌, ◌<◌, ◌^◌, ◌∙◌, sym, subst, arith}
use Rattle.lattice.specs.Creases.{fraction_of}
use Rattle.lattice.specs.Cuts.{Plane, plane_of, toward_of}
use Rattle.lattice.specs.Triple.{Triple}
use Rattle.cut_plane.specs.Loops.{AreBorders}
use Rattle.edge_pick.specs.Picked.{IsPicked}
use Rattle.out_grid.specs.Grids.{along_list, over_list, is_listed_near}
use Rattle.solid_mesh.specs.Solids.{solid_part, edge_halves}
use Rattle.span_count.specs.Finders.{IsFinder}
use Rattle.test_drawings.proofs.costs.costs_of_cut.Goals as goal

small_bound : (n m : ℕ) → n ≡ m → m < 2 ^ 48 → 0 + n < 2 ^ 64
small_bound n m is small = omega arith

pub cut_bound-most_tests-requires-clause-picked : goal.cut_bound-most_tests-requires-clause-picked
cut_bound-most_tests-requires-clause-picked c =
    let solid = c.args.solid.now in
    (fraction_of c.args.crease, subst (λ (v : Triple). IsPicked v (fraction_of c.args.crease) (solid_part solid) (edge_halves solid) c.in_ok-picked.picked) c.dir-d.ensures c.in_ok-picked.ensures)

pub cut_bound-most_tests-requires-clause-borders : goal.cut_bound-most_tests-requires-clause-borders
cut_bound-most_tests-requires-clause-borders c =
    let section = c.in_ok-section.section in
    subst (λ (p : Plane). AreBorders p (solid_part c.args.solid.now) section.segments.items section.loops.items) (sym c.in_ok-section.ensures.cut) c.in_ok-section.ensures.borders

pub spans_cut-requires-clause-borders : goal.spans_cut-requires-clause-borders
spans_cut-requires-clause-borders c =
    let section = c.in_ok-section.section in
    subst (λ (p : Plane). AreBorders p (solid_part c.args.solid.now) section.segments.items section.loops.items) (sym c.in_ok-section.ensures.cut) c.in_ok-section.ensures.borders

pub spans_cut-requires-clause-picked : goal.spans_cut-requires-clause-picked
spans_cut-requires-clause-picked c =
    let solid = c.args.solid.now in
    (fraction_of c.args.crease, subst (λ (v : Triple). IsPicked v (fraction_of c.args.crease) (solid_part solid) (edge_halves solid) c.in_ok-picked.picked) c.dir-d.ensures c.in_ok-picked.ensures)

pub spans_cut-requires-clause-finder : goal.spans_cut-requires-clause-finder
spans_cut-requires-clause-finder c =
    let solid = c.args.solid.now in
    let grid = c.in_ok-grid.grid in
    subst (λ (v : Triple). IsFinder (record { part = solid_part solid; halves = edge_halves solid; direction = v; tests = 0 }) c.in_ok-picked.picked (along_list grid) (over_list grid) (is_listed_near grid))
    c.dir-d.ensures (c.in_ok-grid.ensures.law 0)

pub spans_cut-requires-clause-room : goal.spans_cut-requires-clause-room
spans_cut-requires-clause-room c bound is = small_bound bound c.cut_bound-most_tests.result (is ∙ sym c.cut_bound-most_tests.ensures.bound) c.cut_bound-most_tests.ensures.size

pub spans_cut-requires-2-clause-borders : goal.spans_cut-requires-2-clause-borders
spans_cut-requires-2-clause-borders c =
    let section = c.in_ok-section.section in
    subst (λ (p : Plane). AreBorders p (solid_part c.args.solid.now) section.segments.items section.loops.items) (sym c.in_ok-section.ensures.cut) c.in_ok-section.ensures.borders

pub spans_cut-requires-2-clause-picked : goal.spans_cut-requires-2-clause-picked
spans_cut-requires-2-clause-picked c =
    let solid = c.args.solid.now in
    (fraction_of c.args.crease, subst (λ (v : Triple). IsPicked v (fraction_of c.args.crease) (solid_part solid) (edge_halves solid) c.in_ok-picked.picked) c.dir-d.ensures c.in_ok-picked.ensures)

pub spans_cut-requires-2-clause-finder : goal.spans_cut-requires-2-clause-finder
spans_cut-requires-2-clause-finder c =
    let solid = c.args.solid.now in
    let picked = subst (λ (v : Triple). IsPicked v (fraction_of c.args.crease) (solid_part solid) (edge_halves solid) c.in_ok-picked.picked) c.dir-d.ensures c.in_ok-picked.ensures in
    c.new-2.ensures.law (record { part = solid_part solid; halves = edge_halves solid; direction = toward_of (plane_of c.in_ok-section.section.cut); tests = 0 }) (fraction_of c.args.crease, picked)

pub spans_cut-requires-2-clause-room : goal.spans_cut-requires-2-clause-room
spans_cut-requires-2-clause-room c bound is = small_bound bound c.cut_bound-most_tests.result (is ∙ sym c.cut_bound-most_tests.ensures.bound) c.cut_bound-most_tests.ensures.size
