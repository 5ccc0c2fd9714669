use Rattle.std.proofs.Common.{ℕ, ◌≡◌, ◌+◌, ◌<◌, ◌^◌, ◌∙◌, refl, sym, subst, arith}
use Rattle.lattice.specs.Creases.{fraction_of}
use Rattle.lattice.specs.Cuts.{plane_of}
use Rattle.lattice.specs.Triple.{Triple}
use Rattle.edge_pick.specs.Picked.{IsPicked}
use Rattle.out_grid.specs.Grids.{along_list, over_list, is_listed_near}
use Rattle.solid_mesh.specs.Solids.{solid_part, edge_halves}
use Rattle.span_count.specs.Finders.{IsFinder}
use Rattle.view_lines.specs.Numbers.{IsGridBound}
use Rattle.view_lines.proofs.CountedEdges.{counts_of_cut_entries}
use Rattle.view_lines.proofs.counts.counts_beyond.Goals as goal

small_bound : (n m : ℕ) → n ≡ m → m < 2 ^ 48 → 0 + n < 2 ^ 64
small_bound n m is small = omega arith

pub view_grid-requires : goal.view_grid-requires
view_grid-requires c =
    let solid = c.args.solid.now in
    (fraction_of c.args.crease, subst (λ (v : Triple). IsPicked v (fraction_of c.args.crease) (solid_part solid) (edge_halves solid) c.args.picked.now) (sym c.dir-d.ensures) c.requires.picked)

pub cut_bound-cut_bound-requires-clause-picked : goal.cut_bound-cut_bound-requires-clause-picked
cut_bound-cut_bound-requires-clause-picked c = (fraction_of c.args.crease, c.requires.picked)

pub spans_cut-requires-clause-picked : goal.spans_cut-requires-clause-picked
spans_cut-requires-clause-picked c = (fraction_of c.args.crease, c.requires.picked)

pub spans_cut-requires-clause-finder : goal.spans_cut-requires-clause-finder
spans_cut-requires-clause-finder c =
    let solid = c.args.solid.now in
    let grid = c.in_ok-grid.grid in
    subst (λ (v : Triple). IsFinder (record { part = solid_part solid; halves = edge_halves solid; direction = v; tests = 0 }) c.args.picked.now (along_list grid.outlines) (over_list grid.outlines) (is_listed_near grid.outlines))
    c.dir-d.ensures (c.in_ok-grid.ensures.law 0)

pub spans_cut-requires-clause-room : goal.spans_cut-requires-clause-room
spans_cut-requires-clause-room c bound is = small_bound bound c.cut_bound-cut_bound.result (is ∙ sym c.cut_bound-cut_bound.ensures.bound) c.cut_bound-cut_bound.ensures.size

pub returns-clause-right : goal.returns-clause-right
returns-clause-right c =
    counts_of_cut_entries c.args.solid.now (plane_of c.args.section.now.cut) (fraction_of c.args.crease) c.args.picked.now c.requires.picked c.in_ok-entries.entries.items c.in_ok-entries.ensures.entries

pub returns-clause-counted : goal.returns-clause-counted
returns-clause-counted c = record {
  edges = refl;
  runs = refl;
  bound = refl;
  cut_bound = c.cut_bound-cut_bound.ensures.bound;
  cell_bound = subst (λ (v : Triple). IsGridBound v c.args.solid.now c.args.picked.now c.in_ok-grid.grid.bound) c.dir-d.ensures c.in_ok-grid.ensures.bound;
}

pub returns-clause-cut_tested : goal.returns-clause-cut_tested
returns-clause-cut_tested c = let made = c.in_ok-entries.ensures.tested c.cut_bound-cut_bound.result c.cut_bound-cut_bound.ensures.bound in omega (arith, made.1)

pub returns-clause-small : goal.returns-clause-small
returns-clause-small c =
    let made = c.in_ok-entries.ensures.tested c.cut_bound-cut_bound.result c.cut_bound-cut_bound.ensures.bound in
    record {
      edges = omega arith;
      runs = omega arith;
      bound = omega arith;
      tests = omega arith;
      cut_bound = c.cut_bound-cut_bound.ensures.size;
      cut_tests = omega (arith, made.1, c.cut_bound-cut_bound.ensures.size);
      cell_bound = c.in_ok-grid.ensures.small;
      cells = omega (arith, c.in_ok-grid.ensures.celled, c.in_ok-grid.ensures.small);
    }
