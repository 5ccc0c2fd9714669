use Rattle.std.proofs.Common.{ℕ, ◌≤◌, List, refl, sym, subst, arith}
use Rattle.lattice.specs.Creases.{fraction_of}
use Rattle.lattice.specs.Points.{of_dir}
use Rattle.cross_find.specs.Sights.{SightState}
use Rattle.cross_find.specs.SolidSights.{state_of}
use Rattle.out_grid.specs.Grids.{along_list, over_list, is_listed_near}
use Rattle.span_count.specs.Bounds.{IsRunCount}
use Rattle.span_count.specs.Finders.{IsFinder}
use Rattle.view_lines.proofs.CountedEdges.{has_room, few_tests, counts_of_entries}
use Rattle.edge_pick.proofs.PickedSizes.{few_drawn}
use Rattle.view_lines.proofs.counts.counts_along.Goals as goal

pub view_grid-requires : goal.view_grid-requires
view_grid-requires c = (fraction_of c.args.crease, c.requires)

pub bound-bound-requires : goal.bound-bound-requires
bound-bound-requires c = (of_dir c.args.d.now, fraction_of c.args.crease, c.requires)

pub spans_counted-requires-clause-finder : goal.spans_counted-requires-clause-finder
spans_counted-requires-clause-finder c =
    subst (λ (x : SightState). IsFinder x c.args.picked.now (along_list c.in_ok-grid.grid.outlines) (over_list c.in_ok-grid.grid.outlines) (is_listed_near c.in_ok-grid.grid.outlines)) (sym c.new-sight.ensures) (c.in_ok-grid.ensures.law 0)

pub spans_counted-requires-clause-room : goal.spans_counted-requires-clause-room
spans_counted-requires-clause-room c =
    has_room c.args.solid.now (of_dir c.args.d.now) c.args.picked.now (state_of c.new-sight.result) c.new-sight.ensures
    (c.bound-bound.result, c.bound-bound.ensures.bound, c.bound-bound.ensures.size)

pub returns-clause-right : goal.returns-clause-right
returns-clause-right c =
    counts_of_entries c.args.solid.now (of_dir c.args.d.now) (fraction_of c.args.crease) c.args.picked.now c.requires
    (state_of c.new-sight.result) c.in_ok-entries.entries.items c.new-sight.ensures c.in_ok-entries.ensures.entries

pub returns-clause-counted : goal.returns-clause-counted
returns-clause-counted c = record {
  edges = omega (arith, c.len.ensures);
  runs = subst (λ (runs : List ℕ). IsRunCount runs c.count_runs.result) c.deref.ensures.value c.count_runs.ensures.count;
  bound = c.bound-bound.ensures.bound;
  cut_bound = refl;
  cell_bound = c.in_ok-grid.ensures.bound;
}

pub returns-clause-tested : goal.returns-clause-tested
returns-clause-tested c =
    subst (λ (n : ℕ). n ≤ c.bound-bound.result) (sym c.tests.ensures)
    (few_tests c.args.solid.now (of_dir c.args.d.now) c.args.picked.now (state_of c.new-sight.result) (state_of c.spans_counted.new.sight) c.new-sight.ensures
    c.in_ok-entries.ensures.tested c.bound-bound.result c.bound-bound.ensures.bound)

pub returns-clause-small : goal.returns-clause-small
returns-clause-small c =
    let tested = few_tests c.args.solid.now (of_dir c.args.d.now) c.args.picked.now (state_of c.new-sight.result) (state_of c.spans_counted.new.sight) c.new-sight.ensures
    c.in_ok-entries.ensures.tested c.bound-bound.result c.bound-bound.ensures.bound in
    record {
      edges = omega (arith, c.len.ensures, few_drawn c.args.solid.now c.args.picked.now (of_dir c.args.d.now, fraction_of c.args.crease, c.requires));
      runs = omega (arith, c.count_runs.ensures.size);
      bound = c.bound-bound.ensures.size;
      tests = omega (arith, c.tests.ensures, tested, c.bound-bound.ensures.size);
      cut_bound = omega arith;
      cut_tests = omega arith;
      cell_bound = c.in_ok-grid.ensures.small;
      cells = omega (arith, c.in_ok-grid.ensures.celled, c.in_ok-grid.ensures.small);
    }
