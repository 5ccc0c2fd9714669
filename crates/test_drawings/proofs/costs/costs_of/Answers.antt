use Rattle.std.proofs.Common.{ap, sym, subst, arith}
use Rattle.lattice.specs.Creases.{fraction_of}
use Rattle.lattice.specs.Points.{of_dir}
use Rattle.cross_find.specs.Sights.{SightState}
use Rattle.cross_find.specs.SolidSights.{state_of}
use Rattle.edge_pick.specs.Picked.{IsPicked}
use Rattle.out_grid.specs.Grids.{along_list, over_list, is_listed_near}
use Rattle.span_count.specs.Bounds.{IsBound}
use Rattle.span_count.specs.Finders.{IsFinder}
use Rattle.test_drawings.proofs.costs.costs_of.Goals as goal

pub bound-most_tests-requires : goal.bound-most_tests-requires
bound-most_tests-requires c = (of_dir c.args.d.now, fraction_of c.args.crease, c.in_ok-picked.ensures)

pub spans_counted-requires-clause-finder : goal.spans_counted-requires-clause-finder
spans_counted-requires-clause-finder c =
    subst (λ (x : SightState). IsFinder x c.in_ok-picked.picked (along_list c.in_ok-grid.grid) (over_list c.in_ok-grid.grid) (is_listed_near c.in_ok-grid.grid)) (sym c.new-sight.ensures) (c.in_ok-grid.ensures.law 0)

pub spans_counted-requires-clause-room : goal.spans_counted-requires-clause-room
spans_counted-requires-clause-room c = (
  c.bound-most_tests.result,
  subst (λ (y : SightState). IsBound y.part y.halves c.in_ok-picked.picked c.bound-most_tests.result) (sym c.new-sight.ensures) c.bound-most_tests.ensures.bound,
  let none = ap (λ (y : SightState). y.tests) c.new-sight.ensures in omega (arith, c.bound-most_tests.ensures.size, none),
)

pub spans_counted-requires-2-clause-finder : goal.spans_counted-requires-2-clause-finder
spans_counted-requires-2-clause-finder c =
    let fraction = fraction_of c.args.crease in
    c.new-2.ensures.law (state_of c.new-all.result)
    (fraction, subst (λ (x : SightState). IsPicked x.direction fraction x.part x.halves c.in_ok-picked.picked) (sym c.new-all.ensures) c.in_ok-picked.ensures)

pub spans_counted-requires-2-clause-room : goal.spans_counted-requires-2-clause-room
spans_counted-requires-2-clause-room c = (
  c.bound-most_tests.result,
  subst (λ (y : SightState). IsBound y.part y.halves c.in_ok-picked.picked c.bound-most_tests.result) (sym c.new-all.ensures) c.bound-most_tests.ensures.bound,
  let none = ap (λ (y : SightState). y.tests) c.new-all.ensures in omega (arith, c.bound-most_tests.ensures.size, none),
)
