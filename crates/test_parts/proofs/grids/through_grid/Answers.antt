use Rattle.std.proofs.Common.{ap, sym, subst, arith}
use Rattle.cross_find.specs.Sights.{SightState}
use Rattle.out_grid.specs.Grids.{along_list, over_list, is_listed_near}
use Rattle.span_count.specs.Bounds.{IsBound}
use Rattle.span_count.specs.Finders.{IsFinder}
use Rattle.test_parts.proofs.grids.through_grid.Goals as goal

pub spans_counted-requires-clause-room : goal.spans_counted-requires-clause-room
spans_counted-requires-clause-room c = (
  c.bound-most.result,
  subst (λ (y : SightState). IsBound y.part y.halves c.in_ok-picked.picked c.bound-most.result) (sym c.new-sight.ensures) c.bound-most.ensures.bound,
  let none = ap (λ (y : SightState). y.tests) c.new-sight.ensures in omega (arith, c.bound-most.ensures.size, none),
)

pub spans_counted-requires-clause-finder : goal.spans_counted-requires-clause-finder
spans_counted-requires-clause-finder c =
    subst (λ (x : SightState). IsFinder x c.in_ok-picked.picked (along_list c.in_ok-grid.grid) (over_list c.in_ok-grid.grid) (is_listed_near c.in_ok-grid.grid)) (sym c.new-sight.ensures) (c.in_ok-grid.ensures.law 0)
