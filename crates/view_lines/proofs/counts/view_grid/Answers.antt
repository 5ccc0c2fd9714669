use Rattle.std.proofs.Common.{ℕ, List, length, subst, arith}
use Rattle.view_lines.specs.Numbers.{IsGridSize}
use Rattle.view_lines.proofs.counts.view_grid.Goals as goal

pub returns-clause-bound : goal.returns-clause-bound
returns-clause-bound c = (
  c.columns_for-columns.result,
  subst (λ (outlines : List ℕ). IsGridSize (length outlines) c.columns_for-columns.result) c.deref.ensures.value c.columns_for-columns.ensures.size,
  c.cell_bound.ensures.bound,
)

pub returns-clause-celled : goal.returns-clause-celled
returns-clause-celled c = let within = c.in_ok-outlines.ensures.counted c.cell_bound.result c.cell_bound.ensures.bound in omega (arith, within)

pub returns-clause-small : goal.returns-clause-small
returns-clause-small c = omega (arith, c.cell_bound.ensures.size)
