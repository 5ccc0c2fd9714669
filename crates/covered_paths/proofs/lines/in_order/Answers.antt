use Rattle.std.proofs.Common.{rules}
use Rattle.std.proofs.lemmas.List.Sorted.{IsNonDecreasingBy-from_sort_by_key}
use Rattle.covered_paths.specs.declared.line.Line.{Line}
use Rattle.covered_paths.proofs.Sketches.{placed_order}
use Rattle.covered_paths.proofs.lines.in_order.Goals as goal

pub returns-clause-order : goal.returns-clause-order
returns-clause-order c = placed_order _ (IsNonDecreasingBy-from_sort_by_key (λ (x : Line). x.place) _ c.in_ok-sort_by_key.ensures.sorted (λ a r q k. search rules))
