use Rattle.std.proofs.Common.{rules}
use Rattle.std.proofs.lemmas.List.Sorted.{IsNonDecreasingBy-from_sort_by_key}
use Rattle.view_lines.specs.declared.sources.Placed.{Placed}
use Rattle.view_lines.proofs.sources.sorted_by_line.Goals as goal

pub returns-clause-sorted : goal.returns-clause-sorted
returns-clause-sorted c = IsNonDecreasingBy-from_sort_by_key (λ (x : Placed). x.line) _ c.in_ok-sort_by_key.ensures.sorted (λ a r q k. search rules)
