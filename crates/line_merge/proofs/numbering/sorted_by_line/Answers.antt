use Rattle.std.proofs.Common.{rules}
use Rattle.std.proofs.lemmas.List.Sorted.{IsNonDecreasingBy-from_sort_by_key}
use Rattle.line_merge.specs.declared.numbering.Listed.{Listed}
use Rattle.line_merge.proofs.numbering.sorted_by_line.Goals as goal

pub returns-clause-sorted : goal.returns-clause-sorted
returns-clause-sorted c = IsNonDecreasingBy-from_sort_by_key (λ (x : Listed). x.line) _ c.in_ok-sort_by_key.ensures.sorted (λ a r q k. search rules)
