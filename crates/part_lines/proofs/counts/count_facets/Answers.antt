use Rattle.std.proofs.Common.{false, arith}
use Rattle.std.proofs.lemmas.List.Sums.{count_by-le-length}
use Rattle.lex_lines.specs.Scan.{tokens_of}
use Rattle.part_lines.specs.Hints.{is_facet}
use Rattle.part_lines.proofs.FewTokens.{few_tokens}
use Rattle.part_lines.proofs.counts.count_facets.Goals as goal

pub overflow_add-count : goal.overflow_add-count
overflow_add-count c =
    omega (arith, c.loop-token.invariant.all, count_by-le-length (is_facet c.args.text.now) (tokens_of false c.args.text.now), few_tokens false c.args.text.now, c.requires)
