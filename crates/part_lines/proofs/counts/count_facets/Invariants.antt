use Rattle.std.proofs.Common.{◌≡◌, ◌+◌, false, length, count_by}
use Rattle.lex_lines.specs.Scan.{tokens_of}
use Rattle.part_lines.specs.Hints.{is_facet}
use Rattle.part_lines.proofs.counts.count_facets.Given as goal

-- what was counted and what is left to count are all
abbrev pub invariant-loop-token : goal.invariant-loop-token
invariant-loop-token l = record {
  all : l.count + count_by (is_facet l.text) l.tokens.left ≡ count_by (is_facet l.text) (tokens_of false l.text);
  text : l.tokens.text ≡ l.text;
}

abbrev pub decreases-loop-token : goal.decreases-loop-token
decreases-loop-token l = length l.tokens.left
