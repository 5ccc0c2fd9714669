use Rattle.std.proofs.Common.{◌≡◌, true, drop, length, Option}
use Rattle.lex_lines.specs.Scan.{tokens_of}
use Rattle.lex_lines.specs.declared.token.Token.{Token}
use Rattle.part_lines.specs.Hints.{IsFirstLarge, behind_off}
use Rattle.part_lines.proofs.coordinate.large_in_off.Given as goal

-- the first among the tokens that are left is the first of all
abbrev pub invariant-loop-token : goal.invariant-loop-token
invariant-loop-token l = record {
  first : (found : Option Token) → IsFirstLarge l.decimals l.unit l.text l.line l.tokens.left found → IsFirstLarge l.decimals l.unit l.text l.line (drop 3 (behind_off l.text (tokens_of true l.text))) found;
  text : l.tokens.text ≡ l.text;
}

abbrev pub decreases-loop-token : goal.decreases-loop-token
decreases-loop-token l = length l.tokens.left
