use Rattle.std.proofs.Common.{◌≡◌, false, length, Option}
use Rattle.lex_lines.specs.Scan.{tokens_of}
use Rattle.lex_lines.specs.declared.token.Token.{Token}
use Rattle.part_lines.specs.Hints.{IsFirstLarge, coordinates_from}
use Rattle.part_lines.proofs.coordinate.large_in_stl.Given as goal

-- the first among the coordinates that are left is the first of all
abbrev pub invariant-loop-token : goal.invariant-loop-token
invariant-loop-token l = record {
  first : (found : Option Token) → IsFirstLarge l.decimals l.unit l.text l.line (coordinates_from l.text l.left l.tokens.left) found
      → IsFirstLarge l.decimals l.unit l.text l.line (coordinates_from l.text 0 (tokens_of false l.text)) found;
  text : l.tokens.text ≡ l.text;
}

abbrev pub decreases-loop-token : goal.decreases-loop-token
decreases-loop-token l = length l.tokens.left
