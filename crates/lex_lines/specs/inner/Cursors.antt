-- Where a reader of tokens stands in its text.
use Rattle.std.specs.Prelude.{ℕ, ◌+◌, ◌≤◌, Bool, List, All, length, drop}
use Rattle.lex_lines.specs.declared.token.Token.{Token}
use Rattle.lex_lines.specs.Places.{IsToken}
use Rattle.lex_lines.specs.Scan.{tokens_from, between}

-- the tokens from a place on that is in none and in no comment, with its line
abbrev pub left_at : Bool → List ℕ → ℕ → ℕ → List Token
left_at comments bytes place line = tokens_from comments (drop place bytes) place line between

-- a place within the text, from which the pass finds tokens of the text
pub record IsCursor (comments : Bool) (bytes : List ℕ) (place line : ℕ) : Type 0 where
  pub short : length bytes ≤ 16777216
  pub within : place ≤ length bytes
  pub lines : line ≤ place + 1
  pub tokens : All (IsToken comments bytes) (left_at comments bytes place line)
