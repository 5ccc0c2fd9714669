-- What a reader of tokens stands for.
use Rattle.std.specs.Prelude.{ℕ, Bool, List}
use Rattle.lex_lines.specs.declared.token.Token.{Token}

-- the text, whether it has comments, the tokens that are still to come, and the line of the last one taken, 1 before the first
pub record TokenReader : Type 0 where
  pub text : List ℕ
  pub comments : Bool
  pub left : List Token
  pub line : ℕ
