-- The tokens of a text, by their places in it.
use Rattle.std.specs.Prelude.{◌≡◌, ℕ, ◌+◌, ◌<◌, ◌≤◌, Bool, true, false, List, All, AllPairs, Contains, Some, slice_get, take, count_by}
use Rattle.lex_lines.specs.declared.token.Token.{Token}
use Rattle.lex_lines.specs.Bytes.{is_feed, is_gap, is_hash}

-- the place is in a comment: a `#` stands there or before it on its line
pub record IsInComment (bytes : List ℕ) (place : ℕ) : Type 0 where
  pub hash : ℕ
  pub byte : ℕ
  pub at : slice_get bytes hash ≡ Some byte
  pub is : is_hash byte ≡ true
  pub before : hash ≤ place
  pub same_line : (i other : ℕ) → hash ≤ i → i < place → slice_get bytes i ≡ Some other → is_feed other ≡ false

-- a byte of a token: no blank, no line feed, and in no comment where comments are on
pub record IsTokenByte (comments : Bool) (bytes : List ℕ) (place : ℕ) : Type 0 where
  pub byte : ℕ
  pub at : slice_get bytes place ≡ Some byte
  pub no_gap : is_gap byte ≡ false
  pub no_comment : comments ≡ true → ¬ IsInComment bytes place

-- 1 plus the line feeds before the place
abbrev pub line_at : List ℕ → ℕ → ℕ
line_at bytes place = 1 + count_by is_feed (take place bytes)

-- at least one byte, all of them bytes of a token, and neither neighbour is one
pub record IsToken (comments : Bool) (bytes : List ℕ) (t : Token) : Type 0 where
  pub some : t.from < t.to
  pub bytes_of : (i : ℕ) → t.from ≤ i → i < t.to → IsTokenByte comments bytes i
  pub before : (i : ℕ) → i + 1 ≡ t.from → ¬ IsTokenByte comments bytes i
  pub after : ¬ IsTokenByte comments bytes t.to
  pub line : t.line ≡ line_at bytes t.from

-- all tokens, in order
pub record AreTokens (comments : Bool) (bytes : List ℕ) (tokens : List Token) : Type 0 where
  pub each : All (IsToken comments bytes) tokens
  pub ascending : AllPairs (λ t u. t.to ≤ u.from) tokens
  pub complete : (t : Token) → IsToken comments bytes t → Contains tokens t
