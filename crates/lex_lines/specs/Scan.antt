-- The tokens of a text as one pass over its bytes finds them.
use Rattle.std.specs.Prelude.{ℕ, ◌+◌, Bool, true, false, not, ◌&&◌, ◌||◌, cond, List, [], ◌∷◌, ◌++◌}
use Rattle.lex_lines.specs.declared.token.Token.{Token}
use Rattle.lex_lines.specs.Bytes.{is_feed, is_gap, is_hash}

-- where the pass stands: between tokens, in a comment, or in a token that began at a place
pub data Standing : Type 0 where
  between : Standing
  comment : Standing
  inside : ℕ → Standing

-- a blank, a line feed, or a `#` that begins a comment
abbrev pub ends_run : Bool → ℕ → Bool
ends_run comments byte = is_gap byte || (comments && is_hash byte)

-- whether the byte behind this one is in a comment
abbrev pub comment_after : Bool → Bool → ℕ → Bool
comment_after comments in_comment byte = not (is_feed byte) && (in_comment || (comments && is_hash byte))

abbrev pub line_after : ℕ → ℕ → ℕ
line_after line byte = cond (is_feed byte) (line + 1) line

-- outside of tokens
abbrev pub outside : Bool → Standing
outside true = comment
outside false = between

-- the token that ends here, where the pass is in one
abbrev pub finish : ℕ → ℕ → Standing → List Token
finish place line between = []
finish place line comment = []
finish place line (inside from) = record { from = from; to = place; line = line } ∷ []

-- where the pass stands behind a byte that is no token's
abbrev pub outside_after : Bool → Bool → ℕ → Standing
outside_after comments in_comment byte = outside (comment_after comments in_comment byte)

-- where it stands behind any byte
abbrev pub after : Bool → ℕ → ℕ → Standing → Standing
after comments byte place between = cond (ends_run comments byte) (outside_after comments false byte) (inside place)
after comments byte place comment = outside_after comments true byte
after comments byte place (inside from) = cond (ends_run comments byte) (outside_after comments false byte) (inside from)

-- the token that ends at this byte, if one does
abbrev pub ended : Bool → ℕ → ℕ → ℕ → Standing → List Token
ended comments byte place line standing = cond (ends_run comments byte) (finish place line standing) []

-- the tokens that end at the place or later, given the bytes from there on
abbrev pub tokens_from : Bool → List ℕ → ℕ → ℕ → Standing → List Token
tokens_from comments [] place line standing = finish place line standing
tokens_from comments (byte ∷ bytes) place line standing =
    ended comments byte place line standing ++ tokens_from comments bytes (place + 1) (line_after line byte) (after comments byte place standing)

-- the tokens of a text
abbrev pub tokens_of : Bool → List ℕ → List Token
tokens_of comments text = tokens_from comments text 0 1 between
