-- Places in a text, as editors count them.
use Rattle.std.specs.Prelude.{◌≡◌, ◌≢◌, ◌⊎◌, ℕ, ◌+◌, Bool, not, ◌&&◌, ◌==◌, nat_le, nat_lt, List, [], ◌∷◌, ◌++◌, All, length, take, filter}
use Rattle.toml_parser.specs.Lexical.{line_feed}
use Rattle.job_text.specs.declared.place.TextPlace.{TextPlace}

abbrev pub is_line_feed : ℕ → Bool
is_line_feed byte = byte == line_feed

-- a byte that begins a character of UTF-8
abbrev pub begins_character : ℕ → Bool
begins_character byte = not (nat_le 128 byte && nat_lt byte 192)

-- nothing, or lines up to and with their line feeds
abbrev pub AreWholeLines : List ℕ → Type 0
AreWholeLines text = (text ≡ []) ⊎ ((front : List ℕ) × (text ≡ front ++ line_feed ∷ []))

-- Behind this text: its last line is `here`. Lines are counted by line feeds, columns by characters, both from 1.
pub record IsTextPlaceAfter (text : List ℕ) (place : TextPlace) : Type 0 where
  pub before : List ℕ
  pub here : List ℕ
  pub parts : text ≡ before ++ here
  pub whole : AreWholeLines before
  pub one_line : All (λ byte. byte ≢ line_feed) here
  pub line : place.line ≡ 1 + length (filter is_line_feed before)
  pub column : place.column ≡ 1 + length (filter begins_character here)

-- behind so many bytes of the text
abbrev pub IsTextPlace : List ℕ → ℕ → TextPlace → Type 0
IsTextPlace text at place = IsTextPlaceAfter (take at text) place
