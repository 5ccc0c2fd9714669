-- How keys and values are written.
use Rattle.std.specs.Prelude.{ℕ, ◌||◌, ◌==◌, if◌then◌else◌, List, [], ◌∷◌, ◌++◌, codes, encode_utf8}
use Rattle.std.specs.List.{flat_map}
use Rattle.std.specs.Str.{chars}
use Rattle.toml_parser.specs.Lexical.{quote, backslash}

infixr 10 ◌⊕◌
abbrev pub ◌⊕◌ : List ℕ → List ℕ → List ℕ
a ⊕ b = a ++ b

-- a key, and its value as it is written
abbrev pub Pair : Type 0
Pair = List ℕ × List ℕ

-- the line of a key
abbrev pub key_line : Pair → List ℕ
key_line pair = pair.0 ⊕ codes " = " ⊕ pair.1 ⊕ codes "\n"

abbrev pub in_quotes : List ℕ → List ℕ
in_quotes text = codes "\"" ⊕ text ⊕ codes "\""

-- a character between quotes: `"` and `\` have a `\` in front
abbrev pub escaped_char : ℕ → List ℕ
escaped_char c = if c == quote || c == backslash then backslash ∷ c ∷ [] else encode_utf8 c

abbrev pub escaped_title : List ℕ → List ℕ
escaped_title text = flat_map escaped_char (chars text)

-- texts with `, ` in front of each
abbrev pub behind_commas : List (List ℕ) → List ℕ
behind_commas texts = flat_map (λ text. codes ", " ++ text) texts

-- a list
abbrev pub in_brackets : List (List ℕ) → List ℕ
in_brackets [] = codes "[]"
in_brackets (text ∷ texts) = codes "[" ⊕ text ⊕ behind_commas texts ⊕ codes "]"
