-- What helps with a fault of a part's text.
use Rattle.std.specs.Prelude.{◌≡◌, ◌⊎◌, ◌==◌, ℕ, zero, suc, ◌<◌, ◌≤◌, Bool, true, false, ◌&&◌, ◌||◌, nat_le, nat_lt, if◌then◌else◌, List, [], ◌∷◌, ◌++◌, length, take, drop, count_by, Option, Some, None, codes, unwrap_or, is_some}
use Rattle.dec_text.specs.Numbers.{Number, magnitude_of}
use Rattle.dec_text.specs.declared.number.Length.{Length}
use Rattle.fault_lines.specs.Lines.{shown}
use Rattle.lex_lines.specs.Scan.{tokens_of}
use Rattle.lex_lines.specs.declared.token.Token.{Token}
use Rattle.off_reader.specs.Counts.{count_of}
use Rattle.part_input.specs.Reading.{begins_solid}
use Rattle.part_text.specs.Words.{text_of, is_word}
use Rattle.part_lines.specs.declared.hint.PartHint.{PartHint}
use Rattle.part_lines.specs.declared.hint.PartHint.TheVariants.{Nothing, Neither, BinaryStl, Vertices, Faces, Facets, Coordinate}
use Rattle.weld.specs.declared.fault.PartFault.{PartFault}
use Rattle.weld.specs.declared.fault.PartKind.{PartKind}
use Rattle.weld.specs.declared.fault.PartKind.TheVariants.{Binary, BadNumber, TooLarge, TooMany}

-- ---- how the text begins
-- it is read as STL
abbrev pub is_stl : List ℕ → Bool
is_stl bytes = begins_solid bytes (tokens_of false bytes)

-- `PK`, as packed files begin
abbrev pub is_packed : List ℕ → Bool
is_packed [] = false
is_packed (first ∷ []) = false
is_packed (first ∷ second ∷ bytes) = first == 80 && second == 75

-- the first token as the reader of OFF sees tokens, or nothing
abbrev pub word_in : List ℕ → List Token → List ℕ
word_in bytes [] = []
word_in bytes (t ∷ tokens) = text_of bytes t

abbrev pub first_word : List ℕ → List ℕ
first_word bytes = word_in bytes (tokens_of true bytes)

abbrev pub is_off : List ℕ → Bool
is_off word = is_word (codes "OFF") word

-- an OFF begins so: with `OFF`, or with a count if the word is left out
abbrev pub begins_off : List ℕ → Bool
begins_off word = is_off word || is_some (count_of word)

abbrev pub binary_hint : List ℕ → PartHint
binary_hint bytes = if is_packed bytes then Neither else (if is_off (first_word bytes) then Nothing else BinaryStl)

abbrev pub number_hint : List ℕ → PartHint
number_hint bytes = if is_stl bytes || begins_off (first_word bytes) then Nothing else Neither

-- ---- how much is in the text
-- the tokens of an OFF behind the word `OFF`, or all if it is left out
abbrev pub behind_off : List ℕ → List Token → List Token
behind_off bytes [] = []
behind_off bytes (t ∷ tokens) = if is_off (text_of bytes t) then tokens else t ∷ tokens

-- what the next token says as a count; 0 if it is none
abbrev pub said : List ℕ → List Token → ℕ
said bytes [] = 0
said bytes (t ∷ tokens) = unwrap_or (count_of (text_of bytes t)) 0

-- the first of the two counts of the head that is over its limit
abbrev pub counts_hint : ℕ → ℕ → PartHint
counts_hint vertices faces = if nat_lt 60000 vertices then Vertices vertices else (if nat_lt 20000 faces then Faces faces else Nothing)

abbrev pub head_hint : List ℕ → List Token → PartHint
head_hint bytes tokens = counts_hint (said bytes tokens) (said bytes (drop 1 tokens))

-- the token is the word `facet`
abbrev pub is_facet : List ℕ → Token → Bool
is_facet bytes t = is_word (codes "facet") (text_of bytes t)

abbrev pub many_hint : List ℕ → PartHint
many_hint bytes = if is_stl bytes then Facets (count_by (is_facet bytes) (tokens_of false bytes)) else head_hint bytes (behind_off bytes (tokens_of true bytes))

-- ---- coordinates
-- the token is the word `vertex`
abbrev pub is_vertex : List ℕ → Token → Bool
is_vertex bytes t = is_word (codes "vertex") (text_of bytes t)

-- how many coordinates come after a token before which so many were to come: three after the word `vertex`
abbrev pub left_after : List ℕ → ℕ → Token → ℕ
left_after bytes zero t = if is_vertex bytes t then 3 else 0
left_after bytes (suc left) t = left

-- the coordinates among the tokens of an STL, of which so many come first
abbrev pub coordinates_from : List ℕ → ℕ → List Token → List Token
coordinates_from bytes left [] = []
coordinates_from bytes zero (t ∷ tokens) = coordinates_from bytes (left_after bytes zero t) tokens
coordinates_from bytes (suc left) (t ∷ tokens) = t ∷ coordinates_from bytes left tokens

-- those of a text: of an OFF the tokens behind the three counts of its head, among which the coordinates come first
abbrev pub coordinates_in : List ℕ → List Token
coordinates_in bytes = if is_stl bytes then coordinates_from bytes 0 (tokens_of false bytes) else drop 3 (behind_off bytes (tokens_of true bytes))

-- ---- a coordinate that is too large
-- the text is a number that is out of range with these decimals in this unit, or one in range
abbrev pub IsTooLarge : ℕ → Length → List ℕ → Type 0
IsTooLarge decimals unit text = (n : Number text) × (1048576 < magnitude_of decimals unit n)

abbrev pub IsInRange : ℕ → Length → List ℕ → Type 0
IsInRange decimals unit text = (n : Number text) × (magnitude_of decimals unit n ≤ 1048576)

module _ (decimals : ℕ) (unit : Length) (bytes : List ℕ) (line : ℕ) where
  abbrev pub IsLargeThere : Token → Type 0
  IsLargeThere t = (t.line ≡ line) × IsTooLarge decimals unit (text_of bytes t)

  -- the first of some tokens that is on this line and a number out of range
  abbrev pub IsFirstLarge : List Token → Option Token → Type 0
  IsFirstLarge [] found = found ≡ None
  IsFirstLarge (t ∷ tokens) found = (IsLargeThere t × (found ≡ Some t)) ⊎ ((IsLargeThere t → ⊥) × IsFirstLarge tokens found)

-- the greatest number of decimals below this one at which the number is in range
abbrev pub IsRoom : Length → List ℕ → ℕ → Option ℕ → Type 0
IsRoom unit text zero room = room ≡ None
IsRoom unit text (suc n) room = (IsInRange n unit text × (room ≡ Some n)) ⊎ ((IsInRange n unit text → ⊥) × IsRoom unit text n room)

-- at most 40 bytes of it
abbrev pub cut : List ℕ → List ℕ
cut text = if nat_le (length text) 40 then shown text else shown (take 40 text) ++ codes "..."

-- such a number, and with how many decimals it would be in range
abbrev pub IsCoordinate : List ℕ → ℕ → Length → PartHint → Type 0
IsCoordinate text decimals unit hint = (room : Option ℕ) × IsRoom unit text decimals room × (hint ≡ Coordinate (cut text) decimals room)

abbrev pub IsWordHint : List ℕ → ℕ → Length → Option Token → PartHint → Type 0
IsWordHint bytes decimals unit None hint = hint ≡ Nothing
IsWordHint bytes decimals unit (Some t) hint = IsCoordinate (text_of bytes t) decimals unit hint

abbrev pub IsLargeHint : List ℕ → ℕ → Length → ℕ → PartHint → Type 0
IsLargeHint bytes decimals unit line hint =
    (found : Option Token) × IsFirstLarge decimals unit bytes line (coordinates_in bytes) found × IsWordHint bytes decimals unit found hint

-- ---- all faults
abbrev pub IsKindHint : List ℕ → ℕ → PartKind → ℕ → Length → PartHint → Type 0
IsKindHint bytes line Binary decimals unit hint = hint ≡ binary_hint bytes
IsKindHint bytes line BadNumber decimals unit hint = hint ≡ number_hint bytes
IsKindHint bytes line TooMany decimals unit hint = hint ≡ many_hint bytes
IsKindHint bytes line TooLarge decimals unit hint = IsLargeHint bytes decimals unit line hint
IsKindHint bytes line kind decimals unit hint = hint ≡ Nothing

-- what helps with the fault of a text that was read with these decimals in this unit
abbrev pub IsPartHint : List ℕ → PartFault → ℕ → Length → PartHint → Type 0
IsPartHint bytes fault decimals unit hint = IsKindHint bytes fault.line fault.kind decimals unit hint
