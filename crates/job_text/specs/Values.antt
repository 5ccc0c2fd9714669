-- Keys and values of a line.
use Rattle.std.specs.Prelude.{ℕ, zero, suc, ◌-◌, Bool, ◌&&◌, ◌||◌, ◌==◌, if◌then◌else◌, List, [], ◌∷◌, ◌++◌, length, take, drop, slice_index, Some, None, Result, Ok}
use Rattle.std.specs.Char.{is_ascii_digit}
use Rattle.std.specs.List.{list_all}
use Rattle.toml_parser.specs.Lexical.{Read, is_bare, is_word, dot, dash, plus, comma, left_bracket, right_bracket, left_brace, first, skip_ws}
use Rattle.toml_parser.specs.Numbers.{unquoted}
use Rattle.toml_parser.specs.Strings.{Key, key, quoted, starts_string}
use Rattle.toml_parser.specs.declared.scalar.Scalar.{Scalar}
use Rattle.toml_parser.specs.declared.scalar.Scalar.TheVariants.{Boolean, Integer, Float, Datetime}
use Rattle.job_text.specs.declared.fault.Flaw.{Flaw}
use Rattle.job_text.specs.declared.fault.Flaw.TheVariants.{NoKey, QuotedKey, DottedKey, NoValue, BadWord, InnerList, BrokenText, LongText, InlineTable, BareDate, NoNumber, BrokenList}
use Rattle.job_text.specs.Readings.{TextReading, flawed, ◌>>=◌}

-- a text, true or false, or a number as it is written
pub data TextItem : Type 0 where
  text : List ℕ → TextItem
  flag : Bool → TextItem
  number : List ℕ → TextItem

-- one of them, or a list
pub data Written : Type 0 where
  one : TextItem → Written
  several : List TextItem → Written

-- ---- keys
abbrev pub one_part : List ℕ → Read Key → TextReading (List ℕ)
one_part front None = flawed (if is_bare (first front) then DottedKey else NoKey) front
one_part front (Some (([], last), rest)) = Ok (last, rest)
one_part front (Some ((part ∷ path, last), rest)) = flawed DottedKey front

-- a key of one part, which isn't quoted, and the text after it and after white space
abbrev pub one_key : List ℕ → TextReading (List ℕ)
one_key front = if starts_string front then flawed QuotedKey front else one_part front (key front)

-- ---- items
-- a digit, a point or a sign
abbrev pub is_number_byte : ℕ → Bool
is_number_byte c = is_ascii_digit c || c == dot || c == plus || c == dash

-- the bytes of a number, of digits, a point and a sign alone
abbrev pub number_item : List ℕ → List ℕ → List ℕ → TextReading TextItem
number_item front word rest = if list_all is_number_byte word then Ok (number word, rest) else flawed NoNumber front

-- what a word without quotes is
abbrev pub item_of_scalar : List ℕ → Scalar → List ℕ → TextReading TextItem
item_of_scalar front (Boolean b) rest = Ok (flag b, rest)
item_of_scalar front (Integer z) rest = number_item front (take (length front - length rest) front) rest
item_of_scalar front (Float x) rest = number_item front (take (length front - length rest) front) rest
item_of_scalar front (Datetime d) rest = flawed BareDate front

abbrev pub item_of_word : List ℕ → Read Scalar → TextReading TextItem
item_of_word front None = flawed (if is_word (first front) then BadWord else NoValue) front
item_of_word front (Some (scalar, rest)) = item_of_scalar front scalar rest

abbrev pub item_of_quotes : List ℕ → Read (List ℕ) → TextReading TextItem
item_of_quotes front None = flawed BrokenText front
item_of_quotes front (Some (content, rest)) = Ok (text content, rest)

-- three quotes, of a text that may go over several lines
abbrev pub starts_long : List ℕ → Bool
starts_long front = slice_index front 1 == first front && slice_index front 2 == first front

-- a text that begins with a quote, on its line
abbrev pub quoted_item : List ℕ → TextReading TextItem
quoted_item front = if starts_long front then flawed LongText front else item_of_quotes front (quoted front)

-- true or false, or a number
abbrev pub bare_item : List ℕ → TextReading TextItem
bare_item front = item_of_word front (unquoted front)

abbrev pub item : List ℕ → TextReading TextItem
item front =
    if starts_string front then quoted_item front
    else if first front == left_brace then flawed InlineTable front
    else if first front == left_bracket then flawed InnerList front
    else bare_item front

-- ---- lists
-- after an item: a comma, or the closing bracket, which stays
abbrev pub after_item : List ℕ → Result (List ℕ) (Flaw × ℕ)
after_item front =
    if first front == comma then Ok (drop 1 front) else if first front == right_bracket then Ok front else flawed BrokenList front

-- the rest of a list of fewer than so many items, after those found
unfoldable pub items : ℕ → List TextItem → List ℕ → TextReading (List TextItem)
items zero found front = flawed BrokenList front
items (suc most) found front =
    let start = skip_ws front in
    if first start == right_bracket then Ok (found, drop 1 start)
    else item start >>= λ i. after_item (skip_ws i.1) >>= λ rest. items most (found ++ i.0 ∷ []) rest

-- a list, at its opening bracket
abbrev pub list : List ℕ → TextReading (List TextItem)
list front = items (length front) [] (drop 1 front)

abbrev pub as_several : List TextItem × List ℕ → Written × List ℕ
as_several r = (several r.0, r.1)

abbrev pub as_one : TextItem × List ℕ → Written × List ℕ
as_one r = (one r.0, r.1)

-- a list on its line, or an item
abbrev pub value : List ℕ → TextReading Written
value front =
    if first front == left_bracket then (list front >>= λ r. Ok (as_several r))
    else item front >>= λ r. Ok (as_one r)
