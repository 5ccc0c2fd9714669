-- The grammar of the words: what they give by a table of options, read from left to right.
use Rattle.std.specs.Prelude.{ℕ, Bool, true, false, not, ◌==◌, ◌&&◌, List, [], ◌∷◌, ◌++◌, Option, Some, None, is_some, if◌then◌else◌, codes}
use Rattle.std.specs.List.{list_all, list_any}
use Rattle.std.specs.Option.{option_map_or}
use Rattle.std.specs.Str.{bytes_eq}

-- ---- the table
-- what words may ask for
pub data Question : Type 0 where
  for_help : Question
  for_version : Question

-- what an option is for
pub data Purpose : Type 0 where
  -- `--NAME VALUE` or `--NAME=VALUE`
  takes_value : Purpose
  -- `--NAME`: it is there or not
  is_flag : Purpose
  -- `--NAME`
  asks_for : Question → Purpose

-- an option: what it is for, and its name, without the two minus signs
pub record Listed : Type 0 where
  pub purpose : Purpose
  pub name : List ℕ

abbrev pub listed : Purpose → List ℕ → Listed
listed purpose name = record { purpose = purpose; name = name }

-- the options, and the name under which the plain word is given
pub record Table : Type 0 where
  pub plain : List ℕ
  pub options : List Listed

-- an option's name has no `=`, and isn't the plain word's
abbrev pub is_name : List ℕ → List ℕ → Bool
is_name plain name = not (list_any (λ b. b == 61) name) && not (bytes_eq name plain)

abbrev pub is_table : Table → Bool
is_table table = list_all (λ option. is_name table.plain option.name) table.options

-- ---- one word
-- it begins with a minus sign, and is longer
abbrev pub is_marked : List ℕ → Bool
is_marked [] = false
is_marked (b ∷ []) = false
is_marked (b ∷ c ∷ word) = b == 45

-- what stands behind a beginning
abbrev pub behind : List ℕ → List ℕ → Option (List ℕ)
behind [] word = Some word
behind (c ∷ start) [] = None
behind (c ∷ start) (b ∷ word) = if b == c then behind start word else None

-- what a word is
pub data WordKind : Type 0 where
  -- `--`: every later word is plain
  ends : WordKind
  -- `--NAME`: the next word is this option's value
  opens : List ℕ → WordKind
  -- `--NAME=VALUE`, or a flag `--NAME`, which gives the empty text
  gives : List ℕ → List ℕ → WordKind
  -- `--NAME` of an option that asks
  wants : Question → WordKind
  -- any other word that begins with a minus sign, and is longer
  unknown_option : WordKind
  plain : WordKind

-- `--NAME` of an option for this purpose
abbrev pub alone : Purpose → List ℕ → WordKind
alone takes_value name = opens name
alone is_flag name = gives name []
alone (asks_for question) name = wants question

-- `--NAME=VALUE` of an option for this purpose
abbrev pub valued : Purpose → List ℕ → List ℕ → WordKind
valued takes_value name value = gives name value
valued _ name value = unknown_option

-- the option with this name, alone or with a value behind `=`; or else another kind
abbrev pub option_or : Purpose → List ℕ → List ℕ → WordKind → WordKind
option_or purpose name word other =
    if bytes_eq word (codes "--" ++ name) then alone purpose name else option_map_or (valued purpose name) (behind (codes "--" ++ name ++ codes "=") word) other

-- by the first option of the table that it has the name of
abbrev pub kind_among : List Listed → List ℕ → WordKind
kind_among [] word = if is_marked word then unknown_option else plain
kind_among (option ∷ options) word = option_or option.purpose option.name word (kind_among options word)

abbrev pub word_kind : List Listed → List ℕ → WordKind
word_kind options word = if bytes_eq word (codes "--") then ends else kind_among options word

-- ---- all words, from left to right
-- what is given so far: under each name its text, if there is one
abbrev pub GivenTexts : Type 0
GivenTexts = List ℕ → Option (List ℕ)

-- before the first word
abbrev pub nothing : GivenTexts
nothing name = None

-- and this text under this name
abbrev pub with_text : List ℕ → List ℕ → GivenTexts → GivenTexts
with_text name text given other = if bytes_eq name other then Some text else given other

-- what words come to
pub data Reading : Type 0 where
  refused : Reading
  asks : Question → Reading
  all_given : GivenTexts → Reading

-- a text is given, unless one is there under its name already
abbrev pub giving : List ℕ → List ℕ → GivenTexts → (GivenTexts → Reading) → Reading
giving name text given next = if is_some (given name) then refused else next (with_text name text given)

-- a text is there, and it is empty
abbrev pub is_empty_value : Option (List ℕ) → Bool
is_empty_value None = false
is_empty_value (Some []) = true
is_empty_value (Some (b ∷ text)) = false

module _ (table : Table) where
  -- behind `--` every word is plain
  abbrev pub plain_from : GivenTexts → List (List ℕ) → Reading
  plain_from given [] = all_given given
  plain_from given (word ∷ words) = giving table.plain word given (λ more. plain_from more words)

  -- by the first word, its kind, and what the later words come to where an option waits for its value or none does. What follows
  -- an option that asks is not read.
  abbrev pub read_at : WordKind → List ℕ → List (List ℕ) → GivenTexts → (Option (List ℕ) → GivenTexts → Reading) → Reading
  read_at ends word words given next = plain_from given words
  read_at (opens name) word words given next = next (Some name) given
  read_at (gives name value) word words given next = giving name value given (next None)
  read_at (wants question) word words given next = asks question
  read_at unknown_option word words given next = refused
  read_at plain word words given next = giving table.plain word given (next None)

  -- what the words come to behind what is given. An option that waits takes the next word, unless that is marked.
  abbrev pub read_from : Option (List ℕ) → GivenTexts → List (List ℕ) → Reading
  read_from None given [] = all_given given
  read_from (Some name) given [] = refused
  read_from None given (word ∷ words) = read_at (word_kind table.options word) word words given (λ pending more. read_from pending more words)
  read_from (Some name) given (word ∷ words) = if is_marked word then refused else giving name word given (λ more. read_from None more words)

  -- what all the words come to
  abbrev pub reading_of : List (List ℕ) → Reading
  reading_of words = read_from None nothing words
