-- What the words ask for.
use Rattle.std.specs.Prelude.{ℕ, nat_le, ◌||◌, List, Option, Some, None, if◌then◌else◌, codes, option_map, unwrap_or}
use Rattle.std.specs.Str.{bytes_eq}
use Rattle.dec_text.specs.Numbers.{digits_value}
use Rattle.command_words.specs.Grammar.{GivenTexts, Reading, all_given, asks, for_help, for_version, is_empty_value, reading_of, refused}
use Rattle.mend_words.specs.Grammar.{mend_table}

-- where a part goes: it is said, or it is kept under a name
pub data Goal : Type 0 where
  said : Goal
  file : List ℕ → Goal

-- the part by its name, where it goes, with how many decimals it is read, and how far its surface may move, in units
pub record Named : Type 0 where
  pub part : List ℕ
  pub out : Goal
  pub decimals : ℕ
  pub limit : ℕ

-- help, the version, or a mended part
pub data Asks : Type 0 where
  help : Asks
  version : Asks
  mend : Named → Asks

-- `-`, or any other name
abbrev pub goal_named : List ℕ → Goal
goal_named name = if bytes_eq name (codes "-") then said else file name

-- without `--out` it is `mended.off`
abbrev pub goal_of : Option (List ℕ) → Goal
goal_of out = goal_named (unwrap_or out (codes "mended.off"))

-- a number, where it is at most `greatest`
abbrev pub up_to : ℕ → Option ℕ → Option ℕ
up_to greatest None = None
up_to greatest (Some number) = if nat_le number greatest then Some number else None

-- one digit, from 0 to 6; without `--decimals` it is 3
abbrev pub decimals_of : Option (List ℕ) → Option ℕ
decimals_of decimals = up_to 6 (digits_value 1 (unwrap_or decimals (codes "3")))

-- 1 to 3 digits, at most 100; without `--limit` it is 4
abbrev pub limit_of : Option (List ℕ) → Option ℕ
limit_of limit = up_to 100 (digits_value 3 (unwrap_or limit (codes "4")))

-- all of them, where none is wrong or missing
abbrev pub named_by : Option (List ℕ) → Goal → Option ℕ → Option ℕ → Option Named
named_by (Some part) out (Some decimals) (Some limit) = Some (record { part = part; out = out; decimals = decimals; limit = limit })
named_by _ _ _ _ = None

-- there is a part, no name is empty, and each number is one that its option can have
abbrev pub named : GivenTexts → Option Named
named given =
    if is_empty_value (given (codes "part")) || is_empty_value (given (codes "out")) then None
    else named_by (given (codes "part")) (goal_of (given (codes "out"))) (decimals_of (given (codes "decimals"))) (limit_of (given (codes "limit")))

-- by what the words come to
abbrev pub asks_of : Reading → Option Asks
asks_of refused = None
asks_of (asks for_help) = Some help
asks_of (asks for_version) = Some version
asks_of (all_given given) = option_map mend (named given)

-- what the words ask for; None where they are refused
unfoldable pub asked_by : List (List ℕ) → Option Asks
asked_by words = asks_of (reading_of mend_table words)
