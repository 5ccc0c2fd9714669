-- What the words name.
use Rattle.std.specs.Prelude.{ℕ, ◌||◌, List, Option, Some, None, if◌then◌else◌, codes, unwrap_or}
use Rattle.command_words.specs.Grammar.{GivenTexts, Reading, all_given, is_empty_value, reading_of}
use Rattle.draw_words.specs.Grammar.{draw_table}

-- the names of the files of a run: the part's, the job's if there is one, and the drawing's
pub record Named : Type 0 where
  pub part : List ℕ
  pub job : Option (List ℕ)
  pub out : List ℕ

-- without `--out` it is `drawing.svg`
abbrev pub out_of : Option (List ℕ) → List ℕ
out_of out = unwrap_or out (codes "drawing.svg")

-- all of them, where there is a part
abbrev pub named_with : Option (List ℕ) → Option (List ℕ) → List ℕ → Option Named
named_with None job out = None
named_with (Some part) job out = Some (record { part = part; job = job; out = out })

-- there is a part, and no name is empty
abbrev pub named : GivenTexts → Option Named
named given =
    if is_empty_value (given (codes "part")) || is_empty_value (given (codes "job")) || is_empty_value (given (codes "out")) then None
    else named_with (given (codes "part")) (given (codes "job")) (out_of (given (codes "out")))

-- by what the words come to
abbrev pub named_of : Reading → Option Named
named_of (all_given given) = named given
named_of _ = None

-- what the words name; None where they are refused
abbrev pub named_by : List (List ℕ) → Option Named
named_by words = named_of (reading_of draw_table words)
