-- What the words ask for.
use Rattle.std.specs.Prelude.{ℕ, Bool, true, false, ◌||◌, List, Option, Some, None, if◌then◌else◌, codes, nat_eq, option_map, unwrap_or}
use Rattle.std.specs.List.{ends_with}
use Rattle.std.specs.Str.{bytes_eq}
use Rattle.command_words.specs.Grammar.{GivenTexts, Reading, all_given, asks, for_help, for_version, is_empty_value, reading_of, refused}
use Rattle.sheet_words.specs.Grammar.{sheet_table}
use Rattle.job_file.specs.Texts.{is_title}
use Rattle.sheet_job.specs.declared.hidden.Hidden.{Hidden}
use Rattle.sheet_job.specs.declared.hidden.Hidden.TheVariants.{All, Plain, Never}

-- where a sheet goes: it is said, or it is kept under a name, as SVG or as PDF
pub data Goal : Type 0 where
  said : Goal
  svg_file : List ℕ → Goal
  pdf_file : List ℕ → Goal

-- where the list of its strokes or a plain job goes: it is said, or it is kept under a name
pub data ListGoal : Type 0 where
  list_said : ListGoal
  list_file : List ℕ → ListGoal

-- what is said of the title and of the title block, as far as it is
pub record TextsSaid : Type 0 where
  pub title : Option (List ℕ)
  pub number : Option (List ℕ)
  pub revision : Option (List ℕ)
  pub material : Option (List ℕ)
  pub date : Option (List ℕ)

-- the part and the job by their names, where the sheet goes, its list and its plain job if there are any, in which views hidden lines are
-- drawn if that is said, and what is said for the title block
pub record Named : Type 0 where
  pub part : List ℕ
  pub job : Option (List ℕ)
  pub out : Goal
  pub list : Option ListGoal
  pub plain : Option ListGoal
  pub hidden : Option Hidden
  pub said : TextsSaid

-- help, the version, or a sheet
pub data Asks : Type 0 where
  help : Asks
  version : Asks
  sheet : Named → Asks

-- exactly these bytes stand at the end
abbrev pub ends_in : List ℕ → List ℕ → Bool
ends_in ending name = ends_with nat_eq name ending

-- `-`, or a name that ends in `.svg` or `.pdf`
abbrev pub goal_named : List ℕ → Option Goal
goal_named name =
    if bytes_eq name (codes "-") then Some said
    else (if ends_in (codes ".svg") name then Some (svg_file name)
    else (if ends_in (codes ".pdf") name then Some (pdf_file name) else None))

-- without `--out` it is `sheet.svg`
abbrev pub goal_of : Option (List ℕ) → Option Goal
goal_of out = goal_named (unwrap_or out (codes "sheet.svg"))

-- `-`, or any other name
abbrev pub list_named : List ℕ → ListGoal
list_named name = if bytes_eq name (codes "-") then list_said else list_file name

-- there is a list, and it goes where the sheet goes: both are said, or both have this name
abbrev pub shares_place : Option ListGoal → Goal → Bool
shares_place (Some list_said) said = true
shares_place (Some (list_file name)) (svg_file out) = bytes_eq name out
shares_place (Some (list_file name)) (pdf_file out) = bytes_eq name out
shares_place _ _ = false

-- both go to one place
abbrev pub share_place : Option ListGoal → Option ListGoal → Bool
share_place (Some list_said) (Some list_said) = true
share_place (Some (list_file name)) (Some (list_file other)) = bytes_eq name other
share_place _ _ = false

-- one of three words
abbrev pub hidden_named : List ℕ → Option Hidden
hidden_named word =
    if bytes_eq word (codes "all") then Some All
    else (if bytes_eq word (codes "plain") then Some Plain
    else (if bytes_eq word (codes "none") then Some Never else None))

-- it need not be said; None where it is said wrongly
abbrev pub hidden_by : Option (List ℕ) → Option (Option Hidden)
hidden_by None = Some None
hidden_by (Some word) = option_map Some (hidden_named word)

-- a text that a title may be; it need not be said
abbrev pub said_by : Option (List ℕ) → Option (Option (List ℕ))
said_by None = Some None
said_by (Some text) = if is_title text then Some (Some text) else None

-- all of them, where none is wrong
abbrev pub said_together : (title number revision material date : Option (Option (List ℕ))) → Option TextsSaid
said_together (Some title) (Some number) (Some revision) (Some material) (Some date) =
    Some (record { title = title; number = number; revision = revision; material = material; date = date })
said_together _ _ _ _ _ = None

abbrev pub said_in : GivenTexts → Option TextsSaid
said_in given =
    said_together (said_by (given (codes "title"))) (said_by (given (codes "number"))) (said_by (given (codes "revision"))) (said_by (given (codes "material"))) (said_by (given (codes "date")))

-- the texts have places of their own
abbrev pub clash : Goal → Option ListGoal → Option ListGoal → Bool
clash out list plain = shares_place list out || shares_place plain out || share_place list plain

-- all of them, where none is wrong or missing, and each text has a place of its own
abbrev pub named_by : Option (List ℕ) → Option (List ℕ) → Option (Option Hidden) → Option Goal → Option ListGoal → Option ListGoal → Option TextsSaid → Option Named
named_by (Some part) job (Some hidden) (Some out) list plain (Some texts) =
    if clash out list plain then None else Some (record { part = part; job = job; out = out; list = list; plain = plain; hidden = hidden; said = texts })
named_by _ _ _ _ _ _ _ = None

-- a name of a file is there, and it is empty
abbrev pub has_empty_name : GivenTexts → Bool
has_empty_name given =
    is_empty_value (given (codes "part")) || is_empty_value (given (codes "job")) || is_empty_value (given (codes "list")) || is_empty_value (given (codes "plain-job"))

-- there is a part, no name is empty, each value is one of those that its option has, and each text has a place of its own
abbrev pub named : GivenTexts → Option Named
named given =
    if has_empty_name given then None
    else named_by (given (codes "part")) (given (codes "job")) (hidden_by (given (codes "hidden"))) (goal_of (given (codes "out")))
    (option_map list_named (given (codes "list"))) (option_map list_named (given (codes "plain-job"))) (said_in given)

-- by what the words come to
abbrev pub asks_of : Reading → Option Asks
asks_of refused = None
asks_of (asks for_help) = Some help
asks_of (asks for_version) = Some version
asks_of (all_given given) = option_map sheet (named given)

-- what the words ask for; None where they are refused
unfoldable pub asked_by : List (List ℕ) → Option Asks
asked_by words = asks_of (reading_of sheet_table words)
