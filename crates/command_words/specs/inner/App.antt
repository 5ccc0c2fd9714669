-- The command, as `clap` reads it.
use Rattle.std.specs.Prelude.{List, [], ◌∷◌, Option, Some, None, true, codes, fold}
use Rattle.clap.specs.Walk.{Rule, Text}
use Rattle.clap.specs.Simple.{App, new_shape, new_rule, with_rule}
use Rattle.clap.specs.declared.builder.action.ArgAction.{ArgAction}
use Rattle.clap.specs.declared.builder.action.ArgAction.TheVariants as action
use Rattle.clap.specs.declared.builder.range.ValueRange.{ValueRange}
use Rattle.clap.specs.declared.error.kind.ErrorKind.{ErrorKind}
use Rattle.clap.specs.declared.error.kind.ErrorKind.TheVariants.{DisplayHelp, DisplayVersion, OutOfMemory}
use Rattle.command_words.specs.Grammar.{Listed, Purpose, Reading, Table, asks, asks_for, for_help, for_version, is_flag, refused, takes_value}

-- the plain word
abbrev pub plain_rule : Text → Rule
plain_rule name = record (new_rule name) { action = Some action.Set }

abbrev pub action_as : Purpose → ArgAction
action_as takes_value = action.Set
action_as is_flag = action.Set
action_as (asks_for for_help) = action.Help
action_as (asks_for for_version) = action.Version

-- how many values one use has, where that isn't left to the action
abbrev pub range_as : Purpose → Option ValueRange
range_as is_flag = Some (record { start_inclusive = 0; end_inclusive = 0 })
range_as _ = None

-- the values that stand for a use without one
abbrev pub missing_as : Purpose → List Text
missing_as is_flag = [] ∷ []
missing_as _ = []

-- an option for this purpose, with this name
abbrev pub option_rule : Purpose → Text → Rule
option_rule purpose name = record (new_rule name) { long = Some name; action = Some (action_as purpose); range = range_as purpose; missing = missing_as purpose }

-- the command without its options
abbrev pub plain_app : Text → App
plain_app name = with_rule (record {
  top = record (new_shape (codes "words")) { no_binary_name = true; disable_help_flag = true; disable_version_flag = true };
  subs = [];
}) (plain_rule name)

-- and an option more
abbrev pub with_option : App → Listed → App
with_option app option = with_rule app (option_rule option.purpose option.name)

-- the command of a table
abbrev pub table_app : Table → App
table_app table = fold with_option (plain_app table.plain) table.options

-- what an error of this kind says of the words; None where it says nothing
abbrev pub reading_by : ErrorKind → Option Reading
reading_by DisplayHelp = Some (asks for_help)
reading_by DisplayVersion = Some (asks for_version)
reading_by OutOfMemory = None
reading_by _ = Some refused
