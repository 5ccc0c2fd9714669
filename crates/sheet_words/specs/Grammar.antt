-- The words of `sheet`: the table of its options.
use Rattle.std.specs.Prelude.{[], ◌∷◌, codes}
use Rattle.command_words.specs.Grammar.{Table, asks_for, for_help, for_version, listed, takes_value}

abbrev pub sheet_table : Table
sheet_table = record {
  plain = codes "part";
  options =
      listed takes_value (codes "job")
      ∷ listed takes_value (codes "out")
      ∷ listed takes_value (codes "list")
      ∷ listed takes_value (codes "plain-job")
      ∷ listed takes_value (codes "hidden")
      ∷ listed takes_value (codes "title")
      ∷ listed takes_value (codes "number")
      ∷ listed takes_value (codes "revision")
      ∷ listed takes_value (codes "material")
      ∷ listed takes_value (codes "date")
      ∷ listed (asks_for for_help) (codes "help")
      ∷ listed (asks_for for_version) (codes "version")
      ∷ [];
}
