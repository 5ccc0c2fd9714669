-- The words of `mend`: the table of its options.
use Rattle.std.specs.Prelude.{[], ◌∷◌, codes}
use Rattle.command_words.specs.Grammar.{Table, asks_for, for_help, for_version, listed, takes_value}

abbrev pub mend_table : Table
mend_table = record {
  plain = codes "part";
  options =
      listed takes_value (codes "out")
      ∷ listed takes_value (codes "decimals")
      ∷ listed takes_value (codes "limit")
      ∷ listed (asks_for for_help) (codes "help")
      ∷ listed (asks_for for_version) (codes "version")
      ∷ [];
}
