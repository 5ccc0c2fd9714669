-- The words of `draw`: the table of its options.
use Rattle.std.specs.Prelude.{[], ◌∷◌, codes}
use Rattle.command_words.specs.Grammar.{Table, listed, takes_value}

abbrev pub draw_table : Table
draw_table = record { plain = codes "part"; options = listed takes_value (codes "job") ∷ listed takes_value (codes "out") ∷ [] }
