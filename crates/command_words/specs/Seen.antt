-- What contracts see of words, of a table, and of what words come to.
use Rattle.std.specs.Prelude.{ℕ, List, map, string_bytes, String}
use Rattle.std.specs.declared.alloc.Global.{Global}
use Rattle.clap.specs.Matches.{found_of}
use Rattle.clap.specs.Walk.{first_of, rows_of}
use Rattle.command_words.specs.Grammar.{GivenTexts, Listed, Reading, Table, all_given, asks, asks_for, for_help, for_version, is_flag, listed, refused, takes_value}
use Rattle.command_words.specs.declared.sentence.Given.{Given}
use Rattle.command_words.specs.declared.sentence.Sentence.{Sentence}
use Rattle.command_words.specs.declared.sentence.Sentence.TheVariants as sentence
use Rattle.command_words.specs.declared.table.WordOption.{WordOption}
use Rattle.command_words.specs.declared.table.WordOption.TheVariants.{Value, Flag, Help, Version}

-- the bytes of the words
abbrev pub texts : List (String Global) → List (List ℕ)
texts words = map string_bytes words

abbrev pub option_seen : WordOption → Listed
option_seen (Value name) = listed takes_value name.now
option_seen (Flag name) = listed is_flag name.now
option_seen (Help name) = listed (asks_for for_help) name.now
option_seen (Version name) = listed (asks_for for_version) name.now

abbrev pub table_seen : List ℕ → List WordOption → Table
table_seen plain options = record { plain = plain; options = map option_seen options }

-- the texts that were found
abbrev pub given_seen : Given → GivenTexts
given_seen given name = first_of name (rows_of (found_of given.matches))

abbrev pub sentence_seen : Sentence → Reading
sentence_seen sentence.Refused = refused
sentence_seen sentence.Help = asks for_help
sentence_seen sentence.Version = asks for_version
sentence_seen (sentence.Given given) = all_given (given_seen given)
