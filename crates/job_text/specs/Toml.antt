-- What lines mean in TOML.
use Rattle.std.specs.Prelude.{◌≡◌, ◌==◌, ◌-◌, ℕ, zero, suc, if◌then◌else◌, None, map, length, List, [], ◌∷◌, Option, Some, option_map, option_and_then}
use Rattle.std.specs.List.{AllZip}
use Rattle.toml.specs.Data.{Data, string, boolean, array, Items, no_items, push_item}
use Rattle.toml.specs.Parse.{scalar_data, line, parse_document}
use Rattle.toml.specs.Tables.{no_nodes, close, key_value, std_table, array_table, Expression, Document, define}
use Rattle.toml_parser.specs.Lexical.{skip_blank}
use Rattle.toml_parser.specs.Numbers.{word_value}
use Rattle.toml_parser.specs.declared.scalar.Scalar.{Scalar}
use Rattle.job_text.specs.Lines.{TextLine, Meaning, header, list_header, entry}
use Rattle.job_text.specs.Values.{TextItem, text, flag, number, Written, one, several}

-- ---- values
-- the value that an item writes: a number is the one that its word writes
abbrev pub IsItemOf : TextItem → Data → Type 0
IsItemOf (text content) d = d ≡ string content
IsItemOf (flag b) d = d ≡ boolean b
IsItemOf (number word) d = (s : Scalar) × (word_value word ≡ Some s) × (d ≡ scalar_data s)

-- an array of some values, after those before it
abbrev pub pushed_items : Items → List Data → Items
pushed_items before [] = before
pushed_items before (d ∷ ds) = pushed_items (push_item before d) ds

-- the value of an item, or the array of the values of several
abbrev pub IsWrittenOf : Written → Data → Type 0
IsWrittenOf (one item) d = IsItemOf item d
IsWrittenOf (several items) d = (values : List Data) × AllZip IsItemOf items values × (d ≡ array (pushed_items no_items values))

-- ---- lines
-- a header, a header of a list, or a value, at a key of one part
abbrev pub IsMeaningOf : Meaning → Expression → Type 0
IsMeaningOf (header key) e = e ≡ (([], key), std_table)
IsMeaningOf (list_header key) e = e ≡ (([], key), array_table)
IsMeaningOf (entry key written at) e = (d : Data) × IsWrittenOf written d × (e ≡ (([], key), key_value d))

-- the expression that a line is, and the bytes before it
abbrev pub IsExpressionOf : TextLine → ℕ × Expression → Type 0
IsExpressionOf line e = (line.at ≡ e.0) × IsMeaningOf line.meaning e.1

-- the expressions that TOML reads one after the other in the rest of a text of so many bytes, each with the bytes before it; they are fewer than n
unfoldable pub expressions_after : ℕ → ℕ → List ℕ → Option (List (ℕ × Expression))
expressions_after size zero front = None
expressions_after size (suc n) front =
    let start = skip_blank front in
    if length start == 0 then Some []
    else option_and_then (λ e. option_map (λ es. (size - length start, e.0) ∷ es) (expressions_after size n e.1)) (line start)

-- a document after some more expressions
abbrev pub defined : Document → List Expression → Option Document
defined doc [] = Some doc
defined doc (e ∷ es) = option_and_then (λ next. defined next es) (define doc e)

-- What the lines say as a whole is what TOML says of the text. Where TOML refuses the text, as for a key that is there twice, it refuses
-- the lines' expressions.
pub record AreLinesOfToml (text : List ℕ) (lines : List TextLine) : Type 0 where
  pub expressions : List (ℕ × Expression)
  pub each : AllZip IsExpressionOf lines expressions
  -- so TOML reads them there
  pub read : expressions_after (length text) (suc (length text)) text ≡ Some expressions
  pub all : parse_document text ≡ option_map (λ doc. close doc.0) (defined (no_nodes, []) (map (λ e. e.1) expressions))
