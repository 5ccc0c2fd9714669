-- What is wrong with a job of version 3, and where, as a line says it.
use Rattle.std.specs.Prelude.{ℕ, ◌+◌, Bool, List, [], Option, Some, None, if◌then◌else◌, codes}
use Rattle.std.specs.Borrow.{Bor}
use Rattle.std.specs.Fmt.{decimal}
use Rattle.std.specs.Str.{bytes_eq}
use Rattle.fault_lines.specs.Lines.{shown}
use Rattle.flaw_lines.specs.KeyTexts.{key_name, wrong_value_text}
use Rattle.job_file.specs.declared.view.Principal.{Principal}
use Rattle.job_file.specs.declared.view.Principal.TheVariants as view
use Rattle.job_tables.specs.declared.flaw.KeyHint.{KeyHint}
use Rattle.job_tables.specs.declared.flaw.KeyHint.TheVariants.{In, Older, Header, Near, Unlike}
use Rattle.job_tables.specs.declared.flaw.TableFlaw.{TableFlaw}
use Rattle.job_tables.specs.declared.flaw.TableFlaw.TheVariants.{UnknownTable, SingleView, DoubleBlock, SecondBlock, TooManyViews, EmptyBlock, UnknownKey}
use Rattle.job_tables.specs.declared.table.TableKind.{TableKind}
use Rattle.job_tables.specs.declared.table.TableKind.TheVariants as table
use Rattle.job_text.specs.declared.fault.Flaw.{Flaw}
use Rattle.job_text.specs.declared.fault.Flaw.TheVariants.{NoKey, QuotedKey, DottedKey, NoEquals, NoBracket, NoValue, BadWord, BrokenText, LongText, InlineTable, BareDate, NoNumber, InnerList, BrokenList, More, Unprintable}
use Rattle.sheet_job.specs.declared.flaw.JobFlaw.{JobFlaw}
use Rattle.sheet_job.specs.declared.flaw.JobFlaw.TheVariants.{NotUtf8, Line, Refused, Table, Wrong, View, AtRange}
use Rattle.sheet_job.specs.declared.flaw.PlacedFlaw.{PlacedFlaw}
use Rattle.sheet_job.specs.declared.flaw.ViewFlaw.{ViewFlaw}
use Rattle.sheet_job.specs.declared.flaw.ViewFlaw.TheVariants.{Form, WithoutCut, WithoutAt, WithoutFrom, NameTaken}
use Rattle.sheet_job.specs.declared.keys.SheetKey.{SheetKey}
use Rattle.svg_page.specs.Texts.{◌⊕◌}

-- ---- a line
abbrev pub line_flaw_text : Flaw → List ℕ
line_flaw_text NoKey = codes "no key: a line is key = value, [block] or [[view]]"
line_flaw_text QuotedKey = codes "key in quotes: leave the quotes out"
line_flaw_text DottedKey = codes "dotted key: each key is one word"
line_flaw_text NoEquals = codes "no = after the key"
line_flaw_text NoBracket = codes "no closing bracket: a header is [block] or [[view]]"
line_flaw_text NoValue = codes "no value: it is a text in quotes, true, false, a number or a list"
line_flaw_text BadWord = codes "not a value: a text needs quotes, and a number is written as 22.5 or -3"
line_flaw_text BrokenText = codes "broken text: close its quote on this line, write \\\\ for \\, and leave control characters out"
line_flaw_text LongText = codes "text in triple quotes: write it on one line in single or double quotes"
line_flaw_text InlineTable = codes "inline table: write [block] or [[view]], and a line for each key"
line_flaw_text BareDate = codes "date or time without quotes: write it in quotes"
line_flaw_text NoNumber = codes "wrong number: it may have digits, a sign and a point only"
line_flaw_text InnerList = codes "list inside a list: no key has such a value"
line_flaw_text BrokenList = codes "no comma or ] in the list: a list is on one line, as [1, -1, 1]"
line_flaw_text More = codes "more text on the line: only a comment may follow"
line_flaw_text Unprintable = codes "byte order mark or control character: leave it out"

-- ---- in which view
-- the number of a view, which a line counts from 1
abbrev pub counted_text : ℕ → List ℕ
counted_text number = decimal (number + 1)

-- the view with this number, if there is one
abbrev pub in_view_text : Option ℕ → List ℕ
in_view_text None = []
in_view_text (Some number) = codes "view " ⊕ counted_text number ⊕ codes ": "

-- ---- headers and keys
-- a known word that is spelt nearly so
abbrev pub meant_text : List ℕ → List ℕ
meant_text near = near ⊕ codes " is meant?"

-- where the keys of a table belong
abbrev pub home_text : TableKind → List ℕ
home_text table.Job = codes "it belongs before the first [block] or [[view]]"
home_text table.Block = codes "it belongs in [block]"
home_text table.View = codes "it belongs in [[view]]"

-- which keys a table has
abbrev pub keys_text : TableKind → List ℕ
keys_text table.Job = codes "the job has version, title, unit, decimals, sheet, layout, angle, scale, crease and hidden"
keys_text table.Block = codes "[block] has number, type, material, author, approved, date, revision, company, tolerances and note"
keys_text table.View = codes "a view has name, toward, cut, at, from, title and hidden"

-- how a table begins that has this name
abbrev pub header_text : List ℕ → List ℕ
header_text name = if bytes_eq name (codes "block") then codes "[block] begins the title block" else codes "[[view]] begins a view"

-- what an unknown key of a table may have been meant to be
abbrev pub hint_text : TableKind → List ℕ → KeyHint → List ℕ
hint_text kind name (In other) = home_text other
hint_text kind name Older = codes "only versions 1 and 2 have it"
hint_text kind name Header = header_text name
hint_text kind name (Near near) = meant_text near.now
hint_text kind name Unlike = keys_text kind

abbrev pub unknown_key_text : TableKind → List ℕ → KeyHint → List ℕ
unknown_key_text kind name hint = codes "unknown key " ⊕ shown name ⊕ codes ": " ⊕ hint_text kind name hint

-- and in which view it is
abbrev pub key_in_text : TableKind → Option ℕ → List ℕ → KeyHint → List ℕ
key_in_text kind view name hint = in_view_text view ⊕ unknown_key_text kind name hint

-- what an unknown table may have been meant to be
abbrev pub table_hint_text : Option (Bor (List ℕ)) → List ℕ
table_hint_text None = codes "[block] and [[view]] are known"
table_hint_text (Some near) = meant_text near.now

abbrev pub unknown_table_text : List ℕ → Option (Bor (List ℕ)) → List ℕ
unknown_table_text name near = codes "unknown table " ⊕ shown name ⊕ codes ": " ⊕ table_hint_text near

abbrev pub table_flaw_text : TableFlaw → List ℕ
table_flaw_text (UnknownTable name near) = unknown_table_text name near
table_flaw_text SingleView = codes "[view]: a view begins with [[view]]"
table_flaw_text DoubleBlock = codes "[[block]]: the title block begins with [block]"
table_flaw_text SecondBlock = codes "[block] is there twice"
table_flaw_text TooManyViews = codes "more than 12 views"
table_flaw_text EmptyBlock = codes "[block] has no key: give it one or leave it out"
table_flaw_text (UnknownKey kind view name hint) = key_in_text kind view name hint

-- ---- views
abbrev pub principal_text : Principal → List ℕ
principal_text view.Front = codes "front"
principal_text view.Back = codes "back"
principal_text view.Left = codes "left"
principal_text view.Right = codes "right"
principal_text view.Above = codes "above"
principal_text view.Below = codes "below"

-- a view by its name, or by its number
abbrev pub view_label : ℕ → Option Principal → List ℕ
view_label number None = counted_text number
view_label number (Some name) = principal_text name

-- a key that is there without `cut`
abbrev pub without_cut_text : SheetKey → List ℕ
without_cut_text key = key_name key ⊕ codes " goes with cut only"

abbrev pub view_flaw_text : ViewFlaw → List ℕ
view_flaw_text Form = codes "exactly one of name, toward and cut is wanted"
view_flaw_text (WithoutCut key) = without_cut_text key
view_flaw_text WithoutAt = codes "cut goes with at, the plane's place"
view_flaw_text WithoutFrom = codes "cut goes with from, \"high\" or \"low\""
view_flaw_text NameTaken = codes "an earlier view has this name"

abbrev pub placed_view_text : ViewFlaw → ℕ → Option Principal → List ℕ
placed_view_text flaw number name = codes "view " ⊕ view_label number name ⊕ codes ": " ⊕ view_flaw_text flaw

abbrev pub at_range_text : ℕ → List ℕ
at_range_text number = codes "view " ⊕ counted_text number ⊕ codes ": at is too far from 0: at most 10485.76 mm with 2 decimals, a tenth of that with each decimal more"

-- ---- all
-- a value that its key doesn't have, and in which view it is
abbrev pub wrong_in_text : SheetKey → Bool → Option ℕ → List ℕ
wrong_in_text key quoted view = in_view_text view ⊕ wrong_value_text key quoted

-- what is wrong
abbrev pub job_flaw_text : JobFlaw → List ℕ
job_flaw_text NotUtf8 = codes "not UTF-8: save the job as UTF-8"
job_flaw_text (Line flaw) = line_flaw_text flaw
job_flaw_text Refused = codes "this key or table is there already"
job_flaw_text (Table flaw) = table_flaw_text flaw
job_flaw_text (Wrong key quoted view) = wrong_in_text key quoted view
job_flaw_text (View flaw number name) = placed_view_text flaw number name
job_flaw_text (AtRange number) = at_range_text number

-- the place, line and column, and what is wrong there
abbrev pub flaw_text : PlacedFlaw → List ℕ
flaw_text placed = decimal placed.place.line ⊕ codes ":" ⊕ decimal placed.place.column ⊕ codes ": " ⊕ job_flaw_text placed.flaw
