-- What contracts see of tables and of their faults.
use Rattle.std.specs.Prelude.{◌≡◌, ℕ, map, option_map, string_bytes, Result, Ok, Err}
use Rattle.job_text.specs.Seen.{written_seen}
use Rattle.job_tables.specs.declared.flaw.TableFlaw.{TableFlaw}
use Rattle.job_tables.specs.declared.flaw.TableFlaw.TheVariants.{UnknownTable, SingleView, DoubleBlock, SecondBlock, TooManyViews, EmptyBlock, UnknownKey}
use Rattle.job_tables.specs.declared.flaw.TableStop.{TableStop}
use Rattle.job_tables.specs.declared.flaw.TableStop.TheVariants.{At, Memory}
use Rattle.job_tables.specs.declared.table.TableEntry.{TableEntry}
use Rattle.job_tables.specs.declared.table.JobTable.{JobTable}
use Rattle.job_tables.specs.declared.table.JobTables.{JobTables}
use Rattle.job_tables.specs.Faults.{Fault, unknown_table, single_view, double_block, second_block, too_many_views, empty_block, unknown_key}
use Rattle.job_tables.specs.Hints.{IsHinted}
use Rattle.job_tables.specs.Tables.{Entry, Table, Tables}

abbrev pub entry_seen : TableEntry → Entry
entry_seen e = record { at = e.at; key = string_bytes e.key; value_at = e.value_at; value = written_seen e.value }

abbrev pub table_seen : JobTable → Table
table_seen t = record { at = t.at; entries = map entry_seen t.entries.items }

abbrev pub tables_seen : JobTables → Tables
tables_seen t = record { job = table_seen t.job; block = option_map table_seen t.block; views = map table_seen t.views.items }

-- the hint is no part of a fault
abbrev pub fault_seen : TableFlaw → Fault
fault_seen (UnknownTable name near) = unknown_table name
fault_seen SingleView = single_view
fault_seen DoubleBlock = double_block
fault_seen SecondBlock = second_block
fault_seen TooManyViews = too_many_views
fault_seen EmptyBlock = empty_block
fault_seen (UnknownKey kind view name hint) = unknown_key kind view name

-- the fault is the one that is said, with its hint, unless memory ran out
abbrev pub StopsTables : {A : Type 0} → TableStop → Result A (Fault × ℕ) → Type 0
StopsTables (At flaw at) said = (said ≡ Err (fault_seen flaw, at)) × IsHinted flaw
StopsTables (Memory e) said = Unit {0}

-- the result is what is said, seen through f
abbrev pub SaysTables : {A B : Type 0} → (A → B) → Result A TableStop → Result B (Fault × ℕ) → Type 0
SaysTables f (Ok x) said = said ≡ Ok (f x)
SaysTables f (Err stop) said = StopsTables stop said
