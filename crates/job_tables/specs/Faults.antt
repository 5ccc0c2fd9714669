-- The first header or key of a job that is wrong.
use Rattle.std.specs.Prelude.{ℕ, Bool, true, false, not, nat_lt, List, [], ◌∷◌, ◌++◌, length, Option, Some, None, option_map, Result, Ok, Err, if◌then◌else◌, codes}
use Rattle.std.specs.List.{filter, find, list_any}
use Rattle.std.specs.Option.{option_or}
use Rattle.std.specs.Str.{bytes_eq}
use Rattle.job_text.specs.Lines.{TextLine}
use Rattle.job_tables.specs.declared.table.TableKind.{TableKind}
use Rattle.job_tables.specs.declared.table.TableKind.TheVariants.{Job, Block, View}
use Rattle.job_tables.specs.Keys.{is_known}
use Rattle.job_tables.specs.Tables.{Entry, Header, single, double, Headed, is_block, is_view, by_header, Tables, tables_of}

pub data Fault : Type 0 where
  unknown_table : List ℕ → Fault
  single_view : Fault
  double_block : Fault
  second_block : Fault
  too_many_views : Fault
  empty_block : Fault
  -- of a table, which may be the view with this number
  unknown_key : TableKind → Option ℕ → List ℕ → Fault

-- ---- headers
-- of `[block]`, after another one or not. TOML refuses a text with two of them.
abbrev pub block_fault : Bool → List Entry → Option Fault
block_fault true entries = Some second_block
block_fault false [] = Some empty_block
block_fault false (e ∷ es) = None

-- of `[[view]]`, after so many
abbrev pub view_fault : ℕ → Option Fault
view_fault views = if nat_lt views 12 then None else Some too_many_views

-- of a header with these entries, after a `[block]` or not, and after so many views
abbrev pub header_fault : Bool → ℕ → Header → List Entry → Option Fault
header_fault has_block views (single key) entries =
    if bytes_eq key (codes "block") then block_fault has_block entries
    else if bytes_eq key (codes "view") then Some single_view
    else Some (unknown_table key)
header_fault has_block views (double key) entries =
    if bytes_eq key (codes "view") then view_fault views
    else if bytes_eq key (codes "block") then Some double_block
    else Some (unknown_table key)

-- ---- keys
-- which table a header begins, if it has no fault
abbrev pub kind_of : Header → TableKind
kind_of (single key) = Block
kind_of (double key) = View

-- the number of the view that a header begins, after so many
abbrev pub view_begun : ℕ → Header → Option ℕ
view_begun views (single key) = None
view_begun views (double key) = Some views

-- the first key that isn't one of its table, which may be the view with this number; and the bytes before it
abbrev pub key_fault : TableKind → Option ℕ → List Entry → Option (Fault × ℕ)
key_fault kind view entries = option_map (λ e. (unknown_key kind view e.key, e.at)) (find (λ e. not (is_known kind e.key)) entries)

-- ---- tables
-- a table's first fault, and the bytes before its place: its header comes before its keys
abbrev pub table_fault : Bool → ℕ → Headed → Option (Fault × ℕ)
table_fault has_block views t =
    option_or (option_map (λ fault. (fault, t.table.at)) (header_fault has_block views t.header t.table.entries)) (key_fault (kind_of t.header) (view_begun views t.header) t.table.entries)

-- the first fault of some tables after those before them
abbrev pub fault_after : List Headed → List Headed → Option (Fault × ℕ)
fault_after before [] = None
fault_after before (t ∷ ts) =
    option_or (table_fault (list_any (λ b. is_block b.header) before) (length (filter (λ b. is_view b.header) before)) t) (fault_after (before ++ t ∷ []) ts)

-- the first fault of the entries before the first header, and of the tables that headers begin
abbrev pub first_fault : List Entry × List Headed → Option (Fault × ℕ)
first_fault s = option_or (key_fault Job None s.0) (fault_after [] s.1)

-- a fault, if there is one, and else the value
abbrev pub unless : {A : Type 0} → Option (Fault × ℕ) → A → Result A (Fault × ℕ)
unless None value = Ok value
unless (Some fault) value = Err fault

-- the tables of lines at their headers, or the first fault and the bytes before its place
abbrev pub tables_or_fault : List Entry × List Headed → Result Tables (Fault × ℕ)
tables_or_fault s = unless (first_fault s) (tables_of s)

-- the same of a job's lines
abbrev pub job_tables : List TextLine → Result Tables (Fault × ℕ)
job_tables lines = tables_or_fault (by_header lines)
