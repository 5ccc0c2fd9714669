-- The lines of a job in their tables.
use Rattle.std.specs.Prelude.{ℕ, Bool, false, List, [], ◌∷◌, Option, option_map, map, codes}
use Rattle.std.specs.List.{filter, find}
use Rattle.std.specs.Str.{bytes_eq}
use Rattle.job_text.specs.Lines.{TextLine, Meaning, header, list_header, entry}
use Rattle.job_text.specs.Values.{Written}

-- the bytes before a key, the key, the bytes before its value, and the value
pub record Entry : Type 0 where
  pub at : ℕ
  pub key : List ℕ
  pub value_at : ℕ
  pub value : Written

-- the bytes before a table's header, and the entries up to the next one
pub record Table : Type 0 where
  pub at : ℕ
  pub entries : List Entry

-- what a header has in its brackets
pub data Header : Type 0 where
  single : List ℕ → Header
  double : List ℕ → Header

-- a table with its header
pub record Headed : Type 0 where
  pub header : Header
  pub table : Table

-- ---- lines at their headers
-- a table begins at its header, and has the entries up to the next one
abbrev pub begun : ℕ → Header → List Entry × List Headed → List Entry × List Headed
begun at h rest = ([], record { header = h; table = record { at = at; entries = rest.0 } } ∷ rest.1)

-- a line before the entries up to the next header, and the tables from there on
abbrev pub with_line : ℕ → Meaning → List Entry × List Headed → List Entry × List Headed
with_line at (entry key value value_at) rest = (record { at = at; key = key; value_at = value_at; value = value } ∷ rest.0, rest.1)
with_line at (header key) rest = begun at (single key) rest
with_line at (list_header key) rest = begun at (double key) rest

-- the entries before the first header, and the tables that headers begin
abbrev pub by_header : List TextLine → List Entry × List Headed
by_header [] = ([], [])
by_header (line ∷ lines) = with_line line.at line.meaning (by_header lines)

-- ---- the tables of a job
-- `[block]`
abbrev pub is_block : Header → Bool
is_block (single key) = bytes_eq key (codes "block")
is_block _ = false

-- `[[view]]`
abbrev pub is_view : Header → Bool
is_view (double key) = bytes_eq key (codes "view")
is_view _ = false

pub record Tables : Type 0 where
  pub job : Table
  pub block : Option Table
  pub views : List Table

-- those of the entries before the first header, and of the tables that headers begin
abbrev pub tables_of : List Entry × List Headed → Tables
tables_of s = record {
  job = record { at = 0; entries = s.0 };
  block = option_map (λ t. t.table) (find (λ t. is_block t.header) s.1);
  views = map (λ t. t.table) (filter (λ t. is_view t.header) s.1);
}
