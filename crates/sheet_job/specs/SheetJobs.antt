-- What a job of version 3 says, or its first fault.
use Rattle.std.specs.Prelude.{ℕ, ◌+◌, ◌-◌, Bool, false, List, [], ◌∷◌, length, Option, Some, None, option_map, Result, Ok, Err, if◌then◌else◌, codes}
use Rattle.std.specs.Option.{option_or}
use Rattle.dec_text.specs.declared.number.Length.{Length}
use Rattle.dec_text.specs.declared.number.Length.TheVariants.{Millimetre}
use Rattle.job_file.specs.Documents.{angles, creases, fits, layouts, lengths}
use Rattle.job_file.specs.Papers.{papers}
use Rattle.job_file.specs.declared.job.Paper.{Paper}
use Rattle.job_file.specs.declared.job.Paper.TheVariants.{A3}
use Rattle.job_tables.specs.Faults.{Fault, job_tables}
use Rattle.job_tables.specs.Tables.{Entry, Table, Tables}
use Rattle.job_tables.specs.declared.table.TableKind.{TableKind}
use Rattle.job_tables.specs.declared.table.TableKind.TheVariants as table
use Rattle.job_text.specs.Lines.{TextLine, text_lines}
use Rattle.job_text.specs.declared.fault.Flaw.{Flaw}
use Rattle.lattice.specs.declared.pieces.Crease.{Crease}
use Rattle.lattice.specs.declared.pieces.Crease.TheVariants.{Normal}
use Rattle.sheet_job.specs.SheetFaults.{OwnFault, in_line, in_tables, wrong, ◌>>=◌, unless}
use Rattle.sheet_job.specs.SheetKeys.{key_named, is_right, is_quoted}
use Rattle.sheet_job.specs.SheetViews.{entry_of, meaning_at, or_usual, SheetViewValues, sheet_views_of}
use Rattle.sheet_job.specs.WrittenValues.{is_fit, choice_in, title_in, hiddens, decimals_in}
use Rattle.sheet_job.specs.declared.hidden.Hidden.{Hidden}
use Rattle.sheet_job.specs.declared.hidden.Hidden.TheVariants as hidden
use Rattle.sheet_job.specs.declared.keys.SheetKey.{SheetKey}

-- ---- wrong values
-- a value that its key doesn't have, in the view with this number or in none; and how many bytes are before it
abbrev pub wrong_value : Option ℕ → Option SheetKey → Entry → Option (OwnFault × ℕ)
wrong_value view None e = None
wrong_value view (Some key) e = if is_right key e.value then None else Some (wrong key (is_quoted key e.value) view, e.value_at)

-- the first one of some entries of such a table, which may be the view with this number
abbrev pub first_wrong : TableKind → Option ℕ → List Entry → Option (OwnFault × ℕ)
first_wrong kind view [] = None
first_wrong kind view (e ∷ es) = option_or (wrong_value view (key_named kind e.key) e) (first_wrong kind view es)

-- the first one of views, which are counted from this number on
abbrev pub wrong_in_views : ℕ → List Table → Option (OwnFault × ℕ)
wrong_in_views number [] = None
wrong_in_views number (t ∷ ts) = option_or (first_wrong table.View (Some number) t.entries) (wrong_in_views (number + 1) ts)

-- no block is one without entries
abbrev pub entries_in : Option Table → List Entry
entries_in None = []
entries_in (Some t) = t.entries

-- the first one of all: of the job, then of the block, then of the views
abbrev pub wrong_in : Tables → Option (OwnFault × ℕ)
wrong_in t = option_or (first_wrong table.Job None t.job.entries) (option_or (first_wrong table.Block None (entries_in t.block)) (wrong_in_views 0 t.views))

-- ---- values
-- the texts of a title block, each at its key; empty where there is none
pub record BlockValues : Type 0 where
  pub number : List ℕ
  pub kind : List ℕ
  pub material : List ℕ
  pub author : List ℕ
  pub approved : List ℕ
  pub date : List ℕ
  pub revision : List ℕ
  pub company : List ℕ
  pub tolerances : List ℕ
  pub note : List ℕ

abbrev pub text_at : List ℕ → List Entry → List ℕ
text_at name entries = or_usual [] (meaning_at title_in name entries)

abbrev pub block_of : List Entry → BlockValues
block_of entries = record {
  number = text_at (codes "number") entries;
  kind = text_at (codes "type") entries;
  material = text_at (codes "material") entries;
  author = text_at (codes "author") entries;
  approved = text_at (codes "approved") entries;
  date = text_at (codes "date") entries;
  revision = text_at (codes "revision") entries;
  company = text_at (codes "company") entries;
  tolerances = text_at (codes "tolerances") entries;
  note = text_at (codes "note") entries;
}

-- The values of a job. No number of decimals is "fit"; no title is the name of the part's file. With any paper, `paper` is the usual one.
pub record SheetJobValues : Type 0 where
  pub decimals : Option ℕ
  pub third : Bool
  pub paper : Paper
  pub any_paper : Bool
  pub scale : Option (ℕ × ℕ)
  pub crease : Crease
  pub title : Option (List ℕ)
  pub unit : Length
  pub portrait : Bool
  pub hidden : Hidden
  pub block : BlockValues
  pub views : List SheetViewValues

-- each at its key, or the usual one
abbrev pub values_with : List Entry → BlockValues → List SheetViewValues → SheetJobValues
values_with entries block views = record {
  decimals = or_usual None (meaning_at decimals_in (codes "decimals") entries);
  third = or_usual false (meaning_at (choice_in angles) (codes "angle") entries);
  paper = or_usual A3 (meaning_at (choice_in papers) (codes "sheet") entries);
  any_paper = or_usual false (option_map (λ e. is_fit e.value) (entry_of (codes "sheet") entries));
  scale = or_usual None (meaning_at (choice_in fits) (codes "scale") entries);
  crease = or_usual Normal (meaning_at (choice_in creases) (codes "crease") entries);
  title = meaning_at title_in (codes "title") entries;
  unit = or_usual Millimetre (meaning_at (choice_in lengths) (codes "unit") entries);
  portrait = or_usual false (meaning_at (choice_in layouts) (codes "layout") entries);
  hidden = or_usual hidden.Plain (meaning_at (choice_in hiddens) (codes "hidden") entries);
  block = block;
  views = views;
}

-- what tables say: a wrong value, or the views' first fault, or the values
abbrev pub sheet_job_of : Tables → Result SheetJobValues (OwnFault × ℕ)
sheet_job_of t = unless (wrong_in t) (sheet_views_of t.views >>= λ views. Ok (values_with t.job.entries (block_of (entries_in t.block)) views))

-- ---- texts
-- the flaw of a text's lines
abbrev pub of_lines : List ℕ → Result (List TextLine) (Flaw × ℕ) → Result (List TextLine) (OwnFault × ℕ)
of_lines text (Ok lines) = Ok lines
of_lines text (Err (flaw, left)) = Err (in_line flaw, length text - left)

-- the fault of the lines' tables
abbrev pub of_tables : Result Tables (Fault × ℕ) → Result Tables (OwnFault × ℕ)
of_tables (Ok tables) = Ok tables
of_tables (Err (fault, at)) = Err (in_tables fault, at)

-- what a text of version 3 says: the fault of its lines, of its tables, of its values or of its views; or the values
abbrev pub sheet_job_of_text : List ℕ → Result SheetJobValues (OwnFault × ℕ)
sheet_job_of_text text = of_lines text (text_lines text) >>= λ lines. of_tables (job_tables lines) >>= λ tables. sheet_job_of tables
