-- The keys of a job of version 3, and which values they may have.
use Rattle.std.specs.Prelude.{ℕ, Bool, true, false, ◌||◌, List, [], ◌∷◌, Option, Some, None, is_some, codes}
use Rattle.std.specs.Str.{bytes_eq}
use Rattle.job_file.specs.CutKeys.{axes, sides}
use Rattle.job_file.specs.Documents.{angles, creases, fits, layouts, lengths}
use Rattle.job_file.specs.Names.{principals}
use Rattle.job_file.specs.Papers.{papers}
use Rattle.job_file.specs.Steps.{look_up}
use Rattle.job_tables.specs.declared.table.TableKind.{TableKind}
use Rattle.job_tables.specs.declared.table.TableKind.TheVariants as table
use Rattle.job_text.specs.Values.{Written}
use Rattle.sheet_job.specs.declared.keys.SheetKey.{SheetKey}
use Rattle.sheet_job.specs.declared.keys.SheetKey.TheVariants as key
use Rattle.sheet_job.specs.WrittenValues.{text_in, flag_in, is_fit, choice_in, title_in, hiddens, decimals_digit, decimals_in, toward_in, is_length, length_in}

-- ---- the keys of each table, in its order
abbrev pub job_keys : List (List ℕ × SheetKey)
job_keys =
    (codes "version", key.Version) ∷ (codes "title", key.Title) ∷ (codes "unit", key.Unit) ∷ (codes "decimals", key.Decimals) ∷ (codes "sheet", key.Sheet)
    ∷ (codes "layout", key.Layout) ∷ (codes "angle", key.Angle) ∷ (codes "scale", key.Scale) ∷ (codes "crease", key.Crease) ∷ (codes "hidden", key.Hidden) ∷ []

abbrev pub block_keys : List (List ℕ × SheetKey)
block_keys =
    (codes "number", key.Number) ∷ (codes "type", key.Kind) ∷ (codes "material", key.Material) ∷ (codes "author", key.Author) ∷ (codes "approved", key.Approved)
    ∷ (codes "date", key.Date) ∷ (codes "revision", key.Revision) ∷ (codes "company", key.Company) ∷ (codes "tolerances", key.Tolerances) ∷ (codes "note", key.Note) ∷ []

abbrev pub view_keys : List (List ℕ × SheetKey)
view_keys =
    (codes "name", key.Name) ∷ (codes "toward", key.Toward) ∷ (codes "cut", key.Cut) ∷ (codes "at", key.At) ∷ (codes "from", key.From)
    ∷ (codes "title", key.CutTitle) ∷ (codes "hidden", key.HiddenHere) ∷ []

abbrev pub key_named : TableKind → List ℕ → Option SheetKey
key_named table.Job name = look_up job_keys name
key_named table.Block name = look_up block_keys name
key_named table.View name = look_up view_keys name

-- ---- their values
-- The key may have the value. The version isn't read here: it is 3.
abbrev pub is_right : SheetKey → Written → Bool
is_right key.Version value = true
is_right key.Title value = is_some (title_in value)
is_right key.Unit value = is_some (choice_in lengths value)
is_right key.Decimals value = is_some (decimals_in value)
is_right key.Sheet value = is_some (choice_in papers value) || is_fit value
is_right key.Layout value = is_some (choice_in layouts value)
is_right key.Angle value = is_some (choice_in angles value)
is_right key.Scale value = is_some (choice_in fits value)
is_right key.Crease value = is_some (choice_in creases value)
is_right key.Hidden value = is_some (choice_in hiddens value)
is_right key.Number value = is_some (title_in value)
is_right key.Kind value = is_some (title_in value)
is_right key.Material value = is_some (title_in value)
is_right key.Author value = is_some (title_in value)
is_right key.Approved value = is_some (title_in value)
is_right key.Date value = is_some (title_in value)
is_right key.Revision value = is_some (title_in value)
is_right key.Company value = is_some (title_in value)
is_right key.Tolerances value = is_some (title_in value)
is_right key.Note value = is_some (title_in value)
is_right key.Name value = is_some (choice_in principals value)
is_right key.Toward value = is_some (toward_in value)
is_right key.Cut value = is_some (choice_in axes value)
is_right key.At value = is_some (length_in value)
is_right key.From value = is_some (choice_in sides value)
is_right key.CutTitle value = is_some (title_in value)
is_right key.HiddenHere value = is_some (flag_in value)

-- the key may have the value that these bytes are without quotes
abbrev pub is_right_bare : SheetKey → List ℕ → Bool
is_right_bare key.Decimals t = is_some (decimals_digit t)
is_right_bare key.At t = is_length t
is_right_bare key.HiddenHere t = bytes_eq t (codes "true") || bytes_eq t (codes "false")
is_right_bare _ t = false

abbrev pub is_right_text : SheetKey → Option (List ℕ) → Bool
is_right_text key None = false
is_right_text key (Some t) = is_right_bare key t

-- a text that the key may have without its quotes
abbrev pub is_quoted : SheetKey → Written → Bool
is_quoted key value = is_right_text key (text_in value)
