-- What a job says: the values at its keys, or its first fault.
use Rattle.std.specs.Prelude.{ℕ, ℤ, pos, negsuc, Bool, true, false, not, ◌||◌, nat_le, nat_lt, ◌==◌, List, [], ◌∷◌, map, length, Option, Some, None, option_map, option_and_then, Result, Ok, Err, if◌then◌else◌, codes}
use Rattle.std.specs.List.{list_all}
use Rattle.std.specs.Ordering.{int_eq}
use Rattle.std.specs.Str.{is_utf8}
use Rattle.dec_text.specs.declared.number.Length.{Length}
use Rattle.dec_text.specs.declared.number.Length.TheVariants.{Millimetre, Inch}
use Rattle.lattice.specs.declared.pieces.Crease.{Crease}
use Rattle.lattice.specs.declared.pieces.Crease.TheVariants.{Fine, Normal, Coarse}
use Rattle.toml.specs.Data.{Data, table, Members, get_member, as_str, as_integer, as_array}
use Rattle.toml.specs.Parse.{parse_document}
use Rattle.job_file.specs.declared.fault.JobFault.{JobFault}
use Rattle.job_file.specs.declared.fault.JobFault.TheVariants.{NotToml, Version, Wrong, TooManyViews}
use Rattle.job_file.specs.declared.fault.Key.TheVariants as key
use Rattle.job_file.specs.declared.job.Paper.{Paper}
use Rattle.job_file.specs.declared.job.Paper.TheVariants.{A3}
use Rattle.job_file.specs.declared.view.Principal.TheVariants.{Front, Above, Left}
use Rattle.job_file.specs.Arrays.{values_in}
use Rattle.job_file.specs.Keys.{unknown_key}
use Rattle.job_file.specs.Papers.{papers}
use Rattle.job_file.specs.declared.table.Kind.{Kind}
use Rattle.job_file.specs.declared.table.Kind.TheVariants.{JobOne, JobTwo}
use Rattle.job_file.specs.Scales.{scales}
use Rattle.job_file.specs.Steps.{◌>>=◌, unless, key_fault, or_wrong, value_or, look_up}
use Rattle.job_file.specs.Texts.{is_title, are_outputs}
use Rattle.job_file.specs.ViewKeys.{view_named, views_after}
use Rattle.job_file.specs.ViewValues.{ViewValues}

-- the values of a job, each at its key
pub record JobValues : Type 0 where
  pub decimals : ℕ
  pub third : Bool
  pub paper : Paper
  pub scale : Option (ℕ × ℕ)
  pub crease : Crease
  pub title : List ℕ
  pub outputs : List (List ℕ)
  pub unit : Length
  pub portrait : Bool
  pub views : List ViewValues

-- the version is 1 or 2
abbrev pub version_of : Option ℤ → Result Kind JobFault
version_of None = Err (Wrong key.Version)
version_of (Some n) = if int_eq n (pos 1) then Ok JobOne else if int_eq n (pos 2) then Ok JobTwo else Err (Version n)

abbrev pub version_at : Option Data → Result Kind JobFault
version_at None = Ok JobOne
version_at (Some d) = version_of (as_integer d)

-- the number of decimals is 0 to 6
abbrev pub decimals_of : Option ℤ → Option ℕ
decimals_of None = None
decimals_of (Some (pos n)) = if nat_le n 6 then Some n else None
decimals_of (Some (negsuc n)) = None

-- one of some texts
abbrev pub choice : {A : Type 0} → List (List ℕ × A) → Data → Option A
choice rows d = option_and_then (look_up rows) (as_str d)

-- third-angle projection, or not
abbrev pub angles : List (List ℕ × Bool)
angles = (codes "first", false) ∷ (codes "third", true) ∷ []

abbrev pub creases : List (List ℕ × Crease)
creases = (codes "fine", Fine) ∷ (codes "normal", Normal) ∷ (codes "coarse", Coarse) ∷ []

abbrev pub lengths : List (List ℕ × Length)
lengths = (codes "mm", Millimetre) ∷ (codes "inch", Inch) ∷ []

-- upright, or lying
abbrev pub layouts : List (List ℕ × Bool)
layouts = (codes "landscape", false) ∷ (codes "portrait", true) ∷ []

-- a scale, or none: the greatest one up to 1:1 at which the views fit the sheet
abbrev pub fits : List (List ℕ × Option (ℕ × ℕ))
fits = (codes "fit", None) ∷ map (λ row. (row.0, Some row.1)) scales

abbrev pub title_of : Data → Option (List ℕ)
title_of d = option_and_then (λ text. if is_title text then Some text else None) (as_str d)

-- the texts of some values, which all must be texts
abbrev pub texts_of : List Data → Option (List (List ℕ))
texts_of [] = Some []
texts_of (d ∷ ds) = option_and_then (λ text. option_map (λ texts. text ∷ texts) (texts_of ds)) (as_str d)

abbrev pub proper_outputs : List Data → Option (List (List ℕ))
proper_outputs ds = option_and_then (λ texts. if are_outputs texts then Some texts else None) (texts_of ds)

abbrev pub outputs_of : Data → Option (List (List ℕ))
outputs_of d = option_and_then (λ items. proper_outputs (values_in items)) (as_array d)

-- front, above and left
abbrev pub usual_views : List ViewValues
usual_views = view_named Front ∷ view_named Above ∷ view_named Left ∷ []

abbrev pub is_table : Data → Bool
is_table (table ms) = true
is_table _ = false

-- 1 to 12 tables
abbrev pub views_of : List Data → Result (List ViewValues) JobFault
views_of ds =
    if (length ds == 0) || not (list_all is_table ds) then Err (Wrong key.View)
    else if nat_lt 12 (length ds) then Err TooManyViews
    else views_after [] ds

abbrev pub views_at : Option Data → Result (List ViewValues) JobFault
views_at None = Ok usual_views
views_at (Some d) = or_wrong key.View (as_array d) >>= λ items. views_of (values_in items)

-- the values of a table, key by key, or its first fault
unfoldable pub job_of : Members → Result JobValues JobFault
job_of ms =
    version_at (get_member (codes "version") ms) >>= λ kind.
    unless (key_fault (unknown_key kind ms)) (
    value_or 3 key.Decimals (λ d. decimals_of (as_integer d)) (get_member (codes "decimals") ms) >>= λ decimals.
    value_or false key.Angle (choice angles) (get_member (codes "angle") ms) >>= λ third.
    value_or A3 key.Sheet (choice papers) (get_member (codes "sheet") ms) >>= λ paper.
    value_or None key.Scale (choice fits) (get_member (codes "scale") ms) >>= λ scale.
    value_or Normal key.Crease (choice creases) (get_member (codes "crease") ms) >>= λ crease.
    value_or (codes "") key.Title title_of (get_member (codes "title") ms) >>= λ title.
    value_or [] key.Outputs outputs_of (get_member (codes "outputs") ms) >>= λ outputs.
    value_or Millimetre key.Unit (choice lengths) (get_member (codes "unit") ms) >>= λ unit.
    value_or false key.Layout (choice layouts) (get_member (codes "layout") ms) >>= λ portrait.
    views_at (get_member (codes "view") ms) >>= λ views.
    Ok (record { decimals = decimals; third = third; paper = paper; scale = scale; crease = crease; title = title; outputs = outputs; unit = unit; portrait = portrait; views = views }))

-- the table that bytes are, by the grammar of TOML
abbrev pub table_of : List ℕ → Option Members
table_of bytes = if is_utf8 bytes then parse_document bytes else None

-- what bytes say as a job
abbrev pub job_of_table : Option Members → Result JobValues JobFault
job_of_table None = Err NotToml
job_of_table (Some ms) = job_of ms

abbrev pub job_of_bytes : List ℕ → Result JobValues JobFault
job_of_bytes bytes = job_of_table (table_of bytes)
