-- The views of a job of version 3.
use Rattle.std.specs.Prelude.{ℕ, Bool, List, [], ◌∷◌, ◌++◌, length, Option, Some, None, option_map, option_and_then, Result, Ok, Err, if◌then◌else◌, codes}
use Rattle.std.specs.List.{find, list_any}
use Rattle.std.specs.Option.{option_or}
use Rattle.std.specs.Str.{bytes_eq}
use Rattle.job_file.specs.CutKeys.{axes, sides}
use Rattle.job_file.specs.Names.{direction_of, principals}
use Rattle.job_file.specs.ViewKeys.{is_named}
use Rattle.job_file.specs.declared.view.Principal.{Principal}
use Rattle.job_file.specs.declared.view.Principal.TheVariants.{Front, Above, Left}
use Rattle.job_tables.specs.Tables.{Entry, Table}
use Rattle.job_text.specs.Values.{Written}
use Rattle.lattice.specs.Triple.{Triple}
use Rattle.lattice.specs.declared.points.Axis.{Axis}
use Rattle.sheet_job.specs.SheetFaults.{OwnFault, in_view, ◌>>=◌, unless}
use Rattle.sheet_job.specs.WrittenValues.{flag_in, choice_in, title_in, toward_in, length_in}
use Rattle.sheet_job.specs.declared.flaw.ViewFlaw.{ViewFlaw}
use Rattle.sheet_job.specs.declared.flaw.ViewFlaw.TheVariants.{Form, WithoutCut, WithoutAt, WithoutFrom, NameTaken}
use Rattle.sheet_job.specs.declared.keys.SheetKey.{SheetKey}
use Rattle.sheet_job.specs.declared.keys.SheetKey.TheVariants as key

-- ---- the values at keys
abbrev pub entry_of : List ℕ → List Entry → Option Entry
entry_of name entries = find (λ e. bytes_eq name e.key) entries

-- what the value at a key means. It is one that the key may have: others are found before.
abbrev pub meaning_at : {A : Type 0} → (Written → Option A) → List ℕ → List Entry → Option A
meaning_at meaning name entries = option_and_then (λ e. meaning e.value) (entry_of name entries)

-- the same, and how many bytes are before the value
abbrev pub placed_at : {A : Type 0} → (Written → Option A) → List ℕ → List Entry → Option (A × ℕ)
placed_at meaning name entries = option_and_then (λ e. option_map (λ x. (x, e.value_at)) (meaning e.value)) (entry_of name entries)

abbrev pub or_usual : {A : Type 0} → A → Option A → A
or_usual usual None = usual
or_usual usual (Some x) = x

-- ---- one view
-- the whole part from a direction; or what a cut across an axis leaves: the number at `at`, the side, and how many bytes are before the number
pub data SheetShownValues : Type 0 where
  plain : Triple → SheetShownValues
  cut : Axis → List ℕ → Bool → ℕ → SheetShownValues

-- no title is an empty one
pub record SheetViewValues : Type 0 where
  pub shows : SheetShownValues
  pub named : Option Principal
  pub title : List ℕ
  pub hidden : Option Bool

abbrev pub name_at : List Entry → Option (Principal × ℕ)
name_at entries = placed_at (choice_in principals) (codes "name") entries

abbrev pub hidden_at : List Entry → Option Bool
hidden_at entries = meaning_at flag_in (codes "hidden") entries

abbrev pub named_in : List Entry → Option Principal
named_in entries = option_map (λ n. n.0) (name_at entries)

-- a fault of the view with this number, at a place
abbrev pub view_fault : ViewFlaw → ℕ → List Entry → ℕ → OwnFault × ℕ
view_fault flaw n entries at = (in_view flaw n (named_in entries), at)

-- a key that only a cut has, and how many bytes are before it
abbrev pub cut_key_at : SheetKey → List ℕ → List Entry → Option (SheetKey × ℕ)
cut_key_at k name entries = option_map (λ e. (k, e.at)) (entry_of name entries)

-- the first of them
abbrev pub first_cut_key : List Entry → Option (SheetKey × ℕ)
first_cut_key entries =
    option_or (cut_key_at key.At (codes "at") entries) (option_or (cut_key_at key.From (codes "from") entries) (cut_key_at key.CutTitle (codes "title") entries))

abbrev pub without_cut : ℕ → List Entry → Option (OwnFault × ℕ)
without_cut n entries = option_map (λ k. view_fault (WithoutCut k.0) n entries k.1) (first_cut_key entries)

abbrev pub plain_view : Triple → Option Principal → Option Bool → SheetViewValues
plain_view direction named hidden = record { shows = plain direction; named = named; title = []; hidden = hidden }

-- a direction goes with no key of a cut
abbrev pub sheet_toward_view : ℕ → List Entry → Triple → Result SheetViewValues (OwnFault × ℕ)
sheet_toward_view n entries direction = unless (without_cut n entries) (Ok (plain_view direction None (hidden_at entries)))

-- nor does a name, which no earlier view has
abbrev pub sheet_named_view : List SheetViewValues → List Entry → Principal × ℕ → Result SheetViewValues (OwnFault × ℕ)
sheet_named_view earlier entries name =
    unless (without_cut (length earlier) entries)
    (if list_any (λ v. is_named name.0 v.named) earlier then Err (view_fault NameTaken (length earlier) entries name.1)
    else Ok (plain_view (direction_of name.0) (Some name.0) (hidden_at entries)))

-- the place and the side are there, in this order
abbrev pub sheet_cut_view : ℕ → Table → Axis → Option (List ℕ × ℕ) → Option Bool → Result SheetViewValues (OwnFault × ℕ)
sheet_cut_view n t axis None from_high = Err (view_fault WithoutAt n t.entries t.at)
sheet_cut_view n t axis (Some at) None = Err (view_fault WithoutFrom n t.entries t.at)
sheet_cut_view n t axis (Some at) (Some from_high) = Ok (record {
  shows = cut axis at.0 from_high at.1;
  named = None;
  title = or_usual [] (meaning_at title_in (codes "title") t.entries);
  hidden = hidden_at t.entries;
})

-- a view has exactly one of the three forms
abbrev pub view_of_form : List SheetViewValues → Table → Option (Principal × ℕ) → Option Triple → Option Axis → Result SheetViewValues (OwnFault × ℕ)
view_of_form earlier t (Some name) None None = sheet_named_view earlier t.entries name
view_of_form earlier t None (Some direction) None = sheet_toward_view (length earlier) t.entries direction
view_of_form earlier t None None (Some axis) =
    sheet_cut_view (length earlier) t axis (placed_at length_in (codes "at") t.entries) (meaning_at (choice_in sides) (codes "from") t.entries)
view_of_form earlier t name direction axis = Err (view_fault Form (length earlier) t.entries t.at)

-- the view of a table, after those before it
abbrev pub sheet_view_of : List SheetViewValues → Table → Result SheetViewValues (OwnFault × ℕ)
sheet_view_of earlier t =
    view_of_form earlier t (name_at t.entries) (meaning_at toward_in (codes "toward") t.entries) (meaning_at (choice_in axes) (codes "cut") t.entries)

-- ---- all views
-- one after the other
abbrev pub sheet_views_after : List SheetViewValues → List Table → Result (List SheetViewValues) (OwnFault × ℕ)
sheet_views_after earlier [] = Ok earlier
sheet_views_after earlier (t ∷ ts) = sheet_view_of earlier t >>= λ v. sheet_views_after (earlier ++ v ∷ []) ts

-- the whole part, as the name says
abbrev pub usual_view : Principal → SheetViewValues
usual_view p = plain_view (direction_of p) (Some p) None

-- front, above and left
abbrev pub usual_sheet_views : List SheetViewValues
usual_sheet_views = usual_view Front ∷ usual_view Above ∷ usual_view Left ∷ []

abbrev pub sheet_views_of : List Table → Result (List SheetViewValues) (OwnFault × ℕ)
sheet_views_of [] = Ok usual_sheet_views
sheet_views_of (t ∷ ts) = sheet_views_after [] (t ∷ ts)
