-- How a sheet looks, by the words and the job.
use Rattle.std.specs.Prelude.{ℕ, ℤ, pos, Bool, true, false, not, ◌&&◌, ◌||◌, List, [], map, Option, Some, None, is_some, unwrap_or}
use Rattle.std.specs.Ordering.{int_eq}
use Rattle.lattice.specs.Triple.{Triple}
use Rattle.job_file.specs.ViewValues.{Shown, ViewValues, whole, behind}
use Rattle.sheet_job.specs.SheetJobs.{BlockValues}
use Rattle.sheet_job.specs.SheetViews.{SheetShownValues, SheetViewValues, plain, cut}
use Rattle.sheet_job.specs.declared.hidden.Hidden.{Hidden}
use Rattle.sheet_job.specs.declared.hidden.Hidden.TheVariants.{All, Plain, Never}
use Rattle.sheet_words.specs.Names.{Named, TextsSaid}
use Rattle.sheet_input.specs.Jobs.{AnyValues, older_job, own_job}

-- ---- hidden lines
-- two of a direction's three numbers are 0: it is along an axis
abbrev pub are_nothing : ℤ → ℤ → Bool
are_nothing a b = int_eq a (pos 0) && int_eq b (pos 0)

abbrev pub is_along : Triple → Bool
is_along d = are_nothing d.y d.z || (are_nothing d.x d.z || are_nothing d.x d.y)

-- a view shows the whole part along an axis
abbrev pub looks_along : Shown → Bool
looks_along (whole direction) = is_along direction
looks_along (behind plane) = false

abbrev pub shows_along : SheetShownValues → Bool
shows_along (plain direction) = is_along direction
shows_along (cut axis at from_high value_at) = false

-- hidden lines are drawn in a view of this kind, a plain one along an axis or not
abbrev pub draws_hidden : Hidden → Bool → Bool
draws_hidden All along = true
draws_hidden Plain along = along
draws_hidden Never along = false

-- by the words, or else by the view, or else by the job
abbrev pub hidden_in : Option Hidden → Option Bool → Hidden → Bool → Bool
hidden_in (Some words) view job along = draws_hidden words along
hidden_in None (Some view) job along = view
hidden_in None None job along = draws_hidden job along

-- in which of the job's views hidden lines are drawn; an older job draws them in plain views along an axis
abbrev pub hidden_by : Option Hidden → AnyValues → List Bool
hidden_by words (older_job values) = map (λ (v : ViewValues). hidden_in words None Plain (looks_along v.shows)) values.views
hidden_by words (own_job values) = map (λ (v : SheetViewValues). hidden_in words v.hidden values.hidden (shows_along v.shows)) values.views

-- ---- the title block
-- the texts of the block that the job has
abbrev pub job_block : AnyValues → BlockValues
job_block (older_job values) = record { number = []; kind = []; material = []; author = []; approved = []; date = []; revision = []; company = []; tolerances = []; note = [] }
job_block (own_job values) = values.block

-- with those of the words in their places
abbrev pub block_by : TextsSaid → BlockValues → BlockValues
block_by said block = record {
  number = unwrap_or said.number block.number;
  kind = block.kind;
  material = unwrap_or said.material block.material;
  author = block.author;
  approved = block.approved;
  date = unwrap_or said.date block.date;
  revision = unwrap_or said.revision block.revision;
  company = block.company;
  tolerances = block.tolerances;
  note = block.note;
}

-- ---- the titles of views
-- of a job of version 3 each view has one; an empty one is none
abbrev pub titles_of : AnyValues → List (List ℕ)
titles_of (older_job values) = map (λ (v : ViewValues). []) values.views
titles_of (own_job values) = map (λ (v : SheetViewValues). v.title) values.views

-- ---- all of it
-- the block, in which views hidden lines are drawn, the titles of the views, whether the number of decimals was left to the program,
-- and whether the job says the places of its cuts in units
pub record Look : Type 0 where
  pub block : BlockValues
  pub hidden : List Bool
  pub titles : List (List ℕ)
  pub fitted : Bool
  pub in_units : Bool

abbrev pub is_fitted : AnyValues → Bool
is_fitted (older_job values) = false
is_fitted (own_job values) = not (is_some values.decimals)

-- an older job says them in units
abbrev pub is_in_units : AnyValues → Bool
is_in_units (older_job values) = true
is_in_units (own_job values) = false

abbrev pub look_of : Named → AnyValues → Look
look_of named values = record {
  block = block_by named.said (job_block values);
  hidden = hidden_by named.hidden values;
  titles = titles_of values;
  fitted = is_fitted values;
  in_units = is_in_units values;
}
