-- A job of version 3 at a number of decimals.
use Rattle.std.specs.Prelude.{◌≡◌, ℕ, ℤ, ◌<◌, ◌≤◌, Bool, List, [], ◌∷◌, ◌++◌, All, length, Result, Ok, Err}
use Rattle.std.specs.List.{AllZip}
use Rattle.dec_text.specs.Numbers.{Number, magnitude_of, units_of}
use Rattle.dec_text.specs.declared.number.Length.{Length}
use Rattle.job_file.specs.Documents.{JobValues}
use Rattle.job_file.specs.Seen.{job_seen}
use Rattle.job_file.specs.ViewValues.{Shown, ViewValues, whole, behind}
use Rattle.job_file.specs.declared.job.Job.{Job}
use Rattle.job_text.specs.declared.place.TextPlace.{TextPlace}
use Rattle.lattice.specs.declared.points.Axis.{Axis}
use Rattle.sheet_job.specs.SheetJobs.{SheetJobValues}
use Rattle.sheet_job.specs.SheetSeen.{sheet_job_seen, sheet_view_seen}
use Rattle.sheet_job.specs.SheetViews.{SheetShownValues, plain, cut, SheetViewValues}
use Rattle.sheet_job.specs.declared.flaw.JobFlaw.TheVariants.{AtRange}
use Rattle.sheet_job.specs.declared.flaw.PlacedFlaw.{PlacedFlaw}
use Rattle.sheet_job.specs.declared.job.SheetJob.{SheetJob}
use Rattle.sheet_job.specs.declared.job_at.AtError.{AtError}
use Rattle.sheet_job.specs.declared.job_at.AtError.TheVariants.{Range, Memory}
use Rattle.sheet_job.specs.declared.shown.SheetShown.{SheetShown}
use Rattle.sheet_job.specs.declared.shown.SheetShown.TheVariants.{Plain, Cut}
use Rattle.sheet_job.specs.declared.view.SheetView.{SheetView}

-- ---- the plane of a cut
-- the number is so many units, 10 ^ decimals to a millimetre, at most 2^20 in size
abbrev pub IsUnitsAt : ℕ → Length → List ℕ → ℤ → Type 0
IsUnitsAt decimals unit at units = (n : Number at) × (magnitude_of decimals unit n ≤ 1048576) × (units_of decimals unit n ≡ units)

-- the plane is across the axis at this number
abbrev pub StandsAt : ℕ → Length → Axis → List ℕ → Bool → Shown → Type 0
StandsAt decimals unit axis at from_high shown = (units : ℤ) × IsUnitsAt decimals unit at units × (shown ≡ behind (record { axis = axis; at = units; from_high = from_high }))

abbrev pub IsShownAt : ℕ → Length → SheetShownValues → Shown → Type 0
IsShownAt decimals unit (plain direction) shown = shown ≡ whole direction
IsShownAt decimals unit (cut axis at from_high value_at) shown = StandsAt decimals unit axis at from_high shown

-- the view at this number of decimals
pub record IsViewAt (decimals : ℕ) (unit : Length) (v : SheetViewValues) (values : ViewValues) : Type 0 where
  pub shows : IsShownAt decimals unit v.shows values.shows
  pub named : values.named ≡ v.named

-- ---- out of range
-- it is at more units than 2^20
abbrev pub IsNumberTooFar : ℕ → Length → List ℕ → Type 0
IsNumberTooFar decimals unit at = (n : Number at) × (1048576 < magnitude_of decimals unit n)

abbrev pub IsShownTooFar : ℕ → Length → SheetShownValues → Type 0
IsShownTooFar decimals unit (plain direction) = ⊥
IsShownTooFar decimals unit (cut axis at from_high value_at) = IsNumberTooFar decimals unit at

-- the view's cut is too far away
abbrev pub IsTooFar : ℕ → Length → SheetViewValues → Type 0
IsTooFar decimals unit v = IsShownTooFar decimals unit v.shows

-- some view of the job is
pub record IsTooFarIn (decimals : ℕ) (job : SheetJobValues) : Type 0 where
  pub before : List SheetViewValues
  pub view : SheetViewValues
  pub after : List SheetViewValues
  pub all : job.views ≡ before ++ view ∷ after
  pub too_far : IsTooFar decimals job.unit view

-- the place of a cut's number
abbrev pub IsCutPlace : SheetShown → TextPlace → Type 0
IsCutPlace (Plain direction) place = ⊥
IsCutPlace (Cut c) place = place ≡ c.place

-- the flaw is the first view that is too far away, at the place of its number
pub record IsFirstTooFar (decimals : ℕ) (unit : Length) (views : List SheetView) (placed : PlacedFlaw) : Type 0 where
  pub before : List SheetView
  pub view : SheetView
  pub after : List SheetView
  pub all : views ≡ before ++ view ∷ after
  pub in_range : All (λ v. ¬ IsTooFar decimals unit (sheet_view_seen v)) before
  pub too_far : IsTooFar decimals unit (sheet_view_seen view)
  pub place : IsCutPlace view.shows placed.place
  pub flaw : placed.flaw ≡ AtRange (length before)

-- ---- jobs
-- what the job says at this number of decimals, with this title
pub record IsJobAt (decimals : ℕ) (title : List ℕ) (job : SheetJobValues) (values : JobValues) : Type 0 where
  pub decimals_are : values.decimals ≡ decimals
  pub third : values.third ≡ job.third
  pub paper : values.paper ≡ job.paper
  pub scale : values.scale ≡ job.scale
  pub crease : values.crease ≡ job.crease
  pub title_is : values.title ≡ title
  pub outputs : values.outputs ≡ []
  pub unit : values.unit ≡ job.unit
  pub portrait : values.portrait ≡ job.portrait
  pub views : AllZip (IsViewAt decimals job.unit) job.views values.views

-- the job at this number of decimals, or its first view that is too far away, unless memory ran out
abbrev pub GivesJobAt : ℕ → List ℕ → SheetJob → Result Job AtError → Type 0
GivesJobAt decimals title job (Ok made) = IsJobAt decimals title (sheet_job_seen job) (job_seen made)
GivesJobAt decimals title job (Err (Range placed)) = IsFirstTooFar decimals job.unit job.views.items placed × IsTooFarIn decimals (sheet_job_seen job)
GivesJobAt decimals title job (Err (Memory e)) = Unit {0}
