-- The sheet of a job, and when its views don't fit.
use Rattle.std.specs.Prelude.{◌≡◌, ℕ, ◌<◌, ℤ, pos, List, [], ◌∷◌, Option, None, Some, Bool, if◌then◌else◌, slice_get}
use Rattle.job_file.specs.declared.job.Job.{Job}
use Rattle.job_file.specs.declared.job.Paper.{Paper}
use Rattle.job_file.specs.declared.job.Paper.TheVariants.{A0, A1, A2, A3, A4}
use Rattle.job_file.specs.declared.job.Scale.{Scale}
use Rattle.sheet_plan.specs.declared.bounds.Extent.{Extent}
use Rattle.sheet_plan.specs.declared.cells.Shape.{Shape}
use Rattle.sheet_plan.specs.declared.errors.PlanError.{PlanError}
use Rattle.sheet_plan.specs.declared.errors.PlanError.TheVariants.{DoesNotFit, Memory}
use Rattle.sheet_plan.specs.declared.sheet.Sheet.{Sheet}
use Rattle.sheet_plan.specs.Layout.{shapes_of, need_w, need_h, have_w, have_h, Fit, AreInPlace}

-- the longer side of paper, and the shorter one
abbrev pub paper_width : Paper → ℤ
paper_width A0 = pos 118900
paper_width A1 = pos 84100
paper_width A2 = pos 59400
paper_width A3 = pos 42000
paper_width A4 = pos 29700

abbrev pub paper_height : Paper → ℤ
paper_height A0 = pos 84100
paper_height A1 = pos 59400
paper_height A2 = pos 42000
paper_height A3 = pos 29700
paper_height A4 = pos 21000

-- a sheet lies, or it stands upright
abbrev pub sheet_width : Paper → Bool → ℤ
sheet_width paper portrait = if portrait then paper_height paper else paper_width paper

abbrev pub sheet_height : Paper → Bool → ℤ
sheet_height paper portrait = if portrait then paper_width paper else paper_height paper

-- the shapes of a job's views at the scale num : den
abbrev pub job_shapes : Job → List Extent → ℕ → ℕ → List Shape
job_shapes job extents num den = shapes_of job.third (record { num = num; den = den; decimals = job.decimals }) job.views.items extents

abbrev pub FitsAt : Job → List Extent → ℕ → ℕ → Type 0
FitsAt job extents num den = Fit (job_shapes job extents num den) (sheet_width job.paper job.portrait) (sheet_height job.paper job.portrait)

-- the scales that are tried where none is asked for, one after the other: 1 to each of these
abbrev pub fit_dens : List ℕ
fit_dens = 1 ∷ 2 ∷ 5 ∷ 10 ∷ 20 ∷ 50 ∷ 100 ∷ []

-- the views don't fit at the first n of these
abbrev pub NoneFits : Job → List Extent → ℕ → Type 0
NoneFits job extents n = (j den : ℕ) → j < n → slice_get fit_dens j ≡ Some den → ¬ FitsAt job extents 1 den

-- num : den is the first of these at which the views fit
pub record IsFirstFitting (job : Job) (extents : List Extent) (num den : ℕ) : Type 0 where
  pub number : ℕ
  pub listed : slice_get fit_dens number ≡ Some den
  pub one : num ≡ 1
  pub none_before : NoneFits job extents number

-- num : den is the scale that the job asks for, or else the first that fits
abbrev pub IsChosen : Option Scale → Job → List Extent → ℕ → ℕ → Type 0
IsChosen (Some scale) job extents num den = (num ≡ scale.num) × (den ≡ scale.den)
IsChosen None job extents num den = IsFirstFitting job extents num den

-- the job's sheet at the scale num : den
pub record IsSheetAt (job : Job) (extents : List Extent) (num den : ℕ) (sheet : Sheet) : Type 0 where
  pub width : sheet.width ≡ sheet_width job.paper job.portrait
  pub height : sheet.height ≡ sheet_height job.paper job.portrait
  pub decimals : sheet.decimals ≡ job.decimals
  pub num_is : sheet.scale.num ≡ num
  pub den_is : sheet.scale.den ≡ den
  pub fits : FitsAt job extents num den
  pub in_place : AreInPlace (job_shapes job extents num den) extents sheet.places.items

-- the job's sheet: the views fit it at its scale, and stand in their cells
pub record IsPlanned (job : Job) (extents : List Extent) (sheet : Sheet) : Type 0 where
  pub num : ℕ
  pub den : ℕ
  pub chosen : IsChosen job.scale job extents num den
  pub sheet_at : IsSheetAt job extents num den sheet

-- the views don't fit at the scale num : den, with what they need and what they have
pub record HasNoRoom (job : Job) (extents : List Extent) (num den : ℕ) (w h room_w room_h : ℤ) : Type 0 where
  pub not_fit : ¬ FitsAt job extents num den
  pub need_w_is : w ≡ need_w (job_shapes job extents num den)
  pub need_h_is : h ≡ need_h (job_shapes job extents num den)
  pub have_w_is : room_w ≡ have_w (sheet_width job.paper job.portrait)
  pub have_h_is : room_h ≡ have_h (sheet_height job.paper job.portrait)

-- the views don't fit at the scale that the job asks for, or else at none that is tried, with the numbers of 1 : 100
abbrev pub HasNoScale : Option Scale → Job → List Extent → ℤ → ℤ → ℤ → ℤ → Type 0
HasNoScale (Some scale) job extents w h room_w room_h = HasNoRoom job extents scale.num scale.den w h room_w room_h
HasNoScale None job extents w h room_w room_h = NoneFits job extents 7 × HasNoRoom job extents 1 100 w h room_w room_h

-- why a job has no sheet
abbrev pub IsSheetRefused : Job → List Extent → PlanError → Type 0
IsSheetRefused job extents (DoesNotFit w h room_w room_h) = HasNoScale job.scale job extents w h room_w room_h
IsSheetRefused job extents (Memory e) = Unit {0}
