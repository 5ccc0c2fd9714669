-- The sheet on which the views of a job stand, as far as a part reaches in them.
use Rattle.std.specs.Prelude.{◌≡◌, ℤ, List}
use Rattle.lattice.specs.declared.points.Corner.{Corner}
use Rattle.geometry.specs.Parts.{Part}
use Rattle.job_file.specs.Documents.{JobValues}
use Rattle.job_file.specs.Seen.{job_seen}
use Rattle.job_file.specs.declared.job.Job.{Job}
use Rattle.sheet_plan.specs.declared.bounds.Extent.{Extent}
use Rattle.sheet_plan.specs.declared.errors.PlanError.TheVariants.{DoesNotFit as NotFitting}
use Rattle.sheet_plan.specs.declared.sheet.Sheet.{Sheet}
use Rattle.sheet_plan.specs.Boxes.{ViewsAreApart, ViewsAreWithinMargins, StandInColumn, StandInRow}
use Rattle.sheet_plan.specs.Extents.{AreExtents}
use Rattle.sheet_plan.specs.Plans.{IsPlanned, IsSheetRefused}

-- the job's sheet for a part with these corners: its views stand apart, within the margins and in line
pub record IsSheetOf (job : Job) (corners : List Corner) (sheet : Sheet) : Type 0 where
  pub extents : List Extent
  pub reach : AreExtents corners job.views.items extents
  pub planned : IsPlanned job extents sheet
  pub apart : ViewsAreApart extents sheet
  pub within_margins : ViewsAreWithinMargins extents sheet
  pub columns : StandInColumn job extents sheet
  pub rows : StandInRow job extents sheet

-- the job's views of such a part don't fit their sheet: they need so much, and have so much
pub record HasNoRoomFor (job : Job) (corners : List Corner) (need_w need_h have_w have_h : ℤ) : Type 0 where
  pub extents : List Extent
  pub reach : AreExtents corners job.views.items extents
  pub refused : IsSheetRefused job extents (NotFitting need_w need_h have_w have_h)

-- that there is such a sheet for a job with these values, and that there is none
abbrev pub HasSheet : JobValues → List Corner → Type 0
HasSheet values corners = (job : Job) × (job_seen job ≡ values) × (sheet : Sheet) × IsSheetOf job corners sheet

abbrev pub HasNoSheet : JobValues → List Corner → ℤ → ℤ → ℤ → ℤ → Type 0
HasNoSheet values corners need_w need_h have_w have_h = (job : Job) × (job_seen job ≡ values) × HasNoRoomFor job corners need_w need_h have_w have_h

-- what is drawn, and by which job
pub record Drawn : Type 0 where
  pub job : JobValues
  pub part : Part
