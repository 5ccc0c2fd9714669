-- What a drawing shows.
use Rattle.std.specs.Prelude.{◌≡◌, ◌≤◌, ℕ, List, length, All, Some, slice_get}
use Rattle.std.specs.List.{AllZip}
use Rattle.lattice.specs.Cuts.{Plane}
use Rattle.lattice.specs.Points.{of_dir}
use Rattle.lattice.specs.declared.pieces.Crease.{Crease}
use Rattle.job_file.specs.Seen.{direction_seen, job_seen}
use Rattle.job_file.specs.ShownCuts.{planes_in}
use Rattle.job_file.specs.declared.view.JobView.{JobView}
use Rattle.solid_mesh.specs.declared.solid.Solid.{Solid}
use Rattle.solid_mesh.specs.Solids.{solid_part}
use Rattle.sheet_plan.specs.Boxes.{Box, IsBoxOf}
use Rattle.sheet_plan.specs.Extents.{AreExtents}
use Rattle.sheet_plan.specs.JobSheets.{Drawn, IsSheetOf}
use Rattle.sheet_plan.specs.Sheets.{IsPlaceOf, spacing_of}
use Rattle.sheet_plan.specs.declared.bounds.Extent.{Extent}
use Rattle.sheet_plan.specs.declared.sheet.Sheet.{Sheet}
use Rattle.sheet_plan.specs.declared.sheet.Spread.{Spread}
use Rattle.sheet_plan.specs.declared.sheet.Stroke.{Stroke}
use Rattle.drawing_laws.specs.Standing.{StandsInBox}
use Rattle.view_lines.specs.Views.{ShowsView}
use Rattle.view_lines.specs.declared.numbers.ViewNumbers.{ViewNumbers}
use Rattle.view_lines.specs.declared.view.ViewDrawing.{ViewDrawing}
use Rattle.drawing.specs.Numbers.{SumsViews}
use Rattle.drawing.specs.Strokes.{AreStrokes}
use Rattle.drawing.specs.declared.drawn.Drawing.{Drawing}

-- the view shows the solid as the job's view asks for it, with the traces of these planes
abbrev pub ShowsJobView : Solid → Crease → List Plane → ℕ → JobView → ViewDrawing → Type 0
ShowsJobView solid crease cuts spacing asked view = ShowsView solid crease cuts spacing asked.spec view

-- how far the hatch lines of a sheet are apart
abbrev pub spacing_on : Sheet → ℕ
spacing_on sheet = spacing_of sheet.scale.num sheet.scale.den sheet.decimals

-- each stroke of the sheet stands in the box of its view
abbrev pub StandInBoxes : Sheet → List Extent → List Stroke → Type 0
StandInBoxes sheet extents strokes = All (λ s. (box : Box) → IsBoxOf sheet extents s.view box → StandsInBox box s) strokes

-- what it draws
abbrev pub drawn_in : Drawing → Drawn
drawn_in d = record { job = job_seen d.job; part = solid_part d.solid }

-- the sheet has a place for each view, which looks from the view's direction
pub record HasPlaces (views : List JobView) (sheet : Sheet) : Type 0 where
  pub count : length sheet.places.items ≡ length views
  pub direction : (n : ℕ) (view : JobView) (place : Spread) → slice_get views n ≡ Some view → IsPlaceOf sheet n place → of_dir place.d ≡ direction_seen view.spec

-- On its sheet, which has places for them, each view of the job is there, in their order, with the traces of the job's cuts; the
-- strokes stand in the boxes of their views; the bounds are the sums of those of the views, and there were at most as many tests, of
-- plain views and of those of cuts, and at most as many cells were counted.
pub record IsDrawing (d : Drawing) : Type 0 where
  pub views : AllZip (ShowsJobView d.solid d.job.crease (planes_in d.job.views.items) (spacing_on d.sheet)) d.job.views.items d.views.items
  pub placed : HasPlaces d.job.views.items d.sheet
  pub inside : (extents : List Extent) → AreExtents (solid_part d.solid).corners d.job.views.items extents → (strokes : List Stroke) → AreStrokes d.sheet d.views.items strokes → StandInBoxes d.sheet extents strokes
  pub bound : (sums : ViewNumbers) × SumsViews d.solid d.job.crease d.job.views.items sums × (d.bound ≡ sums.bound) × (d.cut_bound ≡ sums.cut_bound) × (d.cell_bound ≡ sums.cell_bound)
  pub tested : d.meter.tests ≤ d.bound
  pub cut_tested : d.cut_meter.tests ≤ d.cut_bound
  pub celled : d.cells.cells ≤ d.cell_bound

-- and the sheet is the job's for the solid
pub record IsPlannedDrawing (d : Drawing) : Type 0 where
  pub shows : IsDrawing d
  pub sheet : IsSheetOf d.job (solid_part d.solid).corners d.sheet
