-- A drawing on the sheet that is planned for its job and its part.
use Rattle.std.proofs.Common.{◌≡◌, List, sym, subst}
use Rattle.lattice.specs.declared.points.Corner.{Corner}
use Rattle.job_file.specs.declared.job.Job.{Job}
use Rattle.sheet_plan.specs.JobSheets.{IsSheetOf}
use Rattle.sheet_plan.specs.declared.sheet.Sheet.{Sheet}
use Rattle.sheet_plan.proofs.JobSheets.{as_many_places, direction_of_place}
use Rattle.solid_mesh.specs.Solids.{solid_part}
use Rattle.solid_mesh.specs.declared.solid.Solid.{Solid}
use Rattle.drawing.specs.Drawing.{HasPlaces, IsDrawing, IsPlannedDrawing}
use Rattle.drawing.specs.declared.drawn.Drawing.{Drawing}

-- that has a place for each view
pub has_places : (job : Job) (corners : List Corner) (sheet : Sheet) → IsSheetOf job corners sheet → HasPlaces job.views.items sheet
has_places job corners sheet is = record { count = as_many_places job corners sheet is; direction = direction_of_place job corners sheet is }

pub planned : (d : Drawing) (solid : Solid) (job : Job) (sheet : Sheet) → (d.solid ≡ solid) × (d.job ≡ job) × (d.sheet ≡ sheet) → IsSheetOf job (solid_part solid).corners sheet → IsDrawing d → IsPlannedDrawing d
planned d solid job sheet (same_solid, same_job, same_sheet) is shows = record {
  shows = shows;
  sheet = subst (λ (s : Solid). IsSheetOf d.job (solid_part s).corners d.sheet) (sym same_solid)
      (subst (λ (j : Job). IsSheetOf j (solid_part solid).corners d.sheet) (sym same_job) (subst (λ (t : Sheet). IsSheetOf job (solid_part solid).corners t) (sym same_sheet) is));
}
