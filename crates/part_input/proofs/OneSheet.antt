-- A job's views of a part have one sheet, or none: what its lack refuses.
use Rattle.std.proofs.Common.{◌≡◌, ℤ, List, Result, Ok, Err, refl, sym, ap, ◌∙◌}
use Rattle.std.specs.Prelude.{IfErr}
use Rattle.answers_unique.proofs.OneSheet.{no_both, one_lack}
use Rattle.geometry.specs.Parts.{Part}
use Rattle.job_file.specs.Documents.{JobValues}
use Rattle.job_file.specs.Seen.{job_seen}
use Rattle.job_file.specs.declared.job.Job.{Job}
use Rattle.lattice.specs.declared.points.Corner.{Corner}
use Rattle.sheet_plan.specs.JobSheets.{HasSheet, HasNoSheet}
use Rattle.part_input.specs.Sheets.{PlansSheet, IsOfSheet, IsNoSheetOf}
use Rattle.part_input.specs.Steps.{Refuses}
use Rattle.part_input.specs.declared.fault.Fault.{Fault}
use Rattle.part_input.specs.declared.fault.Fault.TheVariants.{ReadFault, DoesNotFit, WriteFault, Memory}
use Rattle.part_input.proofs.Answered.{IsOfNoDesk}
use Rattle.part_input.proofs.Singles.{IsSingle}

-- ---- one answer
sheet_fits : (values : JobValues) (corners : List Corner) (w h room_w room_h : ℤ) → HasSheet values corners → HasNoSheet values corners w h room_w room_h → ⊥
sheet_fits values corners w h room_w room_h (job, e, sheet, is) (other, same, none) =
    no_both corners job other is.extents none.extents (e ∙ sym same) is.reach none.reach w h room_w room_h is.planned.num is.planned.den is.planned.chosen is.planned.sheet_at.fits none.refused

sheet_lacks : (values : JobValues) (corners : List Corner) (w h room_w room_h x y space_w space_h : ℤ) → HasNoSheet values corners w h room_w room_h → HasNoSheet values corners x y space_w space_h → DoesNotFit w h room_w room_h ≡ DoesNotFit x y space_w space_h
sheet_lacks values corners w h room_w room_h x y space_w space_h (job, e, none) (other, same, never) =
    let lack = one_lack corners job other none.extents never.extents (e ∙ sym same) none.reach never.reach w h room_w room_h x y space_w space_h none.refused never.refused in
    λ i. DoesNotFit (lack.0 i) (lack.1 i) (lack.2 i) (lack.3 i)

-- no sheet is refused for another fault
module _ (job : JobValues) (part : Part) where
  for_room : (e : Fault) → PlansSheet job part (Err e) → (w : ℤ) × (h : ℤ) × (room_w : ℤ) × (room_h : ℤ) × (e ≡ DoesNotFit w h room_w room_h) × HasNoSheet job part.corners w h room_w room_h
  for_room (DoesNotFit w h room_w room_h) p = (w, h, room_w, room_h, refl, p)
  for_room e p = elim p [ ]

  pub plan_single : IsSingle (PlansSheet job part)
  plan_single (Ok x) (Ok y) (e, _) (h, _) = ap Ok (e ∙ sym h)
  plan_single (Ok x) (Err d) (_, has) q = let t = for_room d q in absurd (sheet_fits job part.corners t.0 t.1 t.2 t.3 has t.5)
  plan_single (Err d) (Ok y) p (_, has) = let t = for_room d p in absurd (sheet_fits job part.corners t.0 t.1 t.2 t.3 has t.5)
  plan_single (Err d) (Err e) p q =
      let t = for_room d p in
      let u = for_room e q in
      ap Err (t.4 ∙ sheet_lacks job part.corners t.0 t.1 t.2 t.3 u.0 u.1 u.2 u.3 t.5 u.5 ∙ sym u.4)

-- ---- faults
pub refused_sheet : (job : Job) (part : Part) (e : Fault) → IsNoSheetOf job part.corners e → Refuses (PlansSheet (job_seen job) part) e
refused_sheet job part (DoesNotFit need_w need_h have_w have_h) none = (job, refl, none)
refused_sheet job part Memory none = tt
refused_sheet job part e none = absurd none

-- nor is it the desk's
pub sheet_no_desk : {X : Type 0} (r : Result X Fault) → IfErr r IsOfSheet → IfErr r IsOfNoDesk
sheet_no_desk (Ok x) h = tt
sheet_no_desk (Err (ReadFault input)) h = absurd h
sheet_no_desk (Err (WriteFault target)) h = absurd h
sheet_no_desk (Err e) h = tt
