-- What a job's sheet for a part has.
use Rattle.std.proofs.Common.{◌≡◌, ℕ, List, [], ◌∷◌, length, slice_get, Option, Some, zero, suc, refl, sym, subst, ◌∙◌}
use Rattle.std.specs.Prelude.{IfSome}
use Rattle.std.specs.List.{AllZip}
use Rattle.std.proofs.lemmas.Slice.Zip.{AllZip-long}
use Rattle.lattice.specs.declared.points.Corner.{Corner}
use Rattle.lattice.specs.Points.{of_dir}
use Rattle.job_file.specs.Seen.{direction_seen}
use Rattle.job_file.specs.declared.job.Job.{Job}
use Rattle.job_file.specs.declared.view.JobView.{JobView}
use Rattle.sheet_plan.specs.declared.bounds.Extent.{Extent}
use Rattle.sheet_plan.specs.declared.sheet.Sheet.{Sheet}
use Rattle.sheet_plan.specs.declared.sheet.Spread.{Spread}
use Rattle.sheet_plan.specs.Extents.{IsExtent, AreExtents}
use Rattle.sheet_plan.specs.JobSheets.{IsSheetOf}
use Rattle.sheet_plan.specs.Sheets.{IsPlaceOf}
use Rattle.sheet_plan.proofs.Rooms.{length_shapes_of}

-- there is an extent for each view
pub as_many_extents : (corners : List Corner) (views : List JobView) (extents : List Extent) → AreExtents corners views extents → length extents ≡ length views
as_many_extents corners views extents reach = AllZip-long (λ (v : JobView) (e : Extent). IsExtent (direction_seen v.spec) corners e) views extents reach

-- the sheet has a place for each view
pub as_many_places : (job : Job) (corners : List Corner) (sheet : Sheet) → IsSheetOf job corners sheet → length sheet.places.items ≡ length job.views.items
as_many_places job corners sheet is =
    is.planned.sheet_at.in_place.count ∙ length_shapes_of job.third _ job.views.items is.extents (sym (as_many_extents corners job.views.items is.extents is.reach))

-- each place looks from the direction of its view
reached : (corners : List Corner) (views : List JobView) (extents : List Extent) → AreExtents corners views extents → (n : ℕ) (view : JobView) → slice_get views n ≡ Some view
    → (e : Extent) × (slice_get extents n ≡ Some e) × IsExtent (direction_seen view.spec) corners e
reached corners [] [] reach n view at = absurd (subst (λ (o : Option JobView). IfSome o (λ v. ⊥)) at tt)
reached corners [] (e ∷ extents) reach n view at = absurd reach
reached corners (v ∷ views) [] reach n view at = absurd reach
reached corners (v ∷ views) (e ∷ extents) (extent, reach) zero view at = (e, refl, subst (λ (w : JobView). IsExtent (direction_seen w.spec) corners e) (first v view at) extent)
  where
    first : (x y : JobView) → Some x ≡ Some y → x ≡ y
    first x y same = cc same
reached corners (v ∷ views) (e ∷ extents) (extent, reach) (suc n) view at = reached corners views extents reach n view at

pub direction_of_place : (job : Job) (corners : List Corner) (sheet : Sheet) → IsSheetOf job corners sheet → (n : ℕ) (view : JobView) (place : Spread) → slice_get job.views.items n ≡ Some view → IsPlaceOf sheet n place
    → of_dir place.d ≡ direction_seen view.spec
direction_of_place job corners sheet is n view place at stands =
    let (e, there, extent) = reached corners job.views.items is.extents is.reach n view at in
    is.planned.sheet_at.in_place.direction n e place there stands ∙ extent.direction
