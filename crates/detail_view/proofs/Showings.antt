-- The job and the part of a detail, in their order.
use Rattle.std.proofs.Common.{◌⊎◌, ℕ, inl, inr}
use Rattle.std.specs.Prelude.{Result, Ok, Err, IfErr}
use Rattle.desk.specs.Files.{Files}
use Rattle.job_file.specs.Documents.{JobValues}
use Rattle.part_input.specs.Parts.{sample_size}
use Rattle.part_input.proofs.Missing.{no_size}
use Rattle.part_input.specs.declared.fault.Input.TheVariants.{Part as ThePart}
use Rattle.part_input.specs.declared.fault.Fault.TheVariants.{ReadFault}
use Rattle.detail_view.specs.Run.{IsOfJob, IsOfView, IsOfPartNamed, IsOfDetail, TakesViewed, DetailsInOrder}
use Rattle.part_input.specs.Steps.{◌and_then◌}
use Rattle.detail_view.specs.inner.Steps.{GivesPieces, IsMissing}
use Rattle.detail_view.specs.Words.{Detail}
use Rattle.detail_view.specs.declared.fault.PiecesFault.{PiecesFault}
use Rattle.detail_view.specs.declared.fault.PiecesFault.TheVariants.{Input, ReadList}
use Rattle.detail_view.proofs.Chains.{refuses_as}

-- what the first step gave goes on
pub gives_next : {A B X : Type 0} (first : Result A PiecesFault → Type 0) (next : A → Result B PiecesFault → Type 0) (x : A) → first (Ok x)
    → (view : X → B) (r : Result X PiecesFault) → GivesPieces view (next x) r → GivesPieces view (first and_then next) r
gives_next first next x so_far view (Ok y) h = (x, so_far, h)
gives_next first next x so_far view (Err e) h = refuses_as (next x) (first and_then next) (λ e h. inr (x, so_far, h)) e h

module _ (files : Files) (d : Detail) where
  pub viewed_in_order : (e : PiecesFault) → IsOfJob e ⊎ IsOfView d.view e → DetailsInOrder files d e
  viewed_in_order (Input (ReadFault ThePart)) (inl h) = absurd h.0
  viewed_in_order (Input (ReadFault ThePart)) (inr h) = absurd h
  viewed_in_order e h = tt

  pub part_in_order : (job : JobValues) → TakesViewed files d (Ok job) → (e : PiecesFault) → IsOfPartNamed d.part e → DetailsInOrder files d e
  part_in_order job taken (Input (ReadFault ThePart)) h = (no_size (sample_size d.part) ThePart h.0, job, taken)
  part_in_order job taken e h = tt

  pub of_viewed : (e : PiecesFault) → IsOfJob e ⊎ IsOfView d.view e → IsOfDetail d e
  of_viewed e (inl h) = inl h
  of_viewed e (inr h) = inr (inl h)

-- a view that a job lacks is no fault of the desk
pub view_no_reading : {A X : Type 0} (steps : Result A PiecesFault → Type 0) (view : ℕ) (r : Result X PiecesFault) → IfErr r (IsOfView view) → IfErr r (IsMissing steps)
view_no_reading steps view (Ok x) h = tt
view_no_reading steps view (Err (Input e)) h = absurd h
view_no_reading steps view (Err ReadList) h = absurd h
view_no_reading steps view (Err e) h = tt
