-- What a chain of steps answers, from the answer of a part of it.
use Rattle.std.proofs.Common.{◌⊎◌, ℕ, List, None, inl, inr}
use Rattle.std.specs.Prelude.{Result, Ok, Err, Some, IfErr}
use Rattle.desk.specs.Files.{Files}
use Rattle.geometry.specs.Parts.{Part}
use Rattle.job_file.specs.Documents.{JobValues}
use Rattle.piece_verify.specs.declared.check.Verdict.{Verdict}
use Rattle.part_input.specs.Faults.{CountsReads as CountsInput}
use Rattle.part_input.specs.Jobs.{TakesReadJob, IsOfJobFile}
use Rattle.part_input.specs.Parts.{sample_size, IsOfPart}
use Rattle.part_input.proofs.Missing.{no_size, part_not_written}
use Rattle.part_input.specs.Steps.{◌and_then◌, Refuses as RefusesInput, IsMissing as IsMissingInput}
use Rattle.part_input.proofs.Chains.{missing_more, refuses_more}
use Rattle.part_input.specs.declared.fault.Input.TheVariants.{Part as ThePart}
use Rattle.part_input.specs.declared.fault.Fault.{Fault}
use Rattle.part_input.specs.declared.fault.Fault.TheVariants as input
use Rattle.part_input.proofs.Answered.{IsOfNoWriting}
use Rattle.detail_view.specs.Faults.{fault_of, pieces_faults}
use Rattle.detail_view.specs.inner.Steps.{CountsReads}
use Rattle.detail_view.specs.Run.{Given, TakesPart, IsOfJob, IsOfPartNamed, IsOfList, IsOfCheck, ChecksInOrder}
use Rattle.detail_view.specs.Words.{Check}
use Rattle.detail_view.specs.inner.Judging.{Judges, ComesAfterJob}
use Rattle.detail_view.specs.Steps.{Lifted}
use Rattle.detail_view.specs.inner.Steps.{Refuses, IsMissing}
use Rattle.detail_view.specs.declared.fault.PiecesFault.{PiecesFault}
use Rattle.detail_view.specs.declared.fault.PiecesFault.TheVariants.{Input, ReadList}

-- what is refused by some steps is refused by others that refuse at least as much
module _ {A B : Type 0} (steps : Result A PiecesFault → Type 0) (others : Result B PiecesFault → Type 0) (more : (e : PiecesFault) → steps (Err e) → others (Err e)) where
  pub refuses_as : (e : PiecesFault) → Refuses steps e → Refuses others e
  refuses_as e r = refuses_more pieces_faults steps others more e r

  pub missing_as : (e : PiecesFault) → IsMissing steps e → IsMissing others e
  missing_as e r = missing_more pieces_faults steps others more e r

-- ---- steps of reading a job or a part
module _ {A : Type 0} (steps : Result A Fault → Type 0) where
  pub lift_refused : (e : Fault) → IsOfNoWriting e → RefusesInput steps e → Refuses (Lifted steps) (fault_of e)
  lift_refused input.Memory w h = tt
  lift_refused (input.ReadFault which) w h = tt
  lift_refused (input.WriteFault target) w h = absurd w
  lift_refused e w h = h

  pub lift_missing : (e : Fault) → IsMissingInput steps e → IsMissing (Lifted steps) (fault_of e)
  lift_missing (input.ReadFault which) m = m
  lift_missing e m = tt

pub lift_counts : (e : Fault) (old new : ℕ) → CountsInput (Some e) old new → CountsReads (Some (fault_of e)) old new
lift_counts input.Memory old new h = h
lift_counts e old new h = h

pub lift_of_job : (e : Fault) → IsOfJobFile e → IsOfJob (fault_of e)
lift_of_job input.Memory h = tt
lift_of_job e h = (h, tt)

pub lift_of_part : (name : _) (e : Fault) → IsOfPart name e → IsOfPartNamed name (fault_of e)
lift_of_part name input.Memory h = tt
lift_of_part name e h = (h, tt)

pub part_no_writing : (name : List ℕ) (e : Fault) → IsOfPart name e → IsOfNoWriting e
part_no_writing name e h = let r : Result ℕ Fault = Err e in part_not_written (λ n. None) name r h

-- what the first step gave goes on
module _ {A B : Type 0} (first : Result A PiecesFault → Type 0) (next : A → Result B PiecesFault → Type 0) where
  pub refuses_first : (e : PiecesFault) → Refuses first e → Refuses (first and_then next) e
  refuses_first e h = refuses_as first (first and_then next) (λ e h. inl h) e h

  pub missing_first : (e : PiecesFault) → IsMissing first e → IsMissing (first and_then next) e
  missing_first e h = missing_as first (first and_then next) (λ e h. inl h) e h

  module _ (x : A) (so_far : first (Ok x)) where
    pub missing_next : {X : Type 0} (r : Result X PiecesFault) → IfErr r (IsMissing (next x)) → IfErr r (IsMissing (first and_then next))
    missing_next (Ok y) h = tt
    missing_next (Err e) h = missing_as (next x) (first and_then next) (λ e h. inr (x, so_far, h)) e h

-- the verdict on what the steps before gave
pub judges_next : {A : Type 0} (first : Result A PiecesFault → Type 0) (next : A → Result Given PiecesFault → Type 0) (x : A) → first (Ok x)
    → (r : Result Verdict PiecesFault) → Judges (next x) r → Judges (first and_then next) r
judges_next first next x so_far (Ok v) h =
    record { job = h.job; solid = h.solid; strokes = h.strokes; entries = h.entries; given = (x, so_far, h.given); read = h.read; is = h.is }
judges_next first next x so_far (Err e) h = refuses_as (next x) (first and_then next) (λ e h. inr (x, so_far, h)) e h

-- ---- which faults are whose, and in which order
module _ (files : Files) (c : Check) where
  pub part_after : (job : JobValues) (e : PiecesFault) → IsOfPartNamed c.part e → ComesAfterJob files c job e
  part_after job (Input (input.ReadFault which)) h = no_size (sample_size c.part) which h.0
  part_after job ReadList h = absurd h
  part_after job e h = tt

  pub list_after : (job : JobValues) (part : Part) → TakesPart files c.part job (Ok part) → {X : Type 0} (r : Result X PiecesFault) → IfErr r IsOfList → IfErr r (ComesAfterJob files c job)
  list_after job part taken (Ok x) h = tt
  list_after job part taken (Err ReadList) h = (part, taken)
  list_after job part taken (Err (Input e)) h = absurd h
  list_after job part taken (Err e) h = tt

  pub job_in_order : (e : PiecesFault) → IsOfJob e → ChecksInOrder files c e
  job_in_order (Input (input.ReadFault ThePart)) h = absurd h.0
  job_in_order ReadList h = absurd h
  job_in_order e h = tt

  pub after_job : (job : JobValues) → TakesReadJob files (Some c.job) (Ok job) → {X : Type 0} (r : Result X PiecesFault) → IfErr r (ComesAfterJob files c job) → IfErr r (ChecksInOrder files c)
  after_job job taken (Ok x) h = tt
  after_job job taken (Err (Input (input.ReadFault ThePart))) h = (h, job, taken)
  after_job job taken (Err ReadList) (part, h) = (job, part, taken, h)
  after_job job taken (Err e) h = tt

  pub of_part_or_list : {X : Type 0} (r : Result X PiecesFault) → IfErr r IsOfList → IfErr r (λ e. IsOfPartNamed c.part e ⊎ IsOfList e)
  of_part_or_list (Ok x) h = tt
  of_part_or_list (Err e) h = inr h

  pub of_check : {X : Type 0} (r : Result X PiecesFault) → IfErr r (λ e. IsOfPartNamed c.part e ⊎ IsOfList e) → IfErr r (IsOfCheck c)
  of_check (Ok x) h = tt
  of_check (Err e) h = inr h
