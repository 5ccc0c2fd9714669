-- What single steps take from any desk.
use Rattle.std.specs.Prelude.{ℕ, List, Some, Ok}
use Rattle.std.specs.List.{AllZip}
use Rattle.desk.specs.Taken.{IsTaken, all_hold}
use Rattle.job_file.specs.Documents.{JobValues}
use Rattle.job_file.specs.Seen.{job_seen}
use Rattle.sheet_plan.specs.declared.sheet.Stroke.{Stroke}
use Rattle.solid_mesh.specs.Solids.{solid_part}
use Rattle.piece_verify.specs.ListLines.{IsEntryOf}
use Rattle.piece_verify.specs.declared.check.Verdict.{Verdict}
use Rattle.piece_verify.specs.declared.list.PieceList.{PieceList}
use Rattle.part_input.specs.Jobs.{TakesReadJob}
use Rattle.part_input.specs.Parts.{sample_size}
use Rattle.part_input.specs.Steps.{◌and_then◌}
use Rattle.part_input.specs.Taken.{IsUnlessSample}
use Rattle.geometry.specs.Parts.{Part}
use Rattle.detail_view.specs.Run.{HasView, TakesPart, TakesReadList, IsVerdictOf, listed}
use Rattle.detail_view.specs.Steps.{Lifted, Yields}
use Rattle.detail_view.specs.Words.{Check, Detail}
use Rattle.detail_view.specs.declared.detail.Shown.{Shown}

-- the text of a list was taken, and these are its entries
pub record IsListTaken {D : Type 0} (Fetches : D → List ℕ → ℕ → List ℕ → D → Type 0) (name : List ℕ) (old new : D) (list : PieceList) : Type 0 where
  pub text : List ℕ
  pub taken : IsTaken Fetches name old new text
  pub strokes : List Stroke
  pub is : TakesReadList (all_hold text) name (Ok strokes)
  pub entries : AllZip IsEntryOf strokes list.entries.items

-- the verdict for this job and part is that on the list whose text was taken
pub record IsJudged {D : Type 0} (Fetches : D → List ℕ → ℕ → List ℕ → D → Type 0) (name : List ℕ) (job : JobValues) (part : Part) (old new : D) (v : Verdict) : Type 0 where
  pub list : List ℕ
  pub taken : IsTaken Fetches name old new list
  pub is : IsVerdictOf (Yields (listed job part) (TakesReadList (all_hold list) name)) v

-- the verdict for this job is that on the part and the list whose texts were taken
pub record IsPartJudged {D : Type 0} (Fetches : D → List ℕ → ℕ → List ℕ → D → Type 0) (c : Check) (job : JobValues) (old new : D) (v : Verdict) : Type 0 where
  pub part : List ℕ
  pub list : List ℕ
  pub after_part : D
  pub takes_part : IsUnlessSample Fetches (sample_size c.part) c.part old after_part part
  pub takes_list : IsTaken Fetches c.list after_part new list
  pub is : IsVerdictOf (TakesPart (all_hold part) c.part job and_then λ p. Yields (listed job p) (TakesReadList (all_hold list) c.list)) v

-- the job whose text was taken has the view
pub record IsViewedTaken {D : Type 0} (Fetches : D → List ℕ → ℕ → List ℕ → D → Type 0) (w : Detail) (old new : D) (job : JobValues) : Type 0 where
  pub text : List ℕ
  pub taken : IsTaken Fetches w.job old new text
  pub is : (Lifted (TakesReadJob (all_hold text) (Some w.job)) and_then HasView w.view) (Ok job)

-- and so it is of the job and the part
pub record IsShownTaken {D : Type 0} (Fetches : D → List ℕ → ℕ → List ℕ → D → Type 0) (w : Detail) (old new : D) (shown : Shown) : Type 0 where
  pub job : List ℕ
  pub part : List ℕ
  pub after_job : D
  pub takes_job : IsTaken Fetches w.job old after_job job
  pub takes_part : IsUnlessSample Fetches (sample_size w.part) w.part after_job new part
  pub viewed_job : (Lifted (TakesReadJob (all_hold job) (Some w.job)) and_then HasView w.view) (Ok (job_seen shown.job))
  pub shown_part : TakesPart (all_hold part) w.part (job_seen shown.job) (Ok (solid_part shown.solid))
