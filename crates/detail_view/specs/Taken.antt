-- What a run of `pieces` takes from any desk, and the verdict or the detail by that: one text of the job, one of the part, one of the list.
use Rattle.std.specs.Prelude.{ℕ, Bool, List, Option, Some, IfSome, Result}
use Rattle.desk.specs.Files.{DeskState, OnlyKeeps, OnlySays}
use Rattle.desk.specs.Taken.{IsTaken, all_hold}
use Rattle.lattice.specs.declared.pieces.Piece.{Piece}
use Rattle.part_input.specs.Jobs.{TakesReadJob}
use Rattle.part_input.specs.Parts.{sample_size}
use Rattle.part_input.specs.Steps.{◌and_then◌}
use Rattle.part_input.specs.Taken.{IsUnlessSample}
use Rattle.piece_verify.specs.declared.check.Verdict.{Verdict}
use Rattle.detail_view.specs.Drawn.{HasDetail, IsDrawnBy}
use Rattle.detail_view.specs.Run.{Given, listed, viewed, HasVerdict, HasView, TakesPart, TakesReadList, IsVerdictOf}
use Rattle.detail_view.specs.Steps.{Lifted, Yields}
use Rattle.detail_view.specs.Words.{Check, Detail, Asked, checks, details}
use Rattle.detail_view.specs.declared.fault.PiecesFault.{PiecesFault}

-- ---- by texts
-- the steps of a check from the texts of its job, its part and its list
abbrev pub ChecksTexts : List ℕ → List ℕ → List ℕ → Check → Result Given PiecesFault → Type 0
ChecksTexts job part list c =
    Lifted (TakesReadJob (all_hold job) (Some c.job)) and_then λ j. TakesPart (all_hold part) c.part j and_then λ p. Yields (listed j p) (TakesReadList (all_hold list) c.list)

-- those of a detail from the texts of its job and its part
abbrev pub DetailsTexts : List ℕ → List ℕ → Detail → Result Given PiecesFault → Type 0
DetailsTexts job part w =
    (Lifted (TakesReadJob (all_hold job) (Some w.job)) and_then HasView w.view) and_then λ j. Yields (viewed j) (TakesPart (all_hold part) w.part j)

-- ---- on every desk
-- The text of the job was taken, then that of the part, unless it is a sample, and then that of the list, each once; the verdict is that
-- of these texts.
pub record ChecksTaken {D : Type 0} (Fetches : D → List ℕ → ℕ → List ℕ → D → Type 0) (c : Check) (old new : D) (v : Verdict) : Type 0 where
  pub job : List ℕ
  pub part : List ℕ
  pub list : List ℕ
  pub after_job : D
  pub after_part : D
  pub takes_job : IsTaken Fetches c.job old after_job job
  pub takes_part : IsUnlessSample Fetches (sample_size c.part) c.part after_job after_part part
  pub takes_list : IsTaken Fetches c.list after_part new list
  pub is : IsVerdictOf (ChecksTexts job part list c) v

-- The text of the job was taken, and then that of the part, unless it is a sample, each once; the pieces are the detail of these texts.
pub record DetailsTaken {D : Type 0} (Fetches : D → List ℕ → ℕ → List ℕ → D → Type 0) (w : Detail) (old new : D) (pieces : List Piece) : Type 0 where
  pub job : List ℕ
  pub part : List ℕ
  pub after_job : D
  pub takes_job : IsTaken Fetches w.job old after_job job
  pub takes_part : IsUnlessSample Fetches (sample_size w.part) w.part after_job new part
  pub is : (page : List ℕ) × IsDrawnBy (DetailsTexts job part w) w pieces page

-- So it is of the verdict of a run: once these texts were taken nothing changed but what was said.
abbrev pub IsVerdictTaken : {D : Type 0} → (D → List ℕ → ℕ → List ℕ → D → Type 0) → (D → DeskState) → Option Asked → D → D → Verdict → Type 0
IsVerdictTaken {D} Fetches state (Some (checks c)) old new v = (after : D) × ChecksTaken Fetches c old after v × OnlySays (state after) (state new)
IsVerdictTaken Fetches state asked old new v = ⊥

-- And of the pieces of a detail: nothing but the files.
abbrev pub ArePiecesTaken : {D : Type 0} → (D → List ℕ → ℕ → List ℕ → D → Type 0) → (D → DeskState) → Option Asked → D → D → List Piece → Type 0
ArePiecesTaken {D} Fetches state (Some (details w)) old new pieces = (after : D) × DetailsTaken Fetches w old after pieces × OnlyKeeps (state after) (state new)
ArePiecesTaken Fetches state asked old new pieces = ⊥

-- ---- what a run gives
-- it is that of texts which were each taken once
pub record IsOfTexts {D : Type 0} (Fetches : D → List ℕ → ℕ → List ℕ → D → Type 0) (state : D → DeskState) (asked : Option Asked) (old new : D) (verdict : Option Verdict)
    (pieces : Option (List Piece)) : Type 0 where
  pub judged : IfSome verdict (IsVerdictTaken Fetches state asked old new)
  pub drawn : IfSome pieces (ArePiecesTaken Fetches state asked old new)

-- a verdict is there for a check, and the pieces of a detail for a detail, as the fault leaves them
pub record HasOutcome (asked : Option Asked) (fault : Option PiecesFault) (verdict detail : Bool) : Type 0 where
  pub shown : HasVerdict asked fault verdict
  pub drawn : HasDetail asked fault detail
