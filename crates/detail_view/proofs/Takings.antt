-- What the steps of a run take from any desk, and the verdict or the detail by that.
use Rattle.std.proofs.Common.{◌≤◌, ℕ, List, length, Option, Some, None, refl, sym, subst}
use Rattle.std.specs.Prelude.{Result, Ok, Err, IfOk, IfSome}
use Rattle.desk.specs.Files.{DeskState, OnlyKeeps}
use Rattle.desk.specs.Taken.{IsTaken, all_hold}
use Rattle.job_file.specs.Documents.{JobValues}
use Rattle.job_file.specs.Seen.{job_seen}
use Rattle.job_file.specs.declared.job.Job.{Job}
use Rattle.geometry.specs.Parts.{Part}
use Rattle.lattice.specs.declared.pieces.Piece.{Piece}
use Rattle.solid_mesh.specs.Solids.{solid_part}
use Rattle.solid_mesh.specs.declared.solid.Solid.{Solid}
use Rattle.part_input.specs.Jobs.{TakesReadJob}
use Rattle.part_input.specs.Steps.{◌and_then◌}
use Rattle.part_input.specs.Taken.{IsJobTaken, IsPartTaken}
use Rattle.piece_verify.specs.Checked.{IsVerdict}
use Rattle.piece_verify.specs.declared.check.Verdict.{Verdict}
use Rattle.piece_verify.specs.declared.list.PieceList.{PieceList}
use Rattle.detail_view.specs.Drawn.{IsDrawnOf}
use Rattle.detail_view.specs.Run.{HasView, ReadsList, TakesPart, TakesReadList, listed}
use Rattle.detail_view.specs.Seen.{detail_seen}
use Rattle.detail_view.specs.Steps.{Lifted, Yields}
use Rattle.detail_view.specs.Taken.{DetailsTexts, ChecksTaken, DetailsTaken}
use Rattle.detail_view.specs.Words.{Check, Detail}
use Rattle.detail_view.specs.declared.detail.Shown.{Shown}
use Rattle.detail_view.specs.declared.fault.PiecesFault.{PiecesFault}
use Rattle.detail_view.specs.declared.fault.PiecesFault.TheVariants.{WriteFault, Memory}
use Rattle.detail_view.specs.declared.words.DetailWords.{DetailWords}
use Rattle.detail_view.specs.inner.Drawing.{TellsPieces}
use Rattle.detail_view.specs.inner.Judging.{GivesEntries, IsOfSaying}
use Rattle.detail_view.specs.inner.Steps.{GivesPieces}
use Rattle.detail_view.specs.inner.Taking.{IsListTaken, IsJudged, IsPartJudged, IsViewedTaken, IsShownTaken}
use Rattle.detail_view.proofs.Chains.{judges_next}
use Rattle.detail_view.proofs.Drawing.{drawn_by}

module _ {D : Type 0} (Fetches : D → List ℕ → ℕ → List ℕ → D → Type 0) where
  -- ---- a check
  pub list_taken : (name : List ℕ) (old new : D) (text : List ℕ) → IsTaken Fetches name old new text → length text ≤ 16777216 → (r : Result PieceList PiecesFault) → GivesEntries (ReadsList text) r
      → IfOk r (IsListTaken Fetches name old new)
  list_taken name old new text taken within (Err e) h = tt
  list_taken name old new text taken within (Ok list) (strokes, reads, entries) =
      record { text = text; taken = taken; strokes = strokes; is = (text, (refl, within), reads); entries = entries }

  pub judged : (name : List ℕ) (job : Job) (solid : Solid) (old new : D) (list : PieceList) → IsListTaken Fetches name old new list → (v : Verdict) → IsVerdict solid job list.entries.items v
      → IsJudged Fetches name (job_seen job) (solid_part solid) old new v
  judged name job solid old new list taken v is = record {
    list = taken.text;
    taken = taken.taken;
    is = record { job = job; solid = solid; strokes = taken.strokes; entries = list.entries.items; given = (taken.strokes, taken.is, refl); read = taken.entries; is = is };
  }

  pub part_judged : (c : Check) (job : JobValues) (old between new : D) (text : List ℕ) (part : Part) → IsPartTaken Fetches c.part job.decimals job.unit old between text part
      → (r : Result Verdict PiecesFault) → IfOk r (IsJudged Fetches c.list job part between new) → IfOk r (IsPartJudged Fetches c job old new)
  part_judged c job old between new text part taken (Err e) h = tt
  part_judged c job old between new text part taken (Ok v) h = record {
    part = text;
    list = h.list;
    after_part = between;
    takes_part = taken.taken;
    takes_list = h.taken;
    is = judges_next (TakesPart (all_hold text) c.part job) (λ p. Yields (listed job p) (TakesReadList (all_hold h.list) c.list)) part taken.is (Ok v) h.is;
  }

  pub checks_taken : (c : Check) (job : JobValues) (old between new : D) (text : List ℕ) → IsJobTaken Fetches c.job old between text job
      → (r : Result Verdict PiecesFault) → IfOk r (IsPartJudged Fetches c job between new) → IfOk r (ChecksTaken Fetches c old new)
  checks_taken c job old between new text taken (Err e) h = tt
  checks_taken c job old between new text taken (Ok v) h = record {
    job = text;
    part = h.part;
    list = h.list;
    after_job = between;
    after_part = h.after_part;
    takes_job = taken.taken;
    takes_part = h.takes_part;
    takes_list = h.takes_list;
    is = judges_next (Lifted (TakesReadJob (all_hold text) (Some c.job)))
        (λ j. TakesPart (all_hold h.part) c.part j and_then λ p. Yields (listed j p) (TakesReadList (all_hold h.list) c.list)) job taken.is (Ok v) h.is;
  }

  -- ---- a detail
  pub viewed_taken : (w : Detail) (old new : D) (text : List ℕ) (job : JobValues) → IsJobTaken Fetches w.job old new text job → (r : Result Job PiecesFault) → GivesPieces job_seen (HasView w.view job) r
      → IfOk r (λ job. IsViewedTaken Fetches w old new (job_seen job))
  viewed_taken w old new text job taken (Err e) h = tt
  viewed_taken w old new text job taken (Ok same) h = record { text = text; taken = taken.taken; is = (job, taken.is, h) }

  pub shown_taken : (w : Detail) (old between new : D) (shown : Shown) (text : List ℕ) → IsViewedTaken Fetches w old between (job_seen shown.job)
      → IsPartTaken Fetches w.part (job_seen shown.job).decimals (job_seen shown.job).unit between new text (solid_part shown.solid) → IsShownTaken Fetches w old new shown
  shown_taken w old between new shown text viewed taken = record {
    job = viewed.text;
    part = text;
    after_job = between;
    takes_job = viewed.taken;
    takes_part = taken.taken;
    viewed_job = viewed.is;
    shown_part = taken.is;
  }

  pub detail_taken : (words : DetailWords) (state : D → DeskState) (old between new : D) (shown : Shown) → IsShownTaken Fetches (detail_seen words) old between shown → OnlyKeeps (state between) (state new)
      → (told : Option (List Piece)) → IfSome told (λ pieces. (page : List ℕ) × IsDrawnOf shown.job shown.solid words.view words.window words.scale pieces page)
      → IfSome told (λ pieces. (after : D) × DetailsTaken Fetches (detail_seen words) old after pieces × OnlyKeeps (state after) (state new))
  detail_taken words state old between new shown taken keeps None h = tt
  detail_taken words state old between new shown taken keeps (Some pieces) (page, drawn) = (
    between,
    record {
      job = taken.job;
      part = taken.part;
      after_job = taken.after_job;
      takes_job = taken.takes_job;
      takes_part = taken.takes_part;
      is = (page, drawn_by (DetailsTexts taken.job taken.part (detail_seen words)) words shown (job_seen shown.job, taken.viewed_job, (solid_part shown.solid, taken.shown_part, refl)) pieces page drawn);
    },
    keeps,
  )

-- the pieces that are told are those that were drawn
pub pieces_made : (P : List Piece → Type 0) (pieces : List Piece) → P pieces → (fault : Option PiecesFault) (told : Option (List Piece)) → IfSome fault IsOfSaying → TellsPieces pieces fault told → IfSome told P
pieces_made P pieces is None told h e = subst (λ (o : Option (List Piece)). IfSome o P) (sym e) is
pieces_made P pieces is (Some WriteFault) told h e = subst (λ (o : Option (List Piece)). IfSome o P) (sym e) is
pieces_made P pieces is (Some Memory) told h e = subst (λ (o : Option (List Piece)). IfSome o P) (sym e) tt
pieces_made P pieces is (Some fault) told h e = elim h [ ]
