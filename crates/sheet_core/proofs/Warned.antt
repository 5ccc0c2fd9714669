-- What is warned and written from a later state of the desk on, seen from the beginning of a run.
use Rattle.std.proofs.Common.{◌≡◌, ℕ, List, Option, Some, true, refl, ap, subst, ◌∙◌}
use Rattle.std.specs.Prelude.{IfNone}
use Rattle.desk.specs.Files.{Files, DeskState, OnlyReads}
use Rattle.desk_reasons.specs.Reasons.{MayGive}
use Rattle.desk_reasons.specs.declared.reason.Reason.{Reason}
use Rattle.put_texts.specs.Noting.{Notes, NotesWhole}
use Rattle.put_texts.specs.Order.{InOrder, KeepsText, KeepsTextPart, SaysText, SaysTextPart, SparesFile, SparesWord}
use Rattle.put_texts.proofs.Ends.{heard_later}
use Rattle.sheet_input.specs.Faults.{sheet_faults}
use Rattle.sheet_input.specs.declared.fault.SheetFault.{SheetFault}
use Rattle.sheet_core.specs.Lines.{IsLineOf, IsToldTo}
use Rattle.sheet_summary.specs.Summary.{summary_of}
use Rattle.sheet_core.specs.Writing.{Writes, summary_way}
use Rattle.sheet_core.specs.inner.Faults.{IsOfWriting}
use Rattle.sheet_core.proofs.Putting.{by_writing}
use Rattle.sheet_core.specs.Refusals.{fault_line}
use Rattle.sheet_input.specs.declared.refusal.Told.TheVariants.{Nothing}
use Rattle.sheet_input.specs.declared.take.SheetInput.{SheetInput}
use Rattle.sheet_words.specs.Names.{Named}

module _ (named : Named) (old between new : DeskState) (same : OnlyReads old between) where
  -- ---- nothing is told beside a fault of writing
  told_alone : (f : SheetFault) → IsOfWriting named f → IsToldTo (Some named) old f Nothing
  told_alone f is = by_writing named (λ (f : SheetFault). IsToldTo (Some named) old f Nothing) (λ target at. refl) (λ some. refl) (λ some. refl) refl f is

  pub writing_line : {D : Type 0} (of_desk : D → Option Reason) (reason : Option Reason) → MayGive of_desk reason → (f : SheetFault) → IsOfWriting named f → IsLineOf of_desk (Some named) old f (fault_line (Some named) Nothing reason f)
  writing_line of_desk reason may f is = (Nothing, reason, may, told_alone f is, refl)

  warned_same : between.warned ≡ old.warned
  warned_same = ap (λ (s : DeskState). s.warned) same

  warned_told : old.tells_warned ≡ true → between.tells_warned ≡ true
  warned_told tells = ap (λ (s : DeskState). s.tells_warned) same ∙ tells

  -- ---- what is written
  pub writes_from : (fault : Option SheetFault) (m : SheetInput) → Writes named fault between new m → Writes named fault old new m
  writes_from fault m w =
      let files = ap (λ (s : DeskState). s.files) same in
      let said = ap (λ (s : DeskState). s.said) same in
      record {
        page = w.page;
        strokes = w.strokes;
        marks = w.marks;
        drawn = w.drawn;
        covered = w.covered;
        shows = w.shows;
        texts = w.texts;
        are_texts = w.are_texts;
        files = λ told. subst (λ (f : Files). InOrder sheet_faults KeepsText KeepsTextPart fault w.texts f new.files) files (w.files (ap (λ (s : DeskState). s.tells) same ∙ told));
        said = λ told. subst (λ (t : List ℕ). InOrder sheet_faults SaysText SaysTextPart fault w.texts t new.said) said (w.said (ap (λ (s : DeskState). s.tells_said) same ∙ told));
        spared = subst (λ (f : Files). InOrder sheet_faults (λ way bytes. SparesFile way) (λ way cause bytes. SparesFile way) fault w.texts f new.files) files w.spared;
        silent = subst (λ (t : List ℕ). InOrder sheet_faults (λ way bytes. SparesWord way) (λ way cause bytes. SparesWord way) fault w.texts t new.said) said w.silent;
        noted = λ told. subst (λ (t : List ℕ). IfNone fault (Notes (summary_way named) (summary_of m.drawing m.look.fitted m.look.in_units w.page w.covered w.marks) t new.warned)) warned_same (w.noted (warned_told told));
        noted_whole = λ hears. subst (λ (t : List ℕ). IfNone fault (NotesWhole (summary_way named) (summary_of m.drawing m.look.fitted m.look.in_units w.page w.covered w.marks) t new.warned)) warned_same (w.noted_whole (heard_later old between new same hears));
      }
