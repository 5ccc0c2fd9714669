-- What is written from a later state of the desk on, seen from the beginning of a run.
use Rattle.std.proofs.Common.{◌≡◌, ℕ, List, Option, ap, subst, ◌∙◌}
use Rattle.std.specs.Prelude.{IfNone}
use Rattle.desk.specs.Files.{Files, DeskState, OnlyReads}
use Rattle.mend_core.specs.Mending.{Made}
use Rattle.mend_core.specs.Telling.{told_text}
use Rattle.mend_core.specs.Writing.{Writes, summary_way}
use Rattle.mend_words.specs.Names.{Named}
use Rattle.part_input.specs.declared.fault.Fault.{Fault}
use Rattle.part_input.specs.Causes.{common}
use Rattle.put_texts.specs.Noting.{Notes, NotesWhole}
use Rattle.put_texts.specs.Order.{InOrder, KeepsText, KeepsTextPart, SaysText, SaysTextPart, SparesFile, SparesWord}
use Rattle.put_texts.proofs.Ends.{heard_later}

module _ (old between new : DeskState) (same : OnlyReads old between) where
  warned_same : between.warned ≡ old.warned
  warned_same = ap (λ (s : DeskState). s.warned) same

  module _ (named : Named) (fault : Option Fault) where
    pub writes_from : (made : Made) → Writes named fault between new made → Writes named fault old new made
    writes_from made w =
        let files = ap (λ (s : DeskState). s.files) same in
        let said = ap (λ (s : DeskState). s.said) same in
        record {
          text = w.text;
          is_text = w.is_text;
          reads_back = w.reads_back;
          texts = w.texts;
          are_texts = w.are_texts;
          files = λ told. subst (λ (f : Files). InOrder common KeepsText KeepsTextPart fault w.texts f new.files) files (w.files (ap (λ (s : DeskState). s.tells) same ∙ told));
          said = λ told. subst (λ (t : List ℕ). InOrder common SaysText SaysTextPart fault w.texts t new.said) said (w.said (ap (λ (s : DeskState). s.tells_said) same ∙ told));
          accepted = λ told. w.accepted (ap (λ (s : DeskState). s.tells) same ∙ told);
          spared = subst (λ (f : Files). InOrder common (λ way bytes. SparesFile way) (λ way cause bytes. SparesFile way) fault w.texts f new.files) files w.spared;
          silent = subst (λ (t : List ℕ). InOrder common (λ way bytes. SparesWord way) (λ way cause bytes. SparesWord way) fault w.texts t new.said) said w.silent;
          noted = λ told. subst (λ (t : List ℕ). IfNone fault (Notes (summary_way named.out) (told_text made.told) t new.warned)) warned_same (w.noted (ap (λ (s : DeskState). s.tells_warned) same ∙ told));
          noted_whole = λ hears. subst (λ (t : List ℕ). IfNone fault (NotesWhole (summary_way named.out) (told_text made.told) t new.warned)) warned_same (w.noted_whole (heard_later old between new same hears));
        }
