-- What is warned from a later state of the desk on, seen from the beginning of a run.
use Rattle.std.proofs.Common.{◌≡◌, ◌++◌, ℕ, true, List, Option, None, Some, refl, ap, subst, ◌∙◌}
use Rattle.std.specs.Prelude.{IfNone, IfSome}
use Rattle.desk.specs.Files.{DeskState, AppendsFront, OnlyReads}
use Rattle.draw_core.specs.Lines.{IsSilent, fault_line}
use Rattle.draw_core.specs.inner.Warned.{Warns, WarnsWhole}
use Rattle.draw_core.specs.Run.{draw_run}
use Rattle.part_input.specs.Causes.{cause_of, unread}
use Rattle.part_input.specs.declared.fault.Fault.{Fault}
use Rattle.part_input.proofs.Causes.{read_only}
use Rattle.put_texts.specs.Runs.{WarnsBy, WarnsWholeBy}
use Rattle.fault_lines.specs.Lines.{NamesNothing}

-- a fault of reading is told without more memory
pub names_nothing : (e : Fault) → cause_of e ≡ unread → NamesNothing e
names_nothing e is = read_only NamesNothing (λ input. tt) e is

module _ (suffixes words : List (List ℕ)) (old between new : DeskState) (same : OnlyReads old between) where
  pub warns_from : (fault : Option Fault) → Warns fault between.warned new.warned → IfSome fault (WarnsBy (draw_run suffixes words).tells old new)
  warns_from None h = tt
  warns_from (Some f) h = (fault_line f, refl, subst (λ (w : List ℕ). AppendsFront w new.warned (fault_line f)) (ap (λ (s : DeskState). s.warned) same) h)

  pub warns_whole_from : (fault : Option Fault) → WarnsWhole fault between.warned new.warned → IfSome fault (WarnsWholeBy (draw_run suffixes words).tells old new)
  warns_whole_from None h = tt
  warns_whole_from (Some f) h = (fault_line f, refl, subst (λ (w : List ℕ). new.warned ≡ w ++ fault_line f) (ap (λ (s : DeskState). s.warned) same) h)

  pub silent_from : (fault : Option Fault) → (between.tells_warned ≡ true → Warns fault between.warned new.warned) → IfNone fault (new.warn_faults ≡ between.warn_faults) → IfNone fault (IsSilent old new)
  silent_from None warns quiet = record {
    warned = λ told. warns (ap (λ (s : DeskState). s.tells_warned) same ∙ told) ∙ ap (λ (s : DeskState). s.warned) same;
    faults = quiet ∙ ap (λ (s : DeskState). s.warn_faults) same;
  }
  silent_from (Some f) warns quiet = tt
