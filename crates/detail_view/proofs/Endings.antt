-- How runs end: with a verdict that is said, and with faults.
use Rattle.std.proofs.Common.{◌≡◌, true, ℕ, List, Option, Some, None, sym, ap, subst, ◌∙◌}
use Rattle.std.specs.Prelude.{Ok, Bool, IfSome, IsSome}
use Rattle.desk.specs.Files.{Files, DeskState, OnlyReads}
use Rattle.piece_verify.specs.declared.check.Verdict.{Verdict}
use Rattle.put_texts.specs.Runs.{IsAnswer}
use Rattle.put_texts.proofs.Runs.{whole_answer}
use Rattle.detail_view.specs.inner.Steps.{CountsReads, CountsWrites, HasNoWriteFault}
use Rattle.detail_view.specs.Run.{AnswersPiecesWords, Checks, Given, IsVerdictOf, NamesNoFile, RunsInOrder, RunsPieces, verdict_line, Says, SaysAsked, pieces_task}
use Rattle.part_input.specs.Steps.{EndsOf}
use Rattle.detail_view.specs.Faults.{pieces_faults}
use Rattle.detail_view.specs.inner.Steps.{IsMissing}
use Rattle.detail_view.specs.Words.{Asked, Check, checks}
use Rattle.detail_view.proofs.Runs.{lawful, memory_in_order}
use Rattle.detail_view.specs.inner.Judging.{IsOfSaying, Tells}
use Rattle.detail_view.specs.declared.fault.PiecesFault.{PiecesFault}
use Rattle.detail_view.specs.declared.fault.PiecesFault.TheVariants.{WriteFault, Memory}

-- what holds with no fault, with one of writing and with want of memory holds with each fault of saying
pub all_saying : (Q : Option PiecesFault → Type 0) → Q None → Q (Some WriteFault) → Q (Some Memory) → (fault : Option PiecesFault) → IfSome fault IsOfSaying → Q fault
all_saying Q none written want None h = none
all_saying Q none written want (Some WriteFault) h = written
all_saying Q none written want (Some Memory) h = want
all_saying Q none written want (Some e) h = elim h [ ]

some_names : (asked : Option Asked) → IsSome asked → NamesNoFile asked → ⊥
some_names None some none = absurd (cc)
some_names (Some asked) some none = none

-- the steps gave something, and then it was said or kept, or not
pub said_answer : (asked : Option Asked) (old between new : DeskState) → OnlyReads old between → between.read_faults ≡ old.read_faults → new.read_faults ≡ between.read_faults
    → (old.steady ≡ true → old.tells ≡ true) → (old.tells ≡ true → (x : Given) × RunsPieces asked old.files (Ok x)) → IsSome asked → RunsInOrder asked old.files WriteFault → (fault : Option PiecesFault) → IfSome fault IsOfSaying
    → CountsWrites fault between.write_faults new.write_faults → (between.steady ≡ true → HasNoWriteFault fault) → IsAnswer (pieces_task asked) fault old new
said_answer asked old between new read still same tells gives some order fault h writes steady =
    let reads : new.read_faults ≡ old.read_faults = same ∙ still in
    whole_answer (pieces_task asked) (lawful asked) old new fault tells
    (λ told. all_saying (EndsOf pieces_faults (RunsPieces asked old.files)) (gives told) (gives told) tt fault h) (λ none files. absurd (some_names asked some none))
    (all_saying (AnswersPiecesWords asked) some some tt fault h)
    (λ told. all_saying (λ f. IfSome f (RunsInOrder asked old.files)) tt order (memory_in_order asked old.files) fault h)
    (all_saying (λ f. CountsReads f old.read_faults new.read_faults) reads reads reads fault h)
    (subst (λ (n : ℕ). CountsWrites fault n new.write_faults) (ap (λ (s : DeskState). s.write_faults) read) writes)
    (λ is. all_saying (λ f. IfSome f (IsMissing (RunsPieces asked old.files))) tt tt tt fault h)
    (λ is. steady (ap (λ (s : DeskState). s.steady) read ∙ is))

-- the verdict that is told
pub told_verdict : (P : Verdict → Type 0) (v : Verdict) → P v → (fault : Option PiecesFault) (told : Option Verdict) → Tells v fault told → IfSome told P
told_verdict P v is None told e = subst (λ (o : Option Verdict). IfSome o P) (sym e) is
told_verdict P v is (Some fault) told e = subst (λ (o : Option Verdict). IfSome o P) (sym e) tt

pub said_asked : (tells : Bool) (c : Check) (files : Files) (v : Verdict) (fault : Option PiecesFault) (told : Option Verdict) (old new : List ℕ) → IfSome fault IsOfSaying → Tells v fault told
    → (tells ≡ true → IsVerdictOf (Checks files c) v) → Says fault old new (verdict_line v) → SaysAsked tells (Some (checks c)) files fault told old new
said_asked tells c files v None told old new h e is said = subst (λ (o : Option Verdict). SaysAsked tells (Some (checks c)) files None o old new) (sym e) said
said_asked tells c files v (Some WriteFault) told old new h e is said = (v, is, said)
said_asked tells c files v (Some Memory) told old new h e is said = said
said_asked tells c files v (Some fault) told old new h e is said = elim h [ ]
