-- The answer to steps where none of the desk's faults was counted, and on a steady desk.
use Rattle.std.proofs.Common.{◌≡◌, ◌⊎◌, inl, inr, ℕ, Option, Some, None, Result, Ok, Err, refl, ap, subst, ◌∙◌}
use Rattle.std.specs.Prelude.{IfErr}
use Rattle.std.specs.Result.{result_err}
use Rattle.desk.specs.Files.{Rose}
use Rattle.part_input.specs.Faults.{CountsReads}
use Rattle.part_input.specs.Steps.{Refuses, GivesInput, IsMissing, Answers, IsAnswerOf}
use Rattle.part_input.specs.declared.fault.Fault.{Fault}
use Rattle.part_input.specs.declared.fault.Fault.TheVariants.{ReadFault, WriteFault, Memory}
use Rattle.part_input.proofs.Singles.{IsSingle}

-- the fault is that of the steps, or want of memory
abbrev pub IsOfSteps : {A : Type 0} → (Result A Fault → Type 0) → Fault → Type 0
IsOfSteps steps e = steps (Err e) ⊎ (e ≡ Memory)

-- no fault of reading or writing
abbrev pub IsOfNoDesk : Fault → Type 0
IsOfNoDesk (ReadFault input) = ⊥
IsOfNoDesk (WriteFault target) = ⊥
IsOfNoDesk e = Unit {0}

-- no fault of writing
abbrev pub IsOfNoWriting : Fault → Type 0
IsOfNoWriting (WriteFault target) = ⊥
IsOfNoWriting e = Unit {0}

pub of_steps : {A : Type 0} (steps : Result A Fault → Type 0) (e : Fault) → IsOfNoDesk e → Refuses steps e → IsOfSteps steps e
of_steps steps (ReadFault input) u h = absurd u
of_steps steps (WriteFault target) u h = absurd u
of_steps steps Memory u h = inr refl
of_steps steps e u h = inl h

-- where the file is missing, a fault of reading is that of the steps too
pub of_steady : {A : Type 0} (steps : Result A Fault → Type 0) (e : Fault) → IsOfNoWriting e → IsMissing steps e → Refuses steps e → IsOfSteps steps e
of_steady steps (ReadFault input) w m h = inl m
of_steady steps (WriteFault target) w m h = absurd w
of_steady steps Memory w m h = inr refl
of_steady steps e w m h = inl h

-- where no count rose
pub uncounted : (e : Fault) (old new : ℕ) → IsOfNoWriting e → CountsReads (Some e) old new → (Rose old new → ⊥) → IsOfNoDesk e
uncounted (ReadFault input) old new w counts none = none counts
uncounted (WriteFault target) old new w counts none = w
uncounted e old new w counts none = tt

module _ {A : Type 0} (steps : Result A Fault → Type 0) (single : IsSingle steps) where
  -- what they give
  pub given : (x : A) (fault : Option Fault) → steps (Ok x) → (fault ≡ None) ⊎ (fault ≡ Some Memory) → IsAnswerOf steps fault
  given x fault is h r also = subst (λ (s : Result A Fault). Answers s fault) (single (Ok x) r is also) h

  -- what they refuse, where the line of its fault may have found no memory
  pub refused : (e : Fault) (fault : Option Fault) → (fault ≡ Some e) ⊎ (fault ≡ Some Memory) → IsOfSteps steps e → IsAnswerOf steps fault
  refused e fault said (inl is) r also = subst (λ (s : Result A Fault). Answers s fault) (single (Err e) r is also) said
  refused e fault said (inr want) r also = short r (by said)
    where
      by : (fault ≡ Some e) ⊎ (fault ≡ Some Memory) → fault ≡ Some Memory
      by (inl h) = h ∙ ap Some want
      by (inr h) = h

      short : (s : Result A Fault) → fault ≡ Some Memory → Answers s fault
      short (Ok x) h = inr h
      short (Err d) h = inr h

  -- the answer of a call
  module _ {X : Type 0} (view : X → A) where
    pub complete : (r : Result X Fault) (old new : ℕ) → IfErr r IsOfNoWriting → GivesInput view steps r → CountsReads (result_err r) old new → (Rose old new → ⊥) → IsAnswerOf steps (result_err r)
    complete (Ok x) old new w is counts none = given (view x) None is (inl refl)
    complete (Err e) old new w is counts none = refused e (Some e) (inl refl) (of_steps steps e (uncounted e old new w counts none) is)

    pub undisturbed : (r : Result X Fault) → IfErr r IsOfNoDesk → GivesInput view steps r → IsAnswerOf steps (result_err r)
    undisturbed (Ok x) none is = given (view x) None is (inl refl)
    undisturbed (Err e) none is = refused e (Some e) (inl refl) (of_steps steps e none is)

    pub exact : (r : Result X Fault) → IfErr r IsOfNoWriting → GivesInput view steps r → IfErr r (IsMissing steps) → IsAnswerOf steps (result_err r)
    exact (Ok x) w is m = given (view x) None is (inl refl)
    exact (Err e) w is m = refused e (Some e) (inl refl) (of_steady steps e w m is)
