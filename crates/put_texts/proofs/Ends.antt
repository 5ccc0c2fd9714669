-- What holds of the end of a run, from what holds of its last step.
use Rattle.std.proofs.Common.{◌≡◌, ◌⊎◌, inl, inr, Option, None, Some, ℕ, sym, ap, subst, ◌∙◌}
use Rattle.std.specs.Prelude.{IfSome, Result, Ok}
use Rattle.desk.specs.Files.{DeskState, OnlyReads, Rose}
use Rattle.part_input.specs.declared.fault.Fault.{Fault}
use Rattle.put_texts.specs.Desks.{HearsAll}

-- the steps come to something where no fault is answered
abbrev pub ComesToSome : {A F : Type 0} → (Result A Fault → Type 0) → Option F → Type 0
ComesToSome {A} {F} steps None = (x : A) × steps (Ok x)
ComesToSome {A} {F} steps (Some e) = Unit {0}

-- the fault is this one, or its line found no memory
pub either : {F : Type 0} (Q : Option F → Type 0) (e memory : F) (fault : Option F) → (fault ≡ Some e) ⊎ (fault ≡ Some memory) → Q (Some e) → Q (Some memory) → Q fault
either Q e memory fault (inl is) h m = subst Q (sym is) h
either Q e memory fault (inr is) h m = subst Q (sym is) m

-- what was written is what was made
pub of_made : {T : Type 0} (made : Option T) (it : T) (P : T → Type 0) → IfSome made (λ m. m ≡ it) → P it → IfSome made P
of_made None it P same p = tt
of_made (Some m) it P same p = subst P (sym same) p

-- what holds of a fault and of what was made holds of the end with both
pub at_end : {F T : Type 0} (Q : Option F → Option T → Type 0) (fault its : Option F) (made it : Option T) → fault ≡ its → made ≡ it → Q its it → Q fault made
at_end Q fault its made it f m h = subst (λ x. Q x made) (sym f) (subst (Q its) (sym m) h)

-- what is heard of the whole run is heard from a later state on
pub heard_from : (old between new : DeskState) → between.tells_warned ≡ old.tells_warned → between.firm ≡ old.firm → between.warn_faults ≡ old.warn_faults → HearsAll old new → HearsAll between new
heard_from old between new tells firm faults hears = record {
  tells = tells ∙ hears.tells;
  firm = firm ∙ hears.firm;
  no_fault = λ rose. hears.no_fault (subst (λ (n : ℕ). Rose n new.warn_faults) faults rose);
}

pub heard_later : (old between new : DeskState) → OnlyReads old between → HearsAll old new → HearsAll between new
heard_later old between new same hears = heard_from old between new (ap (λ (s : DeskState). s.tells_warned) same) (ap (λ (s : DeskState). s.firm) same) (ap (λ (s : DeskState). s.warn_faults) same) hears
