-- What a chain of steps of a sheet answers, from the answer of a part of it.
use Rattle.std.proofs.Common.{inl, inr}
use Rattle.std.specs.Prelude.{Result, Ok, Err, IfErr}
use Rattle.part_input.specs.Steps.{◌and_then◌, RefusesOf, IsMissingOf}
use Rattle.part_input.proofs.Chains.{refuses_more, missing_more}
use Rattle.sheet_input.specs.Answers.{GivesSheet}
use Rattle.sheet_input.specs.Faults.{sheet_faults}
use Rattle.sheet_input.specs.declared.fault.SheetFault.{SheetFault}
use Rattle.sheet_input.specs.declared.refusal.Refusal.{Refusal}

-- what the first step gave goes on
module _ {A B : Type 0} (first : Result A SheetFault → Type 0) (next : A → Result B SheetFault → Type 0) (x : A) (so_far : first (Ok x)) where
  pub refused_next : (e : SheetFault) → RefusesOf sheet_faults (next x) e → RefusesOf sheet_faults (first and_then next) e
  refused_next e h = refuses_more sheet_faults (next x) (first and_then next) (λ e h. inr (x, so_far, h)) e h

  pub gives_next : {X : Type 0} (view : X → B) (r : Result X Refusal) → GivesSheet view (next x) r → GivesSheet view (first and_then next) r
  gives_next view (Ok y) h = (x, so_far, h)
  gives_next view (Err r) h = refused_next r.fault h

  pub misses_next : {X : Type 0} (r : Result X Refusal) → IfErr r (λ r. IsMissingOf sheet_faults (next x) r.fault) → IfErr r (λ r. IsMissingOf sheet_faults (first and_then next) r.fault)
  misses_next (Ok y) h = tt
  misses_next (Err r) h = missing_more sheet_faults (next x) (first and_then next) (λ e h. inr (x, so_far, h)) r.fault h

-- what the first step refuses is refused
pub refused_first : {A B : Type 0} (first : Result A SheetFault → Type 0) (next : A → Result B SheetFault → Type 0) (e : SheetFault) → RefusesOf sheet_faults first e → RefusesOf sheet_faults (first and_then next) e
refused_first first next e h = refuses_more sheet_faults first (first and_then next) (λ e h. inl h) e h
