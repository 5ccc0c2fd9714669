-- What a chain of steps answers, from the answer of a part of it.
use Rattle.std.proofs.Common.{inl, inr}
use Rattle.std.specs.Prelude.{Result, Ok, Err}
use Rattle.part_input.specs.declared.fault.Fault.{Fault}
use Rattle.part_input.specs.Causes.{Cause, Faults, unread, unwritten, wanting, elsewhere, common}
use Rattle.part_input.specs.Steps.{◌and_then◌, Refuses, RefusesBy, RefusesOf, GivesInput, IsMissing, IsMissingBy, IsMissingOf}

-- what is refused by some steps is refused by others that refuse at least as much
refuses_by : (c : Cause) (refused other : Type 0) → (refused → other) → RefusesBy c refused → RefusesBy c other
refuses_by unread refused other more r = tt
refuses_by unwritten refused other more r = tt
refuses_by wanting refused other more r = tt
refuses_by elsewhere refused other more r = more r

missing_by : (c : Cause) (refused other : Type 0) → (refused → other) → IsMissingBy c refused → IsMissingBy c other
missing_by unread refused other more r = more r
missing_by unwritten refused other more r = tt
missing_by wanting refused other more r = tt
missing_by elsewhere refused other more r = tt

module _ {A B F : Type 0} (faults : Faults F) (steps : Result A F → Type 0) (others : Result B F → Type 0) (more : (e : F) → steps (Err e) → others (Err e)) where
  pub refuses_more : (e : F) → RefusesOf faults steps e → RefusesOf faults others e
  refuses_more e r = refuses_by (faults.cause e) (steps (Err e)) (others (Err e)) (more e) r

  pub missing_more : (e : F) → IsMissingOf faults steps e → IsMissingOf faults others e
  missing_more e r = missing_by (faults.cause e) (steps (Err e)) (others (Err e)) (more e) r

pub refuses_as : {A B : Type 0} (steps : Result A Fault → Type 0) (others : Result B Fault → Type 0) → ((e : Fault) → steps (Err e) → others (Err e))
    → (e : Fault) → Refuses steps e → Refuses others e
refuses_as steps others more e r = refuses_more common steps others more e r

pub missing_as : {A B : Type 0} (steps : Result A Fault → Type 0) (others : Result B Fault → Type 0) → ((e : Fault) → steps (Err e) → others (Err e))
    → (e : Fault) → IsMissing steps e → IsMissing others e
missing_as steps others more e r = missing_more common steps others more e r

-- what the first step gave goes on
module _ {A B : Type 0} (first : Result A Fault → Type 0) (next : A → Result B Fault → Type 0) (x : A) (so_far : first (Ok x)) where
  pub goes_on : (r : Result B Fault) → next x r → (first and_then next) r
  goes_on (Ok y) h = (x, so_far, h)
  goes_on (Err e) h = inr (x, so_far, h)

  pub gives_next : {X : Type 0} (view : X → B) (r : Result X Fault) → GivesInput view (next x) r → GivesInput view (first and_then next) r
  gives_next view (Ok y) h = (x, so_far, h)
  gives_next view (Err e) h = refuses_as (next x) (first and_then next) (λ e h. inr (x, so_far, h)) e h

  pub missing_next : (e : Fault) → IsMissing (next x) e → IsMissing (first and_then next) e
  missing_next e h = missing_as (next x) (first and_then next) (λ e h. inr (x, so_far, h)) e h

-- what the first step refuses is refused
module _ {A B : Type 0} (first : Result A Fault → Type 0) (next : A → Result B Fault → Type 0) where
  pub refused_first : (e : Fault) → Refuses first e → Refuses (first and_then next) e
  refused_first e h = refuses_as first (first and_then next) (λ e h. inl h) e h

  pub missing_first : (e : Fault) → IsMissing first e → IsMissing (first and_then next) e
  missing_first e h = missing_as first (first and_then next) (λ e h. inl h) e h
