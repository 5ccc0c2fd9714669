-- Steps in order, each with what it gives and what it refuses, and the answers to them.
use Rattle.std.specs.Prelude.{◌≡◌, ◌⊎◌, Option, Some, None, Result, Ok, Err}
use Rattle.part_input.specs.Causes.{Cause, Faults, unread, unwritten, elsewhere, common}
use Rattle.part_input.specs.declared.fault.Fault.{Fault}

-- what the first step gives goes to the next; the first refusal is the answer
infixl 10 ◌and_then◌
abbrev pub ◌and_then◌ : {A B F : Type 0} → (Result A F → Type 0) → (A → Result B F → Type 0) → Result B F → Type 0
◌and_then◌ {A} first next (Ok y) = (x : A) × first (Ok x) × next x (Ok y)
◌and_then◌ {A} first next (Err e) = first (Err e) ⊎ ((x : A) × first (Ok x) × next x (Err e))

-- there is an answer to them
abbrev pub HasAnswer : {A F : Type 0} → (Result A F → Type 0) → Type 0
HasAnswer {A} {F} steps = (r : Result A F) × steps r

-- ---- refusals
-- Want of memory is free, and a fault of reading or writing has its count; each other refusal is that of the steps.
abbrev pub RefusesBy : Cause → Type 0 → Type 0
RefusesBy elsewhere refused = refused
RefusesBy cause refused = Unit {0}

abbrev pub RefusesOf : {A F : Type 0} → Faults F → (Result A F → Type 0) → F → Type 0
RefusesOf faults steps fault = RefusesBy (faults.cause fault) (steps (Err fault))

-- a fault of reading is that of the steps, as on a steady desk: the file is missing
abbrev pub IsMissingBy : Cause → Type 0 → Type 0
IsMissingBy unread refused = refused
IsMissingBy cause refused = Unit {0}

abbrev pub IsMissingOf : {A F : Type 0} → Faults F → (Result A F → Type 0) → F → Type 0
IsMissingOf faults steps fault = IsMissingBy (faults.cause fault) (steps (Err fault))

-- how steps end: without a fault, and where writing failed, they gave something, and else they refused it; of want of memory and of a
-- fault of reading this says nothing
abbrev pub EndsBy : Cause → Type 0 → Type 0 → Type 0
EndsBy unwritten given refused = given
EndsBy elsewhere given refused = refused
EndsBy cause given refused = Unit {0}

abbrev pub EndsOf : {A F : Type 0} → Faults F → (Result A F → Type 0) → Option F → Type 0
EndsOf {A} faults steps None = (x : A) × steps (Ok x)
EndsOf {A} faults steps (Some fault) = EndsBy (faults.cause fault) ((x : A) × steps (Ok x)) (steps (Err fault))

-- ---- answers
-- the fault is that of the steps, unless memory ran out: none where they give something, and else the refusal
abbrev pub AnswersOf : {A F : Type 0} → Faults F → Result A F → Option F → Type 0
AnswersOf faults (Ok given) fault = (fault ≡ None) ⊎ (fault ≡ Some faults.memory)
AnswersOf faults (Err e) fault = (fault ≡ Some e) ⊎ (fault ≡ Some faults.memory)

-- so it is of each answer of the steps
abbrev pub AnswersSteps : {A F : Type 0} → Faults F → (Result A F → Type 0) → Option F → Type 0
AnswersSteps {A} {F} faults steps fault = (r : Result A F) → steps r → AnswersOf faults r fault

-- ---- with the faults that programs have in common
abbrev pub Refuses : {A : Type 0} → (Result A Fault → Type 0) → Fault → Type 0
Refuses steps fault = RefusesOf common steps fault

abbrev pub IsMissing : {A : Type 0} → (Result A Fault → Type 0) → Fault → Type 0
IsMissing steps fault = IsMissingOf common steps fault

abbrev pub Answers : {A : Type 0} → Result A Fault → Option Fault → Type 0
Answers r fault = AnswersOf common r fault

abbrev pub IsAnswerOf : {A : Type 0} → (Result A Fault → Type 0) → Option Fault → Type 0
IsAnswerOf steps fault = AnswersSteps common steps fault

-- a step's result, seen by view
abbrev pub GivesInput : {X Y : Type 0} → (X → Y) → (Result Y Fault → Type 0) → Result X Fault → Type 0
GivesInput view steps (Ok x) = steps (Ok (view x))
GivesInput view steps (Err e) = Refuses steps e
