-- The counts of the faults of writing, and what is there with a fault.
use Rattle.std.specs.Prelude.{◌≡◌, ℕ, Option, None, Some, Bool, false, IsTrue}
use Rattle.desk.specs.Files.{Rose}
use Rattle.part_input.specs.Causes.{Cause, Faults, unwritten, wanting, common}
use Rattle.part_input.specs.declared.fault.Fault.{Fault}

-- ---- counts
-- the count of the faults of writing rose where one is answered, and else it stands
abbrev pub CountsWrite : Cause → ℕ → ℕ → Type 0
CountsWrite unwritten old new = Rose old new
CountsWrite cause old new = new ≡ old

abbrev pub CountsWritesOf : {F : Type 0} → Faults F → Option F → ℕ → ℕ → Type 0
CountsWritesOf faults None old new = new ≡ old
CountsWritesOf faults (Some fault) old new = CountsWrite (faults.cause fault) old new

abbrev pub IsNotWriting : Cause → Type 0
IsNotWriting unwritten = ⊥
IsNotWriting cause = Unit {0}

abbrev pub HasNoWriteFaultOf : {F : Type 0} → Faults F → Option F → Type 0
HasNoWriteFaultOf faults None = Unit {0}
HasNoWriteFaultOf faults (Some fault) = IsNotWriting (faults.cause fault)

-- with the faults that programs have in common
abbrev pub CountsWrites : Option Fault → ℕ → ℕ → Type 0
CountsWrites fault old new = CountsWritesOf common fault old new

abbrev pub HasNoWriteFault : Option Fault → Type 0
HasNoWriteFault fault = HasNoWriteFaultOf common fault

-- ---- what is made
-- it is there without a fault and with one of writing it, may be there with want of memory, and else is not
abbrev pub IsThereBy : Cause → Bool → Type 0
IsThereBy unwritten there = IsTrue there
IsThereBy wanting there = Unit {0}
IsThereBy cause there = there ≡ false

abbrev pub IsThereOf : {F : Type 0} → Faults F → Option F → Bool → Type 0
IsThereOf faults None there = IsTrue there
IsThereOf faults (Some fault) there = IsThereBy (faults.cause fault) there
