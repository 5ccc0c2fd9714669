-- Answers without a fault of writing.
use Rattle.std.proofs.Common.{◌≡◌, ℕ, Option, Some, None, false, refl}
use Rattle.part_input.specs.Causes.{Cause, Faults, unwritten, wanting}
use Rattle.part_input.specs.declared.fault.Fault.{Fault}
use Rattle.part_input.specs.declared.fault.Fault.TheVariants.{WriteFault}
use Rattle.part_input.proofs.Answered.{IsOfNoWriting}
use Rattle.put_texts.specs.Faults.{CountsWrite, CountsWritesOf, HasNoWriteFault, HasNoWriteFaultOf, IsNotWriting, IsThereBy}

pub not_written : (e : Fault) → HasNoWriteFault (Some e) → IsOfNoWriting e
not_written (WriteFault target) w = w
not_written e w = tt

uncounted : (cause : Cause) (old new : ℕ) → IsNotWriting cause → CountsWrite cause old new → new ≡ old
uncounted unwritten old new w counts = absurd w
uncounted cause old new w counts = counts

-- none was counted
pub no_write : {F : Type 0} (faults : Faults F) (fault : Option F) (old new : ℕ) → HasNoWriteFaultOf faults fault → CountsWritesOf faults fault old new → new ≡ old
no_write faults None old new w counts = counts
no_write faults (Some fault) old new w counts = uncounted (faults.cause fault) old new w counts

-- a fault that isn't one of writing leaves nothing where nothing was made
pub not_there : (cause : Cause) → IsNotWriting cause → IsThereBy cause false
not_there unwritten w = absurd w
not_there wanting w = tt
not_there cause w = refl
