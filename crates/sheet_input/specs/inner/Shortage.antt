-- Want of memory is one fault.
use Rattle.std.proofs.Common.{◌≡◌, refl}
use Rattle.part_input.specs.Causes.{elsewhere, unwritten, wanting}
use Rattle.part_input.specs.declared.fault.Fault.{Fault}
use Rattle.part_input.specs.declared.fault.Fault.TheVariants.{Memory}
use Rattle.part_input.proofs.Causes.{memory_only, wanting_only}
use Rattle.sheet_input.specs.Faults.{cause_of}
use Rattle.sheet_input.specs.declared.fault.SheetFault.{SheetFault}
use Rattle.sheet_input.specs.declared.fault.SheetFault.TheVariants.{Common, OwnJob, NoRoom, WriteList, WritePlain}

-- what holds of want of memory holds of each fault that is one
pub short_only : (P : SheetFault → Type 0) → P (Common Memory) → (f : SheetFault) → cause_of f ≡ wanting → P f
short_only P m OwnJob is = absurd (wanting_only elsewhere is)
short_only P m (NoRoom lack) is = absurd (wanting_only elsewhere is)
short_only P m WriteList is = absurd (wanting_only unwritten is)
short_only P m WritePlain is = absurd (wanting_only unwritten is)
short_only P m (Common f) is = memory_only (λ (e : Fault). P (Common e)) m f is

pub short_alone : (f : SheetFault) → cause_of f ≡ wanting → f ≡ Common Memory
short_alone f is = short_only (λ g. g ≡ Common Memory) refl f is
