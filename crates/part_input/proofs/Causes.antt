-- Want of memory is one fault, and a fault of reading is one of an input.
use Rattle.std.proofs.Common.{◌≡◌, refl, sym, subst}
use Rattle.part_input.specs.Causes.{Cause, unread, unwritten, wanting, elsewhere, cause_of}
use Rattle.part_input.specs.declared.fault.Input.{Input}
use Rattle.part_input.specs.declared.fault.Fault.{Fault}
use Rattle.part_input.specs.declared.fault.Fault.TheVariants.{ReadFault, WriteFault, Memory}

abbrev pub IsWanting : Cause → Type 0
IsWanting wanting = Unit {0}
IsWanting cause = ⊥

pub wanting_only : (cause : Cause) → cause ≡ wanting → IsWanting cause
wanting_only cause is = subst IsWanting (sym is) tt

-- what holds of want of memory holds of each fault that is one
pub memory_only : (P : Fault → Type 0) → P Memory → (f : Fault) → cause_of f ≡ wanting → P f
memory_only P m Memory is = m
memory_only P m (ReadFault input) is = absurd (wanting_only unread is)
memory_only P m (WriteFault target) is = absurd (wanting_only unwritten is)
memory_only P m f is = absurd (wanting_only elsewhere is)

pub memory_alone : (f : Fault) → cause_of f ≡ wanting → f ≡ Memory
memory_alone f is = memory_only (λ g. g ≡ Memory) refl f is

-- what holds of each fault of reading holds of each fault that is one
abbrev pub IsUnread : Cause → Type 0
IsUnread unread = Unit {0}
IsUnread cause = ⊥

pub unread_only : (cause : Cause) → cause ≡ unread → IsUnread cause
unread_only cause is = subst IsUnread (sym is) tt

pub read_only : (P : Fault → Type 0) → ((input : Input) → P (ReadFault input)) → (f : Fault) → cause_of f ≡ unread → P f
read_only P r (ReadFault input) is = r input
read_only P r (WriteFault target) is = absurd (unread_only unwritten is)
read_only P r Memory is = absurd (unread_only wanting is)
read_only P r f is = absurd (unread_only elsewhere is)
