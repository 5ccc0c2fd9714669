-- Steps of reading, which end at the first fault.
use Rattle.std.specs.Prelude.{◌≡◌, ℕ, List, [], ◌∷◌, Option, Some, None, Result, Ok, Err, if◌then◌else◌}
use Rattle.std.specs.Str.{bytes_eq}
use Rattle.toml.specs.Data.{Data}
use Rattle.job_file.specs.declared.fault.JobFault.{JobFault}
use Rattle.job_file.specs.declared.fault.JobFault.TheVariants.{UnknownKey, Wrong}
use Rattle.job_file.specs.declared.fault.JobError.{JobError}
use Rattle.job_file.specs.declared.fault.JobError.TheVariants.{Job, Memory}
use Rattle.job_file.specs.declared.fault.Key.{Key}

-- what a value gives, and then the rest; or its fault
infixl 10 ◌>>=◌
abbrev pub ◌>>=◌ : {A B : Type 0} → Result A JobFault → (A → Result B JobFault) → Result B JobFault
(Ok x) >>= f = f x
(Err e) >>= f = Err e

-- a fault, if there is one, and else the rest
abbrev pub unless : {A : Type 0} → Option JobFault → Result A JobFault → Result A JobFault
unless None rest = rest
unless (Some fault) rest = Err fault

-- each key must be known
abbrev pub key_fault : Option (List ℕ) → Option JobFault
key_fault None = None
key_fault (Some key) = Some (UnknownKey key)

-- what a value means, or a wrong value
abbrev pub or_wrong : {A : Type 0} → Key → Option A → Result A JobFault
or_wrong key None = Err (Wrong key)
or_wrong key (Some x) = Ok x

-- what the value at a key means; where the key is missing, the usual one
abbrev pub value_or : {A : Type 0} → A → Key → (Data → Option A) → Option Data → Result A JobFault
value_or usual key meaning None = Ok usual
value_or usual key meaning (Some d) = or_wrong key (meaning d)

-- what stands beside a text
abbrev pub look_up : {A : Type 0} → List (List ℕ × A) → List ℕ → Option A
look_up [] text = None
look_up (row ∷ rows) text = if bytes_eq text row.0 then Some row.1 else look_up rows text

-- what a function answers, as contracts see it, is what the text says; only want of memory is free
abbrev pub Fails : {B : Type 0} → JobError → Result B JobFault → Type 0
Fails (Memory e) said = Unit {0}
Fails (Job fault) said = said ≡ Err fault

abbrev pub GivesJob : {A B : Type 0} → (A → B) → Result A JobError → Result B JobFault → Type 0
GivesJob seen (Ok x) said = said ≡ Ok (seen x)
GivesJob seen (Err e) said = Fails e said
