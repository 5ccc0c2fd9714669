-- What a step of the search for the first fault says.
use Rattle.std.specs.Prelude.{◌≡◌, ℕ, Option, Some, None, Result, Ok, Err}
use Rattle.job_tables.specs.declared.flaw.TableFlaw.{TableFlaw}
use Rattle.job_tables.specs.declared.flaw.TableStop.{TableStop}
use Rattle.job_tables.specs.declared.flaw.TableStop.TheVariants.{At, Memory}
use Rattle.job_tables.specs.Faults.{Fault}
use Rattle.job_tables.specs.Hints.{IsHinted}
use Rattle.job_tables.specs.Seen.{fault_seen}

-- the flaw is the one that is said, with its hint
abbrev pub IsFlaw : Option TableFlaw → Option Fault → Type 0
IsFlaw None said = said ≡ None
IsFlaw (Some flaw) said = (said ≡ Some (fault_seen flaw)) × IsHinted flaw

abbrev pub IsStop : TableStop → Option (Fault × ℕ) → Type 0
IsStop (At flaw at) said = (said ≡ Some (fault_seen flaw, at)) × IsHinted flaw
IsStop (Memory e) said = Unit {0}

-- nothing is wrong, or this is, unless memory ran out
abbrev pub SaysFault : {A : Type 0} → Result A TableStop → Option (Fault × ℕ) → Type 0
SaysFault (Ok x) said = said ≡ None
SaysFault (Err stop) said = IsStop stop said
