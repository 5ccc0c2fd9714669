-- What a function that takes no memory answers, as contracts see it, is what the text says.
use Rattle.std.specs.Prelude.{◌≡◌, Result, Ok, Err}
use Rattle.job_file.specs.declared.fault.JobFault.{JobFault}

abbrev pub GivesExactly : {A B : Type 0} → (A → B) → Result A JobFault → Result B JobFault → Type 0
GivesExactly seen (Ok x) said = said ≡ Ok (seen x)
GivesExactly seen (Err fault) said = said ≡ Err fault
