-- Stops of reading: those of lines and of tables as stops of a job, their places, and those of texts that TOML refuses.
use Rattle.std.specs.Prelude.{◌≡◌, ℕ, ◌-◌, List, length}
use Rattle.job_tables.specs.declared.flaw.TableStop.{TableStop}
use Rattle.job_tables.specs.declared.flaw.TableStop.TheVariants as tables
use Rattle.job_text.specs.Lines.{text_lines}
use Rattle.job_text.specs.Places.{IsTextPlace}
use Rattle.job_text.specs.declared.fault.Stop.{Stop}
use Rattle.job_text.specs.declared.fault.Stop.TheVariants as lines
use Rattle.sheet_job.specs.AnyJobs.{IsRefusedByLines}
use Rattle.sheet_job.specs.SheetFaults.{flaw_seen, HasHint}
use Rattle.sheet_job.specs.declared.any.AnyJobError.{AnyJobError}
use Rattle.sheet_job.specs.declared.any.AnyJobError.TheVariants as error
use Rattle.sheet_job.specs.declared.flaw.JobFlaw.{JobFlaw}
use Rattle.sheet_job.specs.declared.flaw.JobFlaw.TheVariants.{Line, Table}
use Rattle.sheet_job.specs.declared.flaw.SheetStop.{SheetStop}
use Rattle.sheet_job.specs.declared.flaw.SheetStop.TheVariants.{At, Memory}

abbrev pub stop_of_lines : List ℕ → Stop → SheetStop
stop_of_lines text (lines.At flaw left) = At (Line flaw) (length text - left)
stop_of_lines text (lines.Memory e) = Memory e

abbrev pub stop_of_tables : TableStop → SheetStop
stop_of_tables (tables.At flaw at) = At (Table flaw) at
stop_of_tables (tables.Memory e) = Memory e

-- the error is the stop, at its place
abbrev pub IsErrorAt : List ℕ → JobFlaw → ℕ → AnyJobError → Type 0
IsErrorAt text flaw at (error.Own placed) = (placed.flaw ≡ flaw) × IsTextPlace text at placed.place
IsErrorAt text flaw at (error.Older fault) = ⊥
IsErrorAt text flaw at (error.Memory e) = ⊥

abbrev pub IsErrorOf : List ℕ → SheetStop → AnyJobError → Type 0
IsErrorOf text (At flaw at) e = IsErrorAt text flaw at e
IsErrorOf text (Memory m) e = e ≡ error.Memory m

-- the stop says why TOML refuses the text, unless memory ran out
abbrev pub RefusesText : List ℕ → SheetStop → Type 0
RefusesText text (At flaw at) = IsRefusedByLines text (text_lines text) (flaw_seen flaw) at × HasHint flaw
RefusesText text (Memory e) = Unit {0}
