-- What bytes say as a job of any version.
use Rattle.std.specs.Prelude.{◌≡◌, ◌⊎◌, ℕ, ℤ, pos, ◌-◌, Bool, false, List, All, length, slice_get, Option, Some, None, option_map, option_and_then, Result, Ok, Err, if◌then◌else◌, codes}
use Rattle.std.specs.Ordering.{int_eq}
use Rattle.std.specs.Str.{IsUtf8, IsValidUpTo}
use Rattle.job_file.specs.Documents.{JobValues, table_of, job_of}
use Rattle.job_file.specs.Seen.{job_seen}
use Rattle.job_file.specs.declared.fault.JobFault.{JobFault}
use Rattle.job_tables.specs.Refused.{IsRefusedLine}
use Rattle.job_text.specs.Lines.{TextLine, text_lines}
use Rattle.job_text.specs.Places.{IsTextPlace}
use Rattle.job_text.specs.declared.fault.Flaw.{Flaw}
use Rattle.toml.specs.Data.{Members, get_member, as_integer}
use Rattle.sheet_job.specs.SheetFaults.{OwnFault, not_utf8, in_line, refused, flaw_seen, HasHint}
use Rattle.sheet_job.specs.SheetJobs.{SheetJobValues, sheet_job_of_text}
use Rattle.sheet_job.specs.SheetSeen.{sheet_job_seen, IsPlacedIn}
use Rattle.sheet_job.specs.declared.any.AnyJob.{AnyJob}
use Rattle.sheet_job.specs.declared.any.AnyJob.TheVariants as job
use Rattle.sheet_job.specs.declared.any.AnyJobError.{AnyJobError}
use Rattle.sheet_job.specs.declared.any.AnyJobError.TheVariants as error
use Rattle.sheet_job.specs.declared.flaw.PlacedFlaw.{PlacedFlaw}

-- what TOML reads as a job of version 1 or 2, or of an unknown version; what it reads as one of version 3; or what it refuses
pub data AnyRead : Type 0 where
  older : Result JobValues JobFault → AnyRead
  own : Result SheetJobValues (OwnFault × ℕ) → AnyRead
  no_toml : AnyRead

abbrev pub is_three : Option ℤ → Bool
is_three None = false
is_three (Some n) = int_eq n (pos 3)

-- `version` is the whole number 3
abbrev pub is_own : Members → Bool
is_own ms = is_three (option_and_then as_integer (get_member (codes "version") ms))

abbrev pub any_job_of_table : List ℕ → Option Members → AnyRead
any_job_of_table bytes None = no_toml
any_job_of_table bytes (Some ms) = if is_own ms then own (sheet_job_of_text bytes) else older (job_of ms)

-- what bytes say, by what TOML reads
abbrev pub any_job_of_bytes : List ℕ → AnyRead
any_job_of_bytes bytes = any_job_of_table bytes (table_of bytes)

-- ---- what TOML refuses
-- the flaw of the lines; or TOML refuses the text with this line, so many bytes after the text's start
abbrev pub IsRefusedByLines : List ℕ → Result (List TextLine) (Flaw × ℕ) → OwnFault → ℕ → Type 0
IsRefusedByLines text (Err (flaw, left)) fault at = (fault ≡ in_line flaw) × (at ≡ length text - left)
IsRefusedByLines text (Ok lines) fault at = (fault ≡ refused) × ((i : ℕ) × IsRefusedLine text lines i × (option_map (λ line. line.at) (slice_get lines i) ≡ Some at))

-- the bytes are no text from there on; or the text is refused
abbrev pub IsRefusedFor : List ℕ → OwnFault → ℕ → Type 0
IsRefusedFor bytes fault at =
    (¬ IsUtf8 bytes × (fault ≡ not_utf8) × IsValidUpTo bytes at) ⊎ (IsUtf8 bytes × IsRefusedByLines bytes (text_lines bytes) fault at)

-- what is read has this fault there
abbrev pub HasFault : List ℕ → AnyRead → OwnFault → ℕ → Type 0
HasFault bytes (older said) fault at = ⊥
HasFault bytes (own said) fault at = said ≡ Err (fault, at)
HasFault bytes no_toml fault at = IsRefusedFor bytes fault at

-- a fault of what is read, with its hint and its place
pub record IsFaultOf (bytes : List ℕ) (said : AnyRead) (placed : PlacedFlaw) : Type 0 where
  pub at : ℕ
  pub fault : HasFault bytes said (flaw_seen placed.flaw) at
  pub hint : HasHint placed.flaw
  pub place : IsTextPlace bytes at placed.place

-- the result is what bytes say, unless memory ran out
abbrev pub GivesAny : List ℕ → Result AnyJob AnyJobError → AnyRead → Type 0
GivesAny bytes (Ok (job.Older j)) said = said ≡ older (Ok (job_seen j))
GivesAny bytes (Ok (job.Own j)) said = (said ≡ own (Ok (sheet_job_seen j))) × All (IsPlacedIn bytes) j.views.items
GivesAny bytes (Err (error.Older fault)) said = said ≡ older (Err fault)
GivesAny bytes (Err (error.Own placed)) said = IsFaultOf bytes said placed
GivesAny bytes (Err (error.Memory e)) said = Unit {0}
