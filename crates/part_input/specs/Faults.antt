-- The status of a run with a fault, and the counts of the faults of reading.
use Rattle.std.specs.Prelude.{ℕ, Option, Some, None}
use Rattle.part_input.specs.Causes.{common, CountsReadsOf}
use Rattle.part_input.specs.declared.fault.Fault.{Fault}
use Rattle.part_input.specs.declared.fault.Fault.TheVariants.{Usage, ReadFault, JobTooLong, Job as JobUnread, NoPlotter, SampleRange, PartTooLong, Part as PartUnread, Nothing, Mesh, DoesNotFit, WriteFault, Memory}

abbrev pub status_of : Option Fault → ℕ
status_of None = 0
status_of (Some Usage) = 2
status_of (Some JobTooLong) = 3
status_of (Some (JobUnread cause)) = 3
status_of (Some (NoPlotter name)) = 3
status_of (Some SampleRange) = 3
status_of (Some PartTooLong) = 4
status_of (Some (PartUnread cause)) = 4
status_of (Some Nothing) = 4
status_of (Some (Mesh fault)) = 5
status_of (Some (DoesNotFit need_w need_h have_w have_h)) = 6
status_of (Some (ReadFault input)) = 7
status_of (Some (WriteFault target)) = 8
status_of (Some Memory) = 9

-- the counts of the faults of reading, with these faults
abbrev pub CountsReads : Option Fault → ℕ → ℕ → Type 0
CountsReads fault old new = CountsReadsOf common fault old new
