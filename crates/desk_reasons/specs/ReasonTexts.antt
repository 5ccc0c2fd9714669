-- How a line says why the system refused a call.
use Rattle.std.specs.Prelude.{ℕ, List, [], Option, Some, None, codes}
use Rattle.desk_reasons.specs.declared.reason.Reason.{Reason}
use Rattle.desk_reasons.specs.declared.reason.Reason.TheVariants.{NotFound, Denied, Folder, ThroughFile, LongName, NoSpace, Quota, ReadOnly, WasRead, Memory}

-- it comes after what failed; nothing is said where it isn't known
abbrev pub reason_text : Option Reason → List ℕ
reason_text None = []
reason_text (Some NotFound) = codes ": no such file or folder"
reason_text (Some Denied) = codes ": permission denied"
reason_text (Some Folder) = codes ": it is a folder"
reason_text (Some ThroughFile) = codes ": its path goes through a file"
reason_text (Some LongName) = codes ": the name is too long"
reason_text (Some NoSpace) = codes ": no space left on the disk"
reason_text (Some Quota) = codes ": the disk quota is used up"
reason_text (Some ReadOnly) = codes ": the disk can only be read"
reason_text (Some WasRead) = codes ": it is the part or the job itself"
reason_text (Some Memory) = codes ": out of memory"
