-- The lines that a run tells its faults by.
use Rattle.std.specs.Prelude.{ℕ, true, nat_lt, if◌then◌else◌, List, Option, Some, None, codes}
use Rattle.desk_reasons.specs.ReasonTexts.{reason_text}
use Rattle.desk_reasons.specs.declared.reason.Reason.{Reason}
use Rattle.fault_lines.specs.Lines.{fault_line, shown}
use Rattle.mend_core.specs.declared.lines.TheConstants.{USAGE}
use Rattle.mend_words.specs.Names.{Goal, Named, said, file}
use Rattle.part_input.specs.declared.fault.Fault.{Fault}
use Rattle.part_input.specs.declared.fault.Fault.TheVariants.{ReadFault, SampleRange, PartTooLong, Part, Nothing, Mesh, WriteFault}
use Rattle.part_input.specs.declared.fault.Target.{Target}
use Rattle.part_input.specs.declared.fault.Target.TheVariants.{Out}
use Rattle.part_lines.specs.PartTexts.{advice_text, mesh_text, part_text}
use Rattle.part_lines.specs.declared.hint.PartHint.{PartHint}
use Rattle.solid_mesh.specs.declared.faults.MeshFault.{MeshFault}
use Rattle.svg_page.specs.Texts.{◌⊕◌}

-- ---- a part
-- a line about a part: its name, and what is wrong
abbrev pub about : List ℕ → List ℕ → List ℕ
about name text = codes "mend: " ⊕ shown name ⊕ codes ": " ⊕ text ⊕ codes "\n"

-- it couldn't be read, for the system's reason if that is known
abbrev pub unread_text : Option Reason → List ℕ
unread_text reason = codes "cannot be read" ⊕ reason_text reason

-- what helps with the surface that flips left: more decimals, where there may be more and rounding made the fault
abbrev pub advice : ℕ → MeshFault → List ℕ
advice decimals fault = if nat_lt decimals 6 then advice_text fault true else codes ": docs/from-cad.md says how it is mended"

abbrev pub surface_text : ℕ → MeshFault → List ℕ
surface_text decimals fault = mesh_text fault ⊕ advice decimals fault

-- ---- what couldn't be written
-- help, the version, or the part on the standard output
abbrev pub said_line : List ℕ
said_line = codes "mend: cannot write the standard output\n"

-- a file, for the system's reason if that is known
abbrev pub unwritten_line : List ℕ → Option Reason → List ℕ
unwritten_line name reason = codes "mend: cannot write " ⊕ shown name ⊕ reason_text reason ⊕ codes "\n"

-- the part where it goes
abbrev pub goal_line : Goal → Option Reason → List ℕ
goal_line said reason = said_line
goal_line (file name) reason = unwritten_line name reason

-- the part, or the line that tells of it
abbrev pub write_line : Goal → Option Reason → Target → List ℕ
write_line out reason Out = goal_line out reason
write_line out reason target = codes "mend: cannot write the summary\n"

-- ---- all faults
-- one that is none of a part
abbrev pub other_line : Fault → List ℕ
other_line fault = fault_line (codes "mend") USAGE.now fault

-- The line of a fault, with the names that the words give, what helps with the part's text, and the system's reason; the words give no
-- names where they are refused or ask for no part.
abbrev pub mend_line : Option Named → PartHint → Option Reason → Fault → List ℕ
mend_line None hint reason (WriteFault target) = said_line
mend_line None hint reason fault = other_line fault
mend_line (Some named) hint reason (ReadFault input) = about named.part (unread_text reason)
mend_line (Some named) hint reason SampleRange = about named.part (codes "outside sample:1 to sample:8")
mend_line (Some named) hint reason PartTooLong = about named.part (codes "more than 16777216 bytes")
mend_line (Some named) hint reason (Part fault) = about named.part (part_text fault hint)
mend_line (Some named) hint reason Nothing = about named.part (codes "no triangle")
mend_line (Some named) hint reason (Mesh fault) = about named.part (surface_text named.decimals fault)
mend_line (Some named) hint reason (WriteFault target) = write_line named.out reason target
mend_line (Some named) hint reason fault = other_line fault
