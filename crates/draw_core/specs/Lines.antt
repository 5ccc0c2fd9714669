-- The line that a fault is told by, and a run that warns of nothing.
use Rattle.std.specs.Prelude.{◌≡◌, ℕ, true, List, codes}
use Rattle.desk.specs.Files.{DeskState}
use Rattle.fault_lines.specs.Lines.{fault_line as line_in}
use Rattle.part_input.specs.declared.fault.Fault.{Fault}
use Rattle.part_input.specs.declared.fault.Fault.TheVariants.{WriteFault}
use Rattle.part_input.specs.declared.fault.Target.{Target}

-- the line of a fault, in the program `draw` with its usage
abbrev pub fault_line : Fault → List ℕ
fault_line fault = line_in (codes "draw") (codes "draw PART [--job JOB] [--out OUT]") fault

abbrev pub write_line : Target → List ℕ
write_line target = fault_line (WriteFault target)

-- nothing was warned, on a desk that tells that, and no warning failed
pub record IsSilent (old new : DeskState) : Type 0 where
  pub warned : old.tells_warned ≡ true → new.warned ≡ old.warned
  pub faults : new.warn_faults ≡ old.warn_faults
