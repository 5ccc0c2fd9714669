-- What a step adds to what was warned.
use Rattle.std.specs.Prelude.{◌≡◌, ◌++◌, ℕ, List, Option, Some, None}
use Rattle.desk.specs.Files.{AppendsFront}
use Rattle.draw_core.specs.Lines.{fault_line}
use Rattle.part_input.specs.declared.fault.Fault.{Fault}

-- nothing where it has no fault, and else a prefix of the fault's line
abbrev pub Warns : Option Fault → List ℕ → List ℕ → Type 0
Warns None old new = new ≡ old
Warns (Some fault) old new = AppendsFront old new (fault_line fault)

-- and where no warning fails, the whole line
abbrev pub WarnsWhole : Option Fault → List ℕ → List ℕ → Type 0
WarnsWhole None old new = new ≡ old
WarnsWhole (Some fault) old new = new ≡ old ++ fault_line fault
