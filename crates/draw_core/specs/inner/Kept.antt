-- What is left where the files of a drawing are kept one after the other.
use Rattle.std.specs.Prelude.{◌≡◌, ℕ, List, map, slice_get, Option, Some, None}
use Rattle.desk.specs.Files.{Files, DeskState, Keeps, MayKeepFront}
use Rattle.plot_rack.specs.Choices.{AreChosen}
use Rattle.plot_rack.specs.Plotters.{Plot}
use Rattle.draw_core.specs.Drawing.{AreFilesOf, Writes}
use Rattle.draw_core.specs.inner.Made.{file_seen}
use Rattle.draw_core.specs.Outputs.{place_of}
use Rattle.drawing.specs.declared.drawn.Drawing.{Drawing}
use Rattle.draw_core.specs.declared.outputs.Output.{Output}
use Rattle.part_input.specs.declared.fault.Fault.{Fault}
use Rattle.part_input.specs.declared.fault.Fault.TheVariants.{WriteFault, Memory}
use Rattle.part_input.specs.declared.fault.Target.TheVariants.{Summary}

-- nothing but the files changed
abbrev pub OnlyFiles : DeskState → DeskState → Type 0
OnlyFiles old new = new ≡ record old { files = new.files }

-- one file is kept: whole; in part, with a fault of writing it; or not at all
abbrev pub LeavesOne : Option Fault → Files → Files → Output → Type 0
LeavesOne None old new output = Keeps old new output.name output.bytes.items
LeavesOne (Some (WriteFault target)) old new output = (target ≡ output.target) × MayKeepFront old new output.name output.bytes.items
LeavesOne (Some Memory) old new output = new ≡ old
LeavesOne (Some fault) old new output = ⊥

-- the faults of saying the summary
abbrev pub IsOfSaying : Fault → Type 0
IsOfSaying (WriteFault Summary) = Unit {0}
IsOfSaying Memory = Unit {0}
IsOfSaying fault = ⊥

-- each file's target has its place
abbrev pub TargetsInOrder : List Output → Type 0
TargetsInOrder outputs = (i : ℕ) (output : Output) → slice_get outputs i ≡ Some output → place_of output.target ≡ Some i

-- these are the files of the drawing, whatever the boxes of its rack were chosen from
pub record AreRackFiles {B : Type 0} (plot_of : B → Plot) (rack : List B) (d : Drawing) (out : List ℕ) (outputs : List Output) : Type 0 where
  pub places : TargetsInOrder outputs
  pub files : (all : List B) → AreChosen (λ b. (plot_of b).suffix) all d.job.outputs.items rack → AreFilesOf (map plot_of all) d out (map file_seen outputs)

-- the run leaves them as its fault allows
abbrev pub WritesRack : {B : Type 0} → (B → Plot) → List B → Option Fault → Files → Files → List ℕ → Drawing → Type 0
WritesRack {B} plot_of rack fault old new out d =
    (all : List B) → AreChosen (λ b. (plot_of b).suffix) all d.job.outputs.items rack → Writes (map plot_of all) fault old new out d
