-- What holds of what was taken holds of the drawing made of it.
use Rattle.std.proofs.Common.{◌≡◌, ℕ, List, map, Option, Some, None, sym, ap, subst}
use Rattle.std.specs.Prelude.{IfSome, IsSomeAnd}
use Rattle.desk.specs.Files.{Files}
use Rattle.draw_words.specs.Names.{Named}
use Rattle.plot_rack.specs.Choices.{AreChosen}
use Rattle.plot_rack.specs.Plotters.{Plot}
use Rattle.part_input.specs.declared.fault.Fault.{Fault}
use Rattle.draw_core.specs.inner.Kept.{WritesRack}
use Rattle.drawing.specs.declared.drawn.Drawing.{Drawing}
use Rattle.drawing.specs.Drawing.{drawn_in}
use Rattle.draw_core.specs.Drawing.{Writes}
use Rattle.sheet_plan.specs.JobSheets.{Drawn}

pub made_of : (made : Option Drawing) (P : Drawn → Type 0) (x : Drawn) → IfSome made (λ d. drawn_in d ≡ x) → P x → IfSome made (λ d. P (drawn_in d))
made_of None P x e p = tt
made_of (Some d) P x e p = subst P (sym e) p

-- the files of the rack's plotters are those of the plotters that were handed in, under the name that the words give
pub writes_named : {B : Type 0} (plot_of : B → Plot) (all rack : List B) (named : Option Named) (out : List ℕ) (outputs : List (List ℕ)) (fault : Option Fault) (old new : Files) (made : Option Drawing)
    → IsSomeAnd named (λ names. out ≡ names.out) → IfSome made (λ d. d.job.outputs.items ≡ outputs) → AreChosen (λ b. (plot_of b).suffix) all outputs rack
    → IfSome made (WritesRack plot_of rack fault old new out) → IfSome made (λ d. IsSomeAnd named (λ names. Writes (map plot_of all) fault old new names.out d))
writes_named plot_of all rack named out outputs fault old new None there same chosen writes = tt
writes_named plot_of all rack None out outputs fault old new (Some d) there same chosen writes = absurd (there)
writes_named plot_of all rack (Some names) out outputs fault old new (Some d) there same chosen writes =
    subst (λ (name : List ℕ). Writes (map plot_of all) fault old new name d) there
    (writes all (subst (λ (texts : List (List ℕ)). AreChosen (λ b. (plot_of b).suffix) all texts rack) (sym same) chosen))

pub same_outputs : (made : Option Drawing) (x : Drawn) → IfSome made (λ d. drawn_in d ≡ x) → IfSome made (λ d. d.job.outputs.items ≡ x.job.outputs)
same_outputs None x same = tt
same_outputs (Some d) x same = ap (λ (y : Drawn). y.job.outputs) same
