-- What contracts see of what a run has taken.
use Rattle.std.specs.Prelude.{◌≡◌, ℕ, List, Option, IsSomeAnd}
use Rattle.std.specs.declared.alloc.Global.{Global}
use Rattle.std.specs.declared.dyn_box.DynBox.{DynBox}
use Rattle.draw_words.specs.Names.{Named}
use Rattle.plot_rack.specs.Choices.{AreChosen}
use Rattle.plot_rack.specs.Racks.{boxes_of}
use Rattle.drawing.specs.Drawing.{drawn_in, IsPlannedDrawing}
use Rattle.drawing.specs.Numbers.{SumsViews}
use Rattle.sheet_plan.specs.JobSheets.{Drawn}
use Rattle.draw_core.specs.declared.take.Taken.{Taken}

-- V and W are the types that are boxed in its rack, and their values
abbrev pub drawn_of : {V : Type 0} {W : V → Type 0} → Taken V W → Drawn
drawn_of taken = drawn_in taken.drawing

-- its drawing is one, and its numbers are the sums of those of its views
pub record IsDrawn {V : Type 0} {W : V → Type 0} (taken : Taken V W) : Type 0 where
  pub shows : IsPlannedDrawing taken.drawing
  pub sums : SumsViews taken.drawing.solid taken.drawing.job.crease taken.drawing.job.views.items taken.numbers

-- the words name where its drawing goes
abbrev pub GoesWhereNamed : {V : Type 0} {W : V → Type 0} → Option Named → Taken V W → Type 0
GoesWhereNamed named taken = IsSomeAnd named (λ names. taken.out ≡ names.out)

-- for each output of its job it has the first of these boxes with that suffix
abbrev pub HasItsPlotters : {V : Type 0} {W : V → Type 0} → (DynBox V Global W → List ℕ) → List (DynBox V Global W) → Taken V W → Type 0
HasItsPlotters suffix_of boxes taken = AreChosen suffix_of boxes taken.drawing.job.outputs.items (boxes_of taken.rack)
