-- What a drawing is laid out by.
use Rattle.std.specs.Prelude.{◌≡◌, Bool}
use Rattle.cut_marks.specs.AskedSides.{sides_for}
use Rattle.drawing.specs.Drawing.{IsDrawing}
use Rattle.drawing.specs.declared.drawn.Drawing.{Drawing}
use Rattle.sheet_layout.specs.Keeps.{HasPlaceForEach, KeepsApart, KeepsInLine, KeepsSides, StandsInFrame}
use Rattle.sheet_layout.specs.Layouts.{IsLaidOut, seats_on}
use Rattle.sheet_layout.specs.declared.layout.Layout.{Layout}
use Rattle.sheet_layout.specs.declared.layout.Wish.{Wish}
use Rattle.solid_mesh.specs.Solids.{solid_part}

-- the drawing shows the part on the sheet of the layout that its job has by this wish
pub record IsLaidDrawing (d : Drawing) (wish : Wish) (shrunk : Bool) : Type 0 where
  pub shows : IsDrawing d
  pub layout : Layout
  pub sheet : d.sheet ≡ layout.sheet
  pub paper : layout.paper ≡ d.job.paper
  pub shrunk_is : layout.shrunk ≡ shrunk
  pub laid : IsLaidOut d.job (solid_part d.solid).corners (sides_for d.job) wish layout
  pub apart : KeepsApart (solid_part d.solid).corners (sides_for d.job) layout
  pub in_frame : StandsInFrame (solid_part d.solid).corners (sides_for d.job) layout
  pub in_line : KeepsInLine (seats_on laid.laid laid.plan) layout
  pub beside : KeepsSides (solid_part d.solid).corners (sides_for d.job) (seats_on laid.laid laid.plan) layout
  pub places : HasPlaceForEach d.job.views.items layout
