use Rattle.std.proofs.Common.{take}
use Rattle.solid_mesh.specs.Solids.{solid_part}
use Rattle.sheet_layout.specs.Layouts.{AreThrough}
use Rattle.sheet_layout.proofs.through.through_of.Given as goal

-- the views so far
abbrev pub invariant-loop-view : goal.invariant-loop-view
invariant-loop-view l = AreThrough (solid_part l.solid).corners (take l.view-index l.views) l.through.items
