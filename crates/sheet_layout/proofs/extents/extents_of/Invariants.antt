use Rattle.std.proofs.Common.{take}
use Rattle.solid_mesh.specs.Solids.{solid_part}
use Rattle.sheet_plan.specs.Extents.{AreExtents}
use Rattle.sheet_layout.proofs.extents.extents_of.Given as goal

-- the extents of the views so far
abbrev pub invariant-loop-view : goal.invariant-loop-view
invariant-loop-view l = AreExtents (solid_part l.solid).corners (take l.view-index l.views) l.extents.items
