use Rattle.std.proofs.Common.{take}
use Rattle.lattice.specs.Points.{of_dir}
use Rattle.section_look.specs.Regions.{lists_of}
use Rattle.section_look.specs.inner.Parts.{AreAddedIfIn}
use Rattle.section_look.proofs.regions.add_inside.Given as goal

-- those of the others so far are
abbrev pub invariant-loop-other : goal.invariant-loop-other
invariant-loop-other l = AreAddedIfIn (of_dir l.d) l.outer (lists_of (take l.other-index l.others)) (lists_of l.fn.loops.items) (lists_of l.loops.items)
