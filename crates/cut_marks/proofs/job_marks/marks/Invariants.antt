use Rattle.std.proofs.Common.{take}
use Rattle.solid_mesh.specs.Solids.{solid_part}
use Rattle.job_file.specs.ShownCuts.{cuts_in}
use Rattle.cut_marks.specs.Marks.{AreMarked}
use Rattle.cut_marks.proofs.job_marks.marks.Given as goal

-- the views so far
abbrev pub invariant-loop-view : goal.invariant-loop-view
invariant-loop-view l = AreMarked l.sheet l.sides l.shrunk (solid_part l.solid) (cuts_in l.views) (take l.view l.views) l.marks.items
