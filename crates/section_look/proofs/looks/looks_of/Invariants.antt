use Rattle.std.proofs.Common.{take}
use Rattle.solid_mesh.specs.Solids.{solid_part}
use Rattle.section_look.specs.Looks.{AreLooks}
use Rattle.section_look.proofs.looks.looks_of.Given as goal

-- the looks of the views so far
abbrev pub invariant-loop-number : goal.invariant-loop-number
invariant-loop-number l = AreLooks l.sheet (solid_part l.solid) (take l.number l.views) l.looks.items
