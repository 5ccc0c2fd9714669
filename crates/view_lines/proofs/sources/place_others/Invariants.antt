use Rattle.std.proofs.Common.{inr, List, ◌++◌, map, take}
use Rattle.lattice.specs.Triple.{Triple}
use Rattle.solid_mesh.specs.declared.solid.Solid.{Solid}
use Rattle.view_lines.specs.inner.Sources.{Origin, ArePlaced}
use Rattle.view_lines.proofs.sources.place_others.Given as goal

-- the strips so far came to the end
abbrev pub invariant-loop-strip : goal.invariant-loop-strip
invariant-loop-strip l = (d : Triple) → (solid : Solid) → (all : List Origin) → ArePlaced d solid l.fn.table.keys all l.fn.placed.items
    → ArePlaced d solid l.table.keys (all ++ map inr (take l.strip-index l.others)) l.placed.items
