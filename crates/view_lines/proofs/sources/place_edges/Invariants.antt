use Rattle.std.proofs.Common.{inl, List, ◌++◌, map, take}
use Rattle.lattice.specs.Points.{of_dir}
use Rattle.view_lines.specs.inner.Sources.{Origin, ArePlaced}
use Rattle.view_lines.proofs.sources.place_edges.Given as goal

-- the edges so far came to the end
abbrev pub invariant-loop-entry : goal.invariant-loop-entry
invariant-loop-entry l = (all : List Origin) → ArePlaced (of_dir l.d) l.solid l.fn.table.keys all l.fn.placed.items
    → ArePlaced (of_dir l.d) l.solid l.table.keys (all ++ map inl (take l.entry-index l.entries)) l.placed.items
