use Rattle.std.proofs.Common.{◌-◌, length, vec_len}
use Rattle.lattice.specs.Cuts.{plane_of}
use Rattle.solid_mesh.specs.Solids.{solid_part, edge_halves}
use Rattle.cut_count.proofs.OutlineWalks.{AreAddedSoFar}
use Rattle.cut_count.proofs.outlines.add_outlines.Given as goal

-- what the tests so far added
abbrev pub invariant-loop-outline : goal.invariant-loop-outline
invariant-loop-outline g l =
    AreAddedSoFar (plane_of l.section.cut) (solid_part l.solid) (edge_halves l.solid) l.edge (g.F.Finder.list_along l.finder l.edge) l.fn.crossings.items (vec_len l.fn.crossings) l.fn.meter.tests l.i l.meter.tests l.crossings.items (vec_len l.crossings)

abbrev pub decreases-loop-outline : goal.decreases-loop-outline
decreases-loop-outline g l = length (g.F.Finder.list_along l.finder l.edge) - l.i
