use Rattle.lattice.specs.Creases.{fraction_of}
use Rattle.lattice.specs.Points.{of_dir}
use Rattle.geometry.specs.Views.{IsDrawn}
use Rattle.solid_mesh.specs.Solids.{solid_part, edge_halves}
use Rattle.edge_pick.proofs.Picking.{AreThoseBelow}
use Rattle.edge_pick.proofs.edges.drawn_edges.Given as goal

-- the drawn ones of the edges so far
abbrev pub invariant-loop-edge : goal.invariant-loop-edge
invariant-loop-edge l = AreThoseBelow {s = solid_part l.solid} (IsDrawn (of_dir l.d) (fraction_of l.crease)) (edge_halves l.solid) l.numbers.items l.edge
