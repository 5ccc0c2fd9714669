use Rattle.lattice.specs.Points.{of_dir}
use Rattle.geometry.specs.Views.{IsOutline}
use Rattle.solid_mesh.specs.Solids.{solid_part, edge_halves}
use Rattle.edge_pick.proofs.Picking.{AreThoseBelow}
use Rattle.edge_pick.proofs.edges.outline_edges.Given as goal

-- the outlines of the edges so far
abbrev pub invariant-loop-edge : goal.invariant-loop-edge
invariant-loop-edge l = AreThoseBelow {s = solid_part l.solid} (IsOutline (of_dir l.d)) (edge_halves l.solid) l.numbers.items l.edge
