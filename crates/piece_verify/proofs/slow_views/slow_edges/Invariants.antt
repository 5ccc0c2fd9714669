use Rattle.std.proofs.Common.{take}
use Rattle.lattice.specs.Points.{of_dir}
use Rattle.solid_mesh.specs.Solids.{solid_part, edge_halves}
use Rattle.span_slow.specs.Views.{AreSpansIn}
use Rattle.drawn_strips.specs.Strips.{AreEdgeStrips}
use Rattle.piece_verify.proofs.slow_views.slow_edges.Given as goal

-- the strips of the edges so far
abbrev pub invariant-loop-edge : goal.invariant-loop-edge
invariant-loop-edge l = AreEdgeStrips (of_dir l.d) {s = solid_part l.solid} (AreSpansIn l.view) (edge_halves l.solid) (take l.edge-index l.drawn) l.strips.items
