use Rattle.std.proofs.Common.{◌+◌, ◌*◌, length}
use Rattle.lattice.specs.Cuts.{plane_of}
use Rattle.solid_mesh.specs.Solids.{solid_part, edge_halves}
use Rattle.cut_count.specs.Tests.{IsEdgeTests}
use Rattle.cut_count.proofs.CutEdges.{AreEntriesSoFar}
use Rattle.cut_count.proofs.spans_cut.Given as goal

-- the entries so far
abbrev pub invariant-loop-edge : goal.invariant-loop-edge
invariant-loop-edge g l =
    AreEntriesSoFar (plane_of l.section.cut) (solid_part l.solid) (edge_halves l.solid) l.picked.drawn.items
    (IsEdgeTests (plane_of l.section.cut) (solid_part l.solid) (edge_halves l.solid) (g.F.Finder.list_along l.finder) (length l.section.segments.items) (g.F.Finder.is_near l.finder)) (length (solid_part l.solid).triangles + length l.picked.outlines.items + 2 * length l.section.segments.items)
    l.fn.meter.tests l.edge-index l.meter.tests l.entries.items
