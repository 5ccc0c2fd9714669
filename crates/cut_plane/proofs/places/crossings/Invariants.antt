use Rattle.std.proofs.Common.{take}
use Rattle.lattice.specs.Cuts.{plane_of}
use Rattle.geometry.specs.Parts.{Edge, IsNumbered}
use Rattle.solid_mesh.specs.Solids.{solid_part, edge_halves}
use Rattle.cut_plane.proofs.SegmentCrossings.{AreFound}
use Rattle.cut_plane.proofs.places.crossings.Given as goal

-- the places are those of the segments so far
abbrev pub invariant-loop-segment : goal.invariant-loop-segment
invariant-loop-segment l =
    (e : Edge (solid_part l.solid)) → IsNumbered (edge_halves l.solid) l.edge.number e → AreFound (plane_of l.section.cut) e (take l.segment-index l.segment-items) l.places.items
