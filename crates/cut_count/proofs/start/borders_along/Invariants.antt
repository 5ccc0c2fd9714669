use Rattle.std.proofs.Common.{◌≡◌, ◌≤◌, ◌+◌, take, length}
use Rattle.lattice.specs.Cuts.{plane_of, toward_of}
use Rattle.geometry.specs.Parts.{Edge, IsNumbered}
use Rattle.geometry.specs.Counts.{to_left, to_right}
use Rattle.solid_mesh.specs.Solids.{solid_part, edge_halves}
use Rattle.cut_count.specs.inner.Walks.{AreFound, IsOddAhead}
use Rattle.cut_count.proofs.start.borders_along.Given as goal

-- of the segments gone through
pub record AreFoundUpTo (l : goal.Live-loop-segment) : Type 0 where
  pub found : (e : Edge (solid_part l.solid)) → IsNumbered (edge_halves l.solid) l.seen.at.number e → AreFound (plane_of l.section.cut) e l.part (take l.segment-index l.segment-items) l.found.items
  pub few : length l.found.items ≤ l.segment-index
  pub left : IsOddAhead to_left l.at_b (toward_of (plane_of l.section.cut)) l.seen.at.a l.seen.at.b (take l.segment-index l.segment-items) l.odd.left
  pub right : IsOddAhead to_right l.at_b (toward_of (plane_of l.section.cut)) l.seen.at.a l.seen.at.b (take l.segment-index l.segment-items) l.odd.right
  pub tests : l.meter.tests ≡ l.initial.meter.tests + l.segment-index

abbrev pub invariant-loop-segment : goal.invariant-loop-segment
invariant-loop-segment l = AreFoundUpTo l
