use Rattle.std.proofs.Common.{◌-◌, ◌≤◌}
use Rattle.lattice.specs.Cuts.{plane_of}
use Rattle.solid_mesh.specs.Solids.{solid_part, edge_halves}
use Rattle.cut_count.proofs.CoverSums.{AreCoversSoFar}
use Rattle.cut_count.proofs.NearTested.{AreNearCounted}
use Rattle.cut_count.proofs.start.cover_counts.Given as goal

-- the sums of the tests so far, and which were made
abbrev pub invariant-loop-tri : goal.invariant-loop-tri
invariant-loop-tri g l = record {
  within : l.tri ≤ l.triangles;
  few : l.told ≤ l.tri;
  sums : AreCoversSoFar (plane_of l.section.cut) (solid_part l.solid) (edge_halves l.solid) l.end.edge l.end.at_b l.tri l.fn.meter.tests l.meter.tests l.left l.right;
  tested : AreNearCounted (g.F.Finder.is_near l.finder l.corner) l.tri l.fn.meter.tests l.meter.tests;
}

abbrev pub decreases-loop-tri : goal.decreases-loop-tri
decreases-loop-tri g l = l.triangles - l.tri
