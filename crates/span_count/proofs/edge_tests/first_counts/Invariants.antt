use Rattle.std.proofs.Common.{◌-◌, ◌≤◌}
use Rattle.span_count.proofs.Walks.{AreFirstSoFar}
use Rattle.span_count.proofs.NearTested.{AreNearSoFar}
use Rattle.span_count.proofs.edge_tests.first_counts.Given as goal

-- the sums of the tests so far
abbrev pub invariant-loop-tri : goal.invariant-loop-tri
invariant-loop-tri g l = record {
  within : l.tri ≤ l.triangles;
  few : l.told ≤ l.tri;
  sums : AreFirstSoFar (g.S.Sight.sight l.fn.sight) l.edge l.tri (g.S.Sight.sight l.sight) l.left l.right;
  near : AreNearSoFar (g.F.Finder.is_near l.finder l.corner) (g.S.Sight.sight l.fn.sight) l.tri (g.S.Sight.sight l.sight);
}

abbrev pub decreases-loop-tri : goal.decreases-loop-tri
decreases-loop-tri g l = l.triangles - l.tri
