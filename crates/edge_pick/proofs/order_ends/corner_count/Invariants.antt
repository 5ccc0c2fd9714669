use Rattle.std.proofs.Common.{take, All}
use Rattle.edge_pick.specs.inner.Searches.{AreBelow}
use Rattle.edge_pick.proofs.order_ends.corner_count.Given as goal

abbrev pub invariant-loop-corners : goal.invariant-loop-corners
invariant-loop-corners l = All (AreBelow l.count) (take l.corners-index l.edges)
