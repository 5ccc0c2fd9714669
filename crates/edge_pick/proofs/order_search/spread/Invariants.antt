use Rattle.std.proofs.Common.{take}
use Rattle.edge_pick.proofs.OrderSearch.{IsSpreading}
use Rattle.edge_pick.proofs.order_search.spread.Given as goal

-- the ends so far
abbrev pub invariant-loop-to : goal.invariant-loop-to
invariant-loop-to l = IsSpreading l.edges l.fn.reached.items l.fn.steps.items l.reached.items l.steps.items (take l.to-index l.to-items)
