use Rattle.std.proofs.Common.{◌-◌, length}
use Rattle.edge_pick.specs.inner.Searches.{lists_of}
use Rattle.edge_pick.proofs.OrderSearch.{IsWalking}
use Rattle.edge_pick.proofs.order_search.walk_run.Given as goal

abbrev pub invariant-loop-head : goal.invariant-loop-head
invariant-loop-head l = IsWalking l.edges l.start l.fn.reached.items l.fn.steps.items l.head (lists_of l.lists.items) l.reached.items l.steps.items

-- there are no more steps than edges
abbrev pub decreases-loop-head : goal.decreases-loop-head
decreases-loop-head l = length l.edges - l.head
