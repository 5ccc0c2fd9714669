use Rattle.edge_pick.specs.inner.Searches.{lists_of}
use Rattle.edge_pick.proofs.OrderSearch.{AreWalkedBelow}
use Rattle.edge_pick.proofs.order_search.steps_over.Given as goal

abbrev pub invariant-loop-place : goal.invariant-loop-place
invariant-loop-place l = AreWalkedBelow l.edges l.place (lists_of l.lists.items) l.reached.items l.steps.items
