use Rattle.edge_pick.specs.inner.Searches.{AreEndsAt, lists_of}
use Rattle.edge_pick.proofs.order_ends.find_ends.Given as goal

abbrev pub invariant-loop-place : goal.invariant-loop-place
invariant-loop-place l = AreEndsAt l.edges l.place (lists_of l.lists.items)
