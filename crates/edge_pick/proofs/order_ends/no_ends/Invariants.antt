use Rattle.std.proofs.Common.{◌≡◌, ℕ, [], length, get_or}
use Rattle.edge_pick.specs.inner.Searches.{lists_of}
use Rattle.edge_pick.proofs.order_ends.no_ends.Given as goal

abbrev pub invariant-loop : goal.invariant-loop
invariant-loop l = record {
  long : length l.lists.items ≡ l.counter;
  empty : (corner : ℕ) → get_or (lists_of l.lists.items) corner [] ≡ [];
}
