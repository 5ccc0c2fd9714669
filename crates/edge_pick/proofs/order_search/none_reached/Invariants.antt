use Rattle.std.proofs.Common.{◌≡◌, ℕ, false, length, get_or}
use Rattle.edge_pick.proofs.order_search.none_reached.Given as goal

abbrev pub invariant-loop : goal.invariant-loop
invariant-loop l = record {
  long : length l.reached.items ≡ l.counter;
  none : (place : ℕ) → get_or l.reached.items place false ≡ false;
}
