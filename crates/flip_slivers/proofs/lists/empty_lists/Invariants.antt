use Rattle.std.proofs.Common.{◌≡◌, ℕ, [], length, get_or}
use Rattle.flip_slivers.specs.inner.Lists.{lists_of}
use Rattle.flip_slivers.proofs.lists.empty_lists.Given as goal

abbrev pub invariant-loop : goal.invariant-loop
invariant-loop l = record {
  long : length l.lists.items ≡ l.counter;
  empty : (k : ℕ) → get_or (lists_of l.lists.items) k [] ≡ [];
}
