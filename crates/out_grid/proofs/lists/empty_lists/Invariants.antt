use Rattle.std.proofs.Common.{◌≡◌, ℕ, [], length, get_or}
use Rattle.solid_mesh.specs.Stars.{lists_of}
use Rattle.out_grid.proofs.lists.empty_lists.Given as goal

abbrev pub invariant-loop : goal.invariant-loop
invariant-loop l = record {
  long : length l.lists.items ≡ l.counter;
  empty : (i : ℕ) → get_or (lists_of l.lists.items) i [] ≡ [];
}
