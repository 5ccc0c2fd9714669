use Rattle.std.proofs.Common.{◌≡◌, ℕ, [], length, get_or}
use Rattle.solid_mesh.specs.Stars.{lists_of}
use Rattle.solid_mesh.proofs.stars.empty_stars.Given as goal

abbrev pub invariant-loop : goal.invariant-loop
invariant-loop l = record {
  long : length l.stars.items ≡ l.counter;
  empty : (corner : ℕ) → get_or (lists_of l.stars.items) corner [] ≡ [];
}
