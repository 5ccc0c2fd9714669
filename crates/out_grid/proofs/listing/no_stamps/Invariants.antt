use Rattle.std.proofs.Common.{◌≡◌, All, length}
use Rattle.out_grid.proofs.listing.no_stamps.Given as goal

abbrev pub invariant-loop : goal.invariant-loop
invariant-loop l = record {
  long : length l.stamps.items ≡ l.counter;
  none : All (λ m. m ≡ 0) l.stamps.items;
}
