use Rattle.std.proofs.Common.{◌≡◌, Contains, length, take}
use Rattle.out_grid.specs.inner.Lists.{IsStamped, IsGrown}
use Rattle.out_grid.proofs.listing.add_new.Given as goal

abbrev pub invariant-loop-outline : goal.invariant-loop-outline
invariant-loop-outline l = record {
  stamps_long : length l.stamps.items ≡ length l.initial.stamps.items;
  stamped : IsStamped l.stamp l.stamps.items l.list.items;
  right : IsGrown (Contains (take l.outline-index l.outlines)) l.initial.list.items l.list.items;
}
