use Rattle.std.proofs.Common.{◌≡◌, length}
use Rattle.flip_slivers.proofs.ListLemmas.{ListsFirst}
use Rattle.flip_slivers.specs.inner.Lists.{lists_of}
use Rattle.flip_slivers.proofs.lists.list_all.Given as goal

abbrev pub invariant-loop-place : goal.invariant-loop-place
invariant-loop-place l = record {
  count : length l.lists.items ≡ 65536;
  listed : ListsFirst l.triangles l.place (lists_of l.lists.items);
}
