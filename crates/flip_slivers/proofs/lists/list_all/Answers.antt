use Rattle.std.proofs.lemmas.Option.{slice_get-get_or}
use Rattle.flip_slivers.specs.inner.Lists.{lists_of}
use Rattle.flip_slivers.proofs.ListLemmas.{more_listed, all_listed, none_listed, same_count}
use Rattle.flip_slivers.proofs.lists.list_all.Goals as goal

pub loop-place-init : goal.loop-place-init
loop-place-init c = record {
  count = c.in_ok-lists.ensures.count;
  listed = none_listed c.args.triangles.now (lists_of c.in_ok-lists.lists.items) c.in_ok-lists.ensures.empty;
}

pub loop-place-preserved : goal.loop-place-preserved
loop-place-preserved c = record {
  count = same_count c.loop-place.lists.items c.add_all.new.lists.items 65536 c.in_ok-add_all.ensures.long c.loop-place.invariant.count;
  listed = more_listed c.args.triangles.now c.loop-place.place _ (slice_get-get_or c.args.triangles.now c.loop-place.place (record { a = 0; b = 0; c = 0 }) c.loop-place-test.true)
      (lists_of c.loop-place.lists.items) (lists_of c.add_all.new.lists.items) c.loop-place.invariant.listed c.in_ok-add_all.ensures;
}

pub returns-clause-listed : goal.returns-clause-listed
returns-clause-listed c = all_listed c.args.triangles.now c.loop-place.place (lists_of c.loop-place.lists.items) c.loop-place-test.false c.loop-place.invariant.listed
