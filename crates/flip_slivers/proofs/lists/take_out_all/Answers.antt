use Rattle.flip_slivers.specs.inner.Lists.{lists_of}
use Rattle.flip_slivers.proofs.ListLemmas.{less_six}
use Rattle.flip_slivers.proofs.lists.take_out_all.Goals as goal

pub returns : goal.returns
returns c =
    less_six c.args.place
    (lists_of c.args.lists.now.items) (lists_of c.take_out.new.lists.items) (lists_of c.take_out-2.new.lists.items) (lists_of c.take_out-3.new.lists.items) (lists_of c.take_out-4.new.lists.items) (lists_of c.take_out-5.new.lists.items) (lists_of c.take_out-6.new.lists.items)
    c.take_out.ensures c.take_out-2.ensures c.take_out-3.ensures c.take_out-4.ensures c.take_out-5.ensures c.take_out-6.ensures
