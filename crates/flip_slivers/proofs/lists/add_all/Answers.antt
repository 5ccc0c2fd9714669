use Rattle.flip_slivers.specs.inner.Lists.{lists_of, list_number}
use Rattle.flip_slivers.proofs.ListLemmas.{all_more, grown_at}
use Rattle.flip_slivers.proofs.lists.add_all.Goals as goal

pub returns : goal.returns
returns c =
    all_more c.args.t.now c.args.place
    (lists_of c.args.lists.now.items) (lists_of c.add.new.lists.items) (lists_of c.add-2.new.lists.items) (lists_of c.add-3.new.lists.items) (lists_of c.add-4.new.lists.items) (lists_of c.add-5.new.lists.items) (lists_of c.add-6.new.lists.items)
    (grown_at (lists_of c.args.lists.now.items) (lists_of c.add.new.lists.items) c.number_of.result (list_number c.args.t.now.a c.args.t.now.b) c.args.place c.number_of.ensures.value c.in_ok-add.ensures)
    (grown_at (lists_of c.add.new.lists.items) (lists_of c.add-2.new.lists.items) c.number_of-2.result (list_number c.args.t.now.b c.args.t.now.c) c.args.place c.number_of-2.ensures.value c.in_ok-add-2.ensures)
    (grown_at (lists_of c.add-2.new.lists.items) (lists_of c.add-3.new.lists.items) c.number_of-3.result (list_number c.args.t.now.c c.args.t.now.a) c.args.place c.number_of-3.ensures.value c.in_ok-add-3.ensures)
    (grown_at (lists_of c.add-3.new.lists.items) (lists_of c.add-4.new.lists.items) c.number_of-4.result (list_number c.args.t.now.a c.args.t.now.a) c.args.place c.number_of-4.ensures.value c.in_ok-add-4.ensures)
    (grown_at (lists_of c.add-4.new.lists.items) (lists_of c.add-5.new.lists.items) c.number_of-5.result (list_number c.args.t.now.b c.args.t.now.b) c.args.place c.number_of-5.ensures.value c.in_ok-add-5.ensures)
    (grown_at (lists_of c.add-5.new.lists.items) (lists_of c.add-6.new.lists.items) c.number_of-6.result (list_number c.args.t.now.c c.args.t.now.c) c.args.place c.number_of-6.ensures.value c.in_ok-add-6.ensures)
