use Rattle.plot_rack.proofs.Firsts.{first_is, others_are}
use Rattle.plot_rack.proofs.rack.take_first.Goals as goal

pub returns-clause-first : goal.returns-clause-first
returns-clause-first g c =
    first_is _ c.args.boxes.now.items c.args.suffix.now c.in_ok-place.place c.remove.result (rw c.deref.ensures.value at c.in_ok-place.ensures.found) c.remove.ensures.value

pub returns-clause-others : goal.returns-clause-others
returns-clause-others g c other unlike =
    rw c.remove.ensures.by_index.2
    (others_are _ c.args.boxes.now.items c.args.suffix.now c.in_ok-place.place c.remove.result (rw c.deref.ensures.value at c.in_ok-place.ensures.found) c.remove.ensures.value other unlike)
