use Rattle.std.proofs.Common.{ℕ, List, set, true, sym, subst}
use Rattle.flip_slivers.specs.inner.Choices.{IsFuller}
use Rattle.flip_slivers.proofs.QueueLemmas.{fuller, waits_there}
use Rattle.flip_slivers.proofs.queue.wait.Goals as goal

pub returns-clause-fuller : goal.returns-clause-fuller
returns-clause-fuller c =
    let waits = c.args.queue.now.waits.items in
    let P : List ℕ → Type 0 = λ xs. IsFuller waits (set waits c.args.place true) c.args.queue.now.places.items xs in
    subst P (sym c.in_ok-push.ensures.items) (fuller waits c.args.queue.now.places.items c.args.place c.requires)

pub returns-clause-waits : goal.returns-clause-waits
returns-clause-waits c = waits_there c.args.queue.now.waits.items c.args.place c.requires
