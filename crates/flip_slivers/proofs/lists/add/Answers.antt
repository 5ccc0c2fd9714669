use Rattle.std.proofs.Common.{arith}
use Rattle.flip_slivers.proofs.ListLemmas.{pushed}
use Rattle.flip_slivers.proofs.lists.add.Goals as goal

pub returns : goal.returns
returns c =
    pushed c.args.lists.now.items c.args.number c.args.place c.index_mut.result.now c.push.new.self (omega (arith, c.args.lists.now.ok.0)) c.index_mut.ensures.value c.in_ok-push.ensures.items
