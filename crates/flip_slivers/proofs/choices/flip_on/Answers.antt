use Rattle.std.proofs.Common.{arith}
use Rattle.flip_slivers.specs.inner.Lists.{lists_of}
use Rattle.flip_slivers.proofs.SettledLemmas.{idle_on}
use Rattle.flip_slivers.proofs.choices.flip_on.Goals as goal

pub returns-clause-none : goal.returns-clause-none
returns-clause-none c _ =
    idle_on c.args.scene.now.corners.now c.args.scene.now.most c.args.scene.now.surface.now c.args.waits.now (lists_of c.args.scene.now.lists.now) c.listed-places.result.now c.args.place c.args.t.now c.requires.laid.listed
    c.listed-places.ensures (λ q below. c.loop-other.invariant q (omega arith))
