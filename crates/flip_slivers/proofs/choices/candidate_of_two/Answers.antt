use Rattle.std.proofs.Common.{refl}
use Rattle.flip_slivers.proofs.SettledLemmas.{idle_of_two}
use Rattle.flip_slivers.proofs.choices.candidate_of_two.Goals as goal

pub returns-clause-none : goal.returns-clause-none
returns-clause-none c e =
    idle_of_two c.args.scene.now.corners.now c.args.scene.now.most c.args.scene.now.surface.now c.args.place c.args.t.now c.args.other c.args.d c.requires.beside (c.in_default.ensures.none refl) (c.candidate-2.ensures.none e)
