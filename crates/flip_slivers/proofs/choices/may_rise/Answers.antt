use Rattle.flip_slivers.proofs.ChoiceLemmas.{measure_at}
use Rattle.flip_slivers.proofs.choices.may_rise.Goals as goal

pub returns : goal.returns
returns c x y at_x at_y =
    c.rises.ensures x.tri y.tri
    (measure_at c.args.scene.now.corners.now c.args.scene.now.surface.now c.args.scene.now.measures.now c.args.place x _ c.requires.laid.measured at_x)
    (measure_at c.args.scene.now.corners.now c.args.scene.now.surface.now c.args.scene.now.measures.now c.args.other y _ c.requires.laid.measured at_y)
