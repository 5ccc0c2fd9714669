use Rattle.std.proofs.Common.{◌∙◌, arith}
use Rattle.std.proofs.lemmas.List.{take_all}
use Rattle.solid_mesh.specs.Solids.{solid_part}
use Rattle.mend_core.proofs.ReadLists.{next_read}
use Rattle.mend_core.proofs.lists.corners_of.Goals as goal

pub loop-i-preserved : goal.loop-i-preserved
loop-i-preserved c =
    c.in_ok-push.ensures.items
    ∙ next_read (solid_part c.args.solid.now).corners c.loop-i.corners.items c.loop-i.i c.corner.result c.corner.ensures c.loop-i.invariant

pub returns : goal.returns
returns c = c.loop-i.invariant ∙ take_all c.loop-i.i (solid_part c.args.solid.now).corners (omega (arith, c.corners-i-end.ensures))
