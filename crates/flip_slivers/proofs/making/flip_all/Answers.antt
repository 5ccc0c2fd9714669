use Rattle.std.proofs.Common.{◌≤◌, ◌+◌, arith}
use Rattle.flip_slivers.specs.Flips.{none}
use Rattle.flip_slivers.proofs.MakingLemmas.{one_more, made_falls}
use Rattle.flip_slivers.proofs.Potential.{flips_most}
use Rattle.flip_slivers.proofs.making.flip_all.Goals as goal

pub loop-flips-init : goal.loop-flips-init
loop-flips-init c = record { flips = none c.args.mesh.now.surface.items; ready = c.requires.ready }

pub overflow_add-flips : goal.overflow_add-flips
overflow_add-flips c =
    let made = c.in_ok-step.ensures.made c.if-branch.true in
    let few : c.loop-flips.flips + 1 ≤ 2048020000 =
    flips_most c.args.corners.now c.args.most (c.loop-flips.flips + 1) c.args.mesh.now.surface.items c.step.new.mesh.surface.items c.requires.few c.requires.most
    (one_more c.args.corners.now c.args.most c.loop-flips.flips c.args.mesh.now.surface.items c.loop-flips.mesh.surface.items c.step.new.mesh.surface.items made.0 c.loop-flips.invariant.flips made.1 made.2) in
    omega (arith, few)

pub loop-flips-smaller : goal.loop-flips-smaller
loop-flips-smaller c =
    let made = c.in_ok-step.ensures.made c.if-branch.true in
    made_falls c.args.corners.now c.args.most c.loop-flips.mesh.surface.items c.step.new.mesh.surface.items made.0 made.1 made.2

pub loop-flips-preserved : goal.loop-flips-preserved
loop-flips-preserved c =
    let made = c.in_ok-step.ensures.made c.if-branch.true in
    record {
      flips = one_more c.args.corners.now c.args.most c.loop-flips.flips c.args.mesh.now.surface.items c.loop-flips.mesh.surface.items c.step.new.mesh.surface.items made.0 c.loop-flips.invariant.flips made.1 made.2;
      ready = c.in_ok-step.ensures.ready;
    }

pub returns-clause-settled : goal.returns-clause-settled
returns-clause-settled c = (c.in_ok-step.ensures.none c.if-branch.false).0
