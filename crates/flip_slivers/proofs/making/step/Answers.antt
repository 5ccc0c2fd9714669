use Rattle.std.proofs.Common.{List, length, Option, refl, sym, ap, ◌∙◌, subst}
use Rattle.std.specs.Prelude.{IsNone}
use Rattle.flip_slivers.specs.declared.bounded.Bounded.{Bounded}
use Rattle.flip_slivers.specs.declared.choices.Flip.{Flip}
use Rattle.flip_slivers.specs.inner.Choices.{AreSettled}
use Rattle.flip_slivers.proofs.MakingLemmas.{choice_read, marked, same_count, step_ready}
use Rattle.flip_slivers.proofs.making.step.Goals as goal

pub returns-in_default-clause-none : goal.returns-in_default-clause-none
returns-in_default-clause-none c _ =
    let P : List Bounded → Type 0 = λ s. AreSettled c.args.corners.now c.args.most s in
    let N : Option Flip → Type 0 = λ o. IsNone o in (
      subst P c.deref.ensures.value (c.in_ok-flip.ensures.none (subst N (sym c.in_default.is) refl)),
      refl,
    )

pub wait-requires : goal.wait-requires
wait-requires c =
    let choice = choice_read c.args.corners.now c.args.most c.deref.result.now c.args.mesh.now.surface.items c.in_ok-flip.field-0 c.in-Some.flip c.deref.ensures.value c.in_ok-flip.ensures.some c.in-Some.is in
    marked c.args.mesh.now.surface.items c.deref.result.now c.in-Some.flip.neighbour choice.neighbour _ _ choice.at_neighbour c.deref.ensures.value c.in_ok-flip.ensures.queue

pub wait-requires-2 : goal.wait-requires-2
wait-requires-2 c =
    let choice = choice_read c.args.corners.now c.args.most c.deref.result.now c.args.mesh.now.surface.items c.in_ok-flip.field-0 c.in-Some.flip c.deref.ensures.value c.in_ok-flip.ensures.some c.in-Some.is in
    marked c.args.mesh.now.surface.items c.deref.result.now c.in-Some.flip.sliver choice.sliver _ _ choice.at_sliver c.deref.ensures.value
    (c.in_ok-wait.ensures.fuller.queue (length c.deref.result.now) c.in_ok-flip.ensures.queue)

pub wake-requires-clause-marks : goal.wake-requires-clause-marks
wake-requires-clause-marks c =
    c.in_ok-wait-2.ensures.fuller.count ∙ c.in_ok-wait.ensures.fuller.count ∙ c.in_ok-flip.ensures.queue.for_each
    ∙ same_count c.args.mesh.now.surface.items c.make.new.mesh.surface.items c.deref.result.now c.in-Some.flip c.in_ok-make.ensures.made c.deref.ensures.value ∙ ap length (sym c.deref-4.ensures.value)

pub returns-clause-ready : goal.returns-clause-ready
returns-clause-ready c =
    let choice = choice_read c.args.corners.now c.args.most c.deref.result.now c.args.mesh.now.surface.items c.in_ok-flip.field-0 c.in-Some.flip c.deref.ensures.value c.in_ok-flip.ensures.some c.in-Some.is in
    step_ready c.args.corners.now c.args.most c.args.mesh.now.surface.items c.make.new.mesh.surface.items c.deref.result.now c.deref-4.result.now c.make.new.mesh.measures.items c.make.new.mesh.lists.items c.in-Some.flip _ _ _ _ _ _ _ _
    choice c.in_ok-make.ensures.made c.in_ok-make.ensures.laid c.deref.ensures.value c.deref-4.ensures.value c.in_ok-flip.ensures.queue c.in_ok-flip.ensures.idle
    c.in_ok-wait.ensures.fuller c.in_ok-wait.ensures.waits c.in_ok-wait-2.ensures.fuller c.in_ok-wait-2.ensures.waits c.in_ok-wake.ensures.fuller c.in_ok-wake.ensures.woken
