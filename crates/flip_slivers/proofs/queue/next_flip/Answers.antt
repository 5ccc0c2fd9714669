use Rattle.std.proofs.Common.{◌≡◌, length, List, Bool, refl, subst, arith}
use Rattle.std.specs.Vec.{vec_len}
use Rattle.flip_slivers.specs.inner.Choices.{IsIdleAt}
use Rattle.flip_slivers.proofs.QueueLemmas.{fewer_queued, idle_without, none_waits}
use Rattle.flip_slivers.proofs.queue.next_flip.Goals as goal

pub loop-place-preserved : goal.loop-place-preserved
loop-place-preserved c =
    let scene = c.args.scene.now in
    let P : List Bool → Type 0 = λ ws. IsIdleAt scene.corners.now scene.most scene.surface.now ws c.in-Some.place in
    record {
      queue = fewer_queued (length scene.surface.now) c.loop-place.queue.waits.items c.loop-place.queue.places.items c.pop.new.self.items c.in-Some.place c.loop-place.invariant.queue c.in-Some.ensures.items;
      idle = idle_without scene.corners.now scene.most scene.surface.now c.loop-place.queue.waits.items c.in-Some.place c.loop-place.invariant.idle (subst P c.deref.ensures.value (c.in_default-flip_at.ensures.none refl));
    }

pub returns-clause-none : goal.returns-clause-none
returns-clause-none c _ =
    let scene = c.args.scene.now in
    let none_left : vec_len c.loop-place.queue.places ≡ 0 = c.in_default.ensures.cases.0 in
    none_waits scene.corners.now scene.most scene.surface.now (length scene.surface.now) c.loop-place.queue.waits.items c.loop-place.queue.places.items c.loop-place.invariant.idle c.loop-place.invariant.queue
    (omega (arith, c.loop-place.queue.places.ok.0))
