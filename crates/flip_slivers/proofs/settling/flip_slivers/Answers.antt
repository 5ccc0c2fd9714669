use Rattle.std.proofs.Common.{◌*◌, List, ap, subst, ◌∙◌}
use Rattle.flip_slivers.specs.declared.bounded.Bounded.{Bounded}
use Rattle.flip_slivers.specs.Flips.{IsGreatestBound}
use Rattle.flip_slivers.specs.inner.Lists.{triangles_of}
use Rattle.flip_slivers.proofs.SettlingLemmas.{settled}
use Rattle.flip_slivers.proofs.settling.flip_slivers.Goals as goal

pub returns : goal.returns
returns c =
    let last = c.flip_all.new.mesh.surface.items in
    let P : List Bounded → Type 0 = λ s. IsGreatestBound s c.greatest.result in
    let all = settled c.args.corners.now (1024 * c.args.limit) c.args.triangles.now c.in_ok-bare.field-0.items c.in_ok-mesh.mesh.surface.items last c.in_ok-flips.flips c.greatest.result c.requires.in_range
    c.in_ok-mesh.ensures.start c.in_ok-flips.ensures.flips (c.in_ok-bare.ensures ∙ ap triangles_of c.deref.ensures.value) (subst P c.deref-2.ensures.value c.greatest.ensures) c.in_ok-flips.ensures.settled in
    record {
      flips = all.flipped;
      count = all.count;
      in_range = all.in_range;
      near = all.near;
      within = all.within;
    }
