use Rattle.std.proofs.Common.{length, refl, sym, ap, ◌∙◌}
use Rattle.std.specs.Prelude.{pos}
use Rattle.std.proofs.lemmas.Option.{slice_get-get_or}
use Rattle.std.proofs.lemmas.Bool.{false≢true}
use Rattle.flip_slivers.specs.declared.bounded.Bounded.{Bounded}
use Rattle.flip_slivers.proofs.SettledLemmas.{sliver_height, sliver_side}
use Rattle.flip_slivers.proofs.ChoiceLemmas.{same_side, low_as, long_as, turned_below, measure_at}
use Rattle.flip_slivers.proofs.OneHeight.{round_height}
use Rattle.flip_slivers.proofs.choices.sliver_at.Goals as goal

abbrev nothing : Bounded
nothing = record { tri = record { a = 0; b = 0; c = 0 }; bound = 0 }

pub bounds-scene-t : goal.bounds-scene-t
bounds-scene-t c = (turned_below (length c.args.scene.now.corners.now) c.args.scene.now.surface.now c.args.place c.args.t.now c.requires.place c.requires.laid.in_range c.requires.turned).a

pub bounds-scene-t-2 : goal.bounds-scene-t-2
bounds-scene-t-2 c = (turned_below (length c.args.scene.now.corners.now) c.args.scene.now.surface.now c.args.place c.args.t.now c.requires.place c.requires.laid.in_range c.requires.turned).b

pub returns-then-not-is_sliver-clause-none : goal.returns-then-not-is_sliver-clause-none
returns-then-not-is_sliver-clause-none c _ s place turned x =
    let at = slice_get-get_or c.args.scene.now.surface.now c.args.place nothing c.requires.place in
    let m = measure_at c.args.scene.now.corners.now c.args.scene.now.surface.now c.args.scene.now.measures.now c.args.place _ c.index-scene-place.result c.requires.laid.measured at in
    let h = round_height c.args.scene.now.corners.now _ c.args.t.now _ _ (c.requires.turned _ at) m.height in
    false≢true (c.if-not-is_sliver.ensures.1 (sliver_height c.args.scene.now.corners.now c.args.scene.now.surface.now s c.args.t.now _ _ h turned x))

pub returns-then-first-measure-clause-none : goal.returns-then-first-measure-clause-none
returns-then-first-measure-clause-none c _ s place turned x =
    let at = slice_get-get_or c.args.scene.now.surface.now c.args.place nothing c.requires.place in
    let m = measure_at c.args.scene.now.corners.now c.args.scene.now.surface.now c.args.scene.now.measures.now c.args.place _ c.index-scene-place.result c.requires.laid.measured at in
    let h = round_height c.args.scene.now.corners.now _ c.args.t.now _ _ (c.requires.turned _ at) m.height in
    let below = turned_below (length c.args.scene.now.corners.now) c.args.scene.now.surface.now c.args.place c.args.t.now c.requires.place c.requires.laid.in_range c.requires.turned in
    c.if-first-measure.true
    (sliver_side c.args.scene.now.corners.now c.args.scene.now.surface.now s c.args.t.now _ _ c.side_between-first.result _ _ h turned x
    (slice_get-get_or c.args.scene.now.corners.now c.args.t.now.a c.index-scene-t.result below.a)
    (slice_get-get_or c.args.scene.now.corners.now c.args.t.now.b c.index-scene-t-2.result below.b) c.side_between-first.ensures.value)

pub returns-clause-sliver : goal.returns-clause-sliver
returns-clause-sliver c =
    let at = slice_get-get_or c.args.scene.now.surface.now c.args.place nothing c.requires.place in
    let m = measure_at c.args.scene.now.corners.now c.args.scene.now.surface.now c.args.scene.now.measures.now c.args.place _ c.index-scene-place.result c.requires.laid.measured at in
    let h = round_height c.args.scene.now.corners.now _ c.args.t.now _ _ (c.requires.turned _ at) m.height in
    let below = turned_below (length c.args.scene.now.corners.now) c.args.scene.now.surface.now c.args.place c.args.t.now c.requires.place c.requires.laid.in_range c.requires.turned in
    let sliver = c.if-not-is_sliver.ensures.0 refl in
    record {
      given = _;
      at = at;
      turned = c.requires.turned _ at;
      area = _;
      side = _;
      height = h;
      on_longest = ap pos (sym c.if-first-measure.false) ∙ c.side_between-first.ensures.value
          ∙ same_side c.args.scene.now.corners.now c.args.t.now h.placed _ _ (slice_get-get_or c.args.scene.now.corners.now c.args.t.now.a c.index-scene-t.result below.a) (slice_get-get_or c.args.scene.now.corners.now c.args.t.now.b c.index-scene-t-2.result below.b);
      long = long_as _ sliver.0;
      low = low_as _ _ sliver.1;
      is_rise = m.rise sliver.0 sliver.1;
    }

pub returns-clause-small : goal.returns-clause-small
returns-clause-small c =
    let at = slice_get-get_or c.args.scene.now.surface.now c.args.place nothing c.requires.place in
    (measure_at c.args.scene.now.corners.now c.args.scene.now.surface.now c.args.scene.now.measures.now c.args.place _ c.index-scene-place.result c.requires.laid.measured at).small
