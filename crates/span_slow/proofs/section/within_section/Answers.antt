use Rattle.std.proofs.Common.{sym, subst}
use Rattle.lattice.specs.Cuts.{plane_of}
use Rattle.span_slow.proofs.InSection.{AreRightUpTo, short_end, short_at, right_at_start, right_next, right_all}
use Rattle.span_slow.proofs.section.within_section.Goals as goal

pub loop-place-init : goal.loop-place-init
loop-place-init c =
    let q = plane_of c.args.section.now.cut in
    let places = c.deref-place-items.result.now in
    subst (AreRightUpTo q c.args.solid.now c.args.edge places 0 c.start-from.result) (sym c.new-within.ensures.items)
    (right_at_start q c.args.solid.now c.args.edge c.requires.in_range c.args.places.items c.in_ok-places.places.items places c.in_ok-places.ensures.same c.in_ok-places.ensures.sorted c.deref-place-items.ensures.value
    c.requires.crossings c.start-from.result (short_end _ c.start-from.ensures.place c.start-from.ensures.den) c.start-from.ensures.num)

pub add_stretch-requires-clause-from : goal.add_stretch-requires-clause-from
add_stretch-requires-clause-from c = c.loop-place.invariant.0

pub add_stretch-requires-clause-to : goal.add_stretch-requires-clause-to
add_stretch-requires-clause-to c =
    short_at (plane_of c.args.section.now.cut) c.args.solid.now c.args.edge c.requires.in_range c.args.places.items c.in_ok-places.places.items c.deref-place-items.result.now
    c.in_ok-places.ensures.same c.in_ok-places.ensures.sorted c.deref-place-items.ensures.value c.requires.crossings c.loop-place.place-index c.place-item.result c.loop-place-test.true (sym c.place-item.is)

pub add_stretch-requires-2-clause-from : goal.add_stretch-requires-2-clause-from
add_stretch-requires-2-clause-from c = c.loop-place.invariant.0

pub loop-place-preserved : goal.loop-place-preserved
loop-place-preserved c =
    right_next (plane_of c.args.section.now.cut) c.args.solid.now c.args.edge c.requires.in_range c.args.places.items c.in_ok-places.places.items c.deref-place-items.result.now
    c.in_ok-places.ensures.same c.in_ok-places.ensures.sorted c.deref-place-items.ensures.value c.requires.crossings c.loop-place.place-index c.loop-place.from c.loop-place.within.items c.loop-place.invariant
    c.place-item.result c.loop-place-test.true (sym c.place-item.is) _ c.in_ok-add_stretch.ensures

pub returns : goal.returns
returns c e numbered =
    right_all (plane_of c.args.section.now.cut) c.args.solid.now c.args.edge c.requires.in_range c.args.places.items c.in_ok-places.places.items c.deref-place-items.result.now
    c.in_ok-places.ensures.same c.in_ok-places.ensures.sorted c.deref-place-items.ensures.value c.requires.crossings c.loop-place.place-index c.loop-place.from c.loop-place.within.items c.loop-place.invariant
    c.loop-place-test.false c.finish.result (short_end _ c.finish.ensures.place c.finish.ensures.den) c.finish.ensures.num _ e numbered (c.in_ok-add_stretch-2.ensures e numbered)

pub add_stretch-requires-2-clause-to : goal.add_stretch-requires-2-clause-to
add_stretch-requires-2-clause-to c = short_end _ c.finish.ensures.place c.finish.ensures.den
