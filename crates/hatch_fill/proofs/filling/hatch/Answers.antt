use Rattle.std.proofs.Common.{ℕ, List, sym, ap, subst, ◌∙◌}
use Rattle.std.specs.Prelude.{All}
use Rattle.std.specs.List.{AllZip}
use Rattle.std.proofs.lemmas.List.Elements.{All-contains}
use Rattle.std.proofs.lemmas.Result.{IfOk-weaker}
use Rattle.intervals.specs.declared.interval.Interval.{Interval}
use Rattle.intervals.specs.Cuts.{IsProper, AreUnited, AreRest}
use Rattle.lattice.specs.Triple.{Triple}
use Rattle.lattice.specs.Points.{of_dir}
use Rattle.lattice.specs.Cuts.{plane_of}
use Rattle.cut_plane.specs.declared.segments.Segment.{Segment}
use Rattle.cut_plane.proofs.Lists.{each_contains}
use Rattle.hatch_fill.specs.declared.places.HatchPlace.{HatchPlace}
use Rattle.hatch_fill.specs.inner.Crossings.{AreCrossings}
use Rattle.hatch_fill.specs.inner.Lines.{IsLineOver}
use Rattle.hatch_fill.specs.inner.Parts.{AreJoined}
use Rattle.hatch_fill.specs.inner.Places.{place_order}
use Rattle.hatch_fill.specs.inner.Stretches.{pairs_of, IsStretchOf, AreStretches}
use Rattle.hatch_fill.proofs.Filled.{pairs_proper, filled}
use Rattle.hatch_fill.proofs.Under.{joined_part}
use Rattle.hatch_fill.proofs.filling.hatch.Goals as goal

pub united-requires : goal.united-requires
united-requires c =
    subst (All (IsProper place_order)) (sym c.in_ok-pairs.ensures) (each_contains (IsProper place_order) (pairs_of c.deref.result.now) (pairs_proper c.deref.result.now))

stretches_proper : (d : Triple) (spacing : ℕ) (segments : List Segment) (stretches : List (Interval HatchPlace)) → AreJoined (AreStretches d spacing) segments stretches → All (IsProper place_order) stretches
stretches_proper d spacing segments stretches joined =
    each_contains (IsProper place_order) stretches (λ i there.
    let (x, listed, (part, are, in_part)) = joined_part (AreStretches d spacing) segments stretches joined i there in
    let h : IsStretchOf d spacing x i = All-contains (IsStretchOf d spacing x) part i are.each in_part in
    h.proper)

pub united-requires-2 : goal.united-requires-2
united-requires-2 c = stretches_proper (of_dir c.dir-d.result) c.args.spacing c.as_slice-segments.result.now c.in_ok-stretches.field-0.items c.in_ok-stretches.ensures

pub returns : goal.returns
returns c s sound below borders =
    let section = c.args.section.now in
    let plane = plane_of section.cut in
    let spacing = c.args.spacing in
    let Crossing = λ (d : Triple) (segments : List Segment). AreJoined (AreCrossings d spacing) segments c.in_ok-places.places.items in
    let Along = λ (d : Triple) (segments : List Segment). AreJoined (AreStretches d spacing) segments c.in_ok-stretches.field-0.items in
    let sorted = c.sort.new.self.items in
    IfOk-weaker c.hatch_lines.result _ _
    (λ lines h.
    filled plane section.cut.in_range s sound.closed below section.segments.items section.loops.items borders spacing c.requires c.in_ok-places.places.items sorted c.in_ok-stretches.field-0.items c.in_ok-whole.whole.items
    c.in_ok-borders.borders.items c.in_ok-within.within.items lines.items
    (record {
      crossings = subst (λ (d : Triple). Crossing d section.segments.items) c.dir-d.ensures (subst (Crossing (of_dir c.dir-d.result)) c.as_slice-segments.ensures.value c.in_ok-places.ensures);
      moved = c.sort.ensures.permutation;
      ascending = c.in_ok-sort.ensures.sorted;
      united = subst (λ (xs : List (Interval HatchPlace)). AreUnited place_order xs c.in_ok-whole.whole.items) (c.in_ok-pairs.ensures ∙ ap pairs_of c.deref.ensures.value) c.in_ok-whole.ensures;
      along = subst (λ (d : Triple). Along d section.segments.items) c.dir-d.ensures (subst (Along (of_dir c.dir-d.result)) c.as_slice-segments.ensures.value c.in_ok-stretches.ensures);
      united_along = c.in_ok-borders.ensures;
      left =
          subst (λ (xs : List (Interval HatchPlace)). AreRest place_order xs c.in_ok-borders.borders.items c.in_ok-within.within.items) c.deref-2.ensures.value
          (subst (λ (xs : List (Interval HatchPlace)). AreRest place_order c.deref-2.result.now xs c.in_ok-within.within.items) c.deref-3.ensures.value c.in_ok-within.ensures);
      drawn = subst (λ (xs : List (Interval HatchPlace)). AllZip (IsLineOver plane) xs lines.items) c.deref-4.ensures.value h;
    }))
    c.hatch_lines.ensures
