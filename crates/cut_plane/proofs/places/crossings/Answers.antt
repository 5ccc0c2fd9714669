use Rattle.std.proofs.Common.{◌≡◌, ◌++◌, List, [], ◌∷◌, take, sym, subst, ap, ◌∙◌}
use Rattle.std.specs.Prelude.{Option}
use Rattle.std.specs.List.{All}
use Rattle.std.proofs.lemmas.List.{take_more, take_all}
use Rattle.exact_frac.specs.declared.Frac.{Frac}
use Rattle.lattice.specs.Cuts.{Plane, plane_of}
use Rattle.geometry.specs.Parts.{Part, Edge}
use Rattle.geometry.proofs.Listed.{same_element}
use Rattle.solid_mesh.specs.Solids.{solid_part}
use Rattle.cut_plane.specs.declared.segments.Segment.{Segment}
use Rattle.cut_plane.specs.Loops.{IsSegmentOf}
use Rattle.cut_plane.proofs.SegmentCrossings.{AreFound, IsFoundOf, found_first, found_same, found_more, found_all}
use Rattle.cut_plane.proofs.places.crossings.Goals as goal
use Rattle.cut_plane.proofs.places.crossings.Goals.{in-Some+in_ok-push, in_default}

pub loop-segment-init : goal.loop-segment-init
loop-segment-init c e numbered = subst (λ (places : List Frac). AreFound (plane_of c.args.section.now.cut) e [] places) (sym c.new-places.ensures.items) (found_first (plane_of c.args.section.now.cut) e)

-- the same lists by other names
renamed : (c : Plane) {s : Part} (e : Edge s) (xs xs' : List Segment) (places places' : List Frac) → xs' ≡ xs → places' ≡ places → AreFound c e xs places → AreFound c e xs' places'
renamed c e xs xs' places places' f g h = subst (λ (ys : List Segment). AreFound c e ys places') (sym f) (subst (λ (ps : List Frac). AreFound c e xs ps) (sym g) h)

pub loop-segment-preserved : goal.loop-segment-preserved
loop-segment-preserved c e numbered =
    let plane = plane_of c.args.section.now.cut in
    let s = solid_part c.args.solid.now in
    let items = c.as_slice-segment-items.result.now in
    let i = c.loop-segment.segment-index in
    let x = c.segment-item.result in
    let places = c.loop-segment.places.items in
    let more = take_more items i x c.loop-segment-test.true ∙ ap (λ (y : Segment). take i items ++ y ∷ []) (sym c.segment-item.is) in
    let numbers = c.edge-numbers.ensures.each e numbered in
    let at_a = same_element s.corners e.m c.edge-numbers.result.a e.a c.corner.result numbers.a e.at_m c.corner.ensures in
    let at_b = same_element s.corners e.n c.edge-numbers.result.b e.b c.corner-2.result numbers.b e.at_n c.corner-2.ensures in
    let each = subst (λ (xs : List Segment). All (IsSegmentOf plane s) xs) (sym c.as_slice-segment-items.ensures.value) c.requires.borders.each in
    let listed = subst (λ (y : Segment). IsSegmentOf plane s y) (sym c.segment-item.is) (each i x c.loop-segment-test.true) in
    let before = c.loop-segment.invariant e numbered in
    let found : IsFoundOf plane e x c.crossing.result = c.crossing.ensures e numbered at_a at_b in
    elim c.match-crossing.branch [
      | in-Some+in_ok-push w ↦
          renamed plane e (take i items ++ x ∷ []) _ (places ++ w.in-Some.place ∷ []) c.match-crossing.places.items more (ap (λ v. v.items) w.places-is ∙ w.in_ok-push.ensures.items)
          (found_more plane e (take i items) places before x w.in-Some.place listed (subst (λ (o : Option Frac). IsFoundOf plane e x o) w.in-Some.is found))
      | in_default w ↦
          renamed plane e (take i items ++ x ∷ []) _ places c.match-crossing.places.items more (ap (λ v. v.items) w.places-is)
          (found_same plane e (take i items) places before x (subst (λ (o : Option Frac). IsFoundOf plane e x o) w.in_default.is found))
    ]

pub returns : goal.returns
returns c e numbered =
    let plane = plane_of c.args.section.now.cut in
    let all = take_all c.loop-segment.segment-index c.as_slice-segment-items.result.now c.loop-segment-test.false ∙ c.as_slice-segment-items.ensures.value in
    found_all plane e c.args.section.now.segments.items c.requires.borders c.loop-segment.places.items
    (subst (λ (xs : List Segment). AreFound plane e xs c.loop-segment.places.items) all (c.loop-segment.invariant e numbered))
