use Rattle.std.proofs.Common.{◌<◌, [], ◌∷◌, All, length, map, vec_len, sym, ap, subst, ◌∙◌, arith}
use Rattle.std.proofs.lemmas.Bool.Decides.{Decides-eqb}
use Rattle.std.proofs.lemmas.List.{length-append, length-map}
use Rattle.lattice.specs.Points.{of_corner}
use Rattle.lattice.specs.Triangles.{IsBelow}
use Rattle.weld.specs.inner.Numbering.{of_place}
use Rattle.weld.specs.Raw.{seen}
use Rattle.weld.proofs.PlaceLemmas.{at_most_vertices}
use Rattle.weld.proofs.WeldLemmas.{none_welded, kept_welded, dropped_welded, is_weld, nothing_left}
use Rattle.weld.proofs.raw_part.RawPart.weld.Goals as goal
use Rattle.weld.proofs.raw_part.RawPart.weld.Goals.{then-are_different+in_ok-numbered+in_ok-push, else-are_different}

pub loop-triangle-init : goal.loop-triangle-init
loop-triangle-init c = record {
  tied = record { same = ap (map of_place) c.new.ensures.empty ∙ sym (ap (map of_corner) c.new-2.ensures.items); distinct = c.new.ensures.unique };
  welded = none_welded (map of_corner c.args.self.corners.items) (map of_corner c.new-2.result.items) c.new-triangles.result.items (ap (map of_corner) c.new-2.ensures.items) c.new-triangles.ensures.items;
  few = omega (arith, ap length c.new-triangles.ensures.items);
}

pub loop-triangle-preserved : goal.loop-triangle-preserved
loop-triangle-preserved c =
    let raw = c.args.self in
    let k = c.loop-triangle.triangle-index in
    let before = c.loop-triangle.invariant in
    let less : k < length raw.triangles.items = omega (arith, ap length c.deref-triangle-items.ensures.value, c.loop-triangle-test.true) in
    elim c.if-are_different.branch [
      | then-are_different+in_ok-numbered+in_ok-push w ↦
          let proper = rw (c.deref.ensures.value, c.deref-triangle-items.ensures.value) at (sym c.are_different.ensures ∙ w.if-are_different.true) in
          let numbers = rw (w.deref-then-are_different.ensures.value, c.deref-triangle-items.ensures.value) at w.in_ok-numbered.ensures.numbers in
          rw (w.kept-is, w.triangles-is)
          record {
            tied = w.in_ok-numbered.ensures.tied;
            welded =
                kept_welded raw.corners.items raw.triangles.items raw.in_range k _ less (map of_corner c.loop-triangle.kept.corners.items) (map of_corner w.number_all.new.self.corners.items)
                c.loop-triangle.triangles.items w.push.new.self.items before.welded w.in_ok-numbered.numbered proper numbers w.in_ok-push.ensures.items;
            few = omega (arith, ap length w.in_ok-push.ensures.items, length-append c.loop-triangle.triangles.items (w.in_ok-numbered.numbered ∷ []), before.few);
          }
      | else-are_different w ↦
          let flat = rw (c.deref.ensures.value, c.deref-triangle-items.ensures.value) at (sym c.are_different.ensures ∙ w.if-are_different.false) in
          rw (w.kept-is, w.triangles-is)
          record {
            tied = before.tied;
            welded =
                dropped_welded raw.corners.items raw.triangles.items raw.in_range k _ less (map of_corner c.loop-triangle.kept.corners.items) (map of_corner c.loop-triangle.kept.corners.items)
                c.loop-triangle.triangles.items c.loop-triangle.triangles.items before.welded flat;
            few = omega (arith, before.few);
          }
    ]

pub number_all-requires-clause-few : goal.number_all-requires-clause-few
number_all-requires-clause-few c =
    omega (arith, length-map c.loop-triangle.kept.corners.items of_corner, c.loop-triangle.invariant.welded.few, c.loop-triangle.invariant.few, ap length c.deref-triangle-items.ensures.value, c.args.self.few_triangles)

pub returns-then-is_empty-clause-nothing : goal.returns-then-is_empty-clause-nothing
returns-then-is_empty-clause-nothing c _ =
    let l = c.loop-triangle in
    nothing_left (seen c.args.self) l.kept.places.keys l.kept.corners.items l.triangles.items l.triangle-index (omega (arith, ap length c.deref-triangle-items.ensures.value)) l.invariant.tied l.invariant.welded
    (sym l.triangles.ok.0 ∙ (Decides-eqb (vec_len l.triangles) 0).0 (sym c.is_empty.ensures ∙ c.if-is_empty.true))

pub invariant_of-result : goal.invariant_of-result
invariant_of-result c = record {
  in_range = subst (λ n. All (IsBelow n) c.loop-triangle.triangles.items) (length-map c.loop-triangle.kept.corners.items of_corner) c.loop-triangle.invariant.welded.in_range;
}

pub returns-clause-weld : goal.returns-clause-weld
returns-clause-weld c =
    let l = c.loop-triangle in
    is_weld (seen c.args.self) l.kept.places.keys l.kept.corners.items l.triangles.items l.triangle-index (omega (arith, ap length c.deref-triangle-items.ensures.value)) l.invariant.tied l.invariant.welded

pub returns-clause-few_corners : goal.returns-clause-few_corners
returns-clause-few_corners c =
    let l = c.loop-triangle in
    omega (arith, length-map c.args.self.corners.items of_corner, at_most_vertices (map of_corner c.args.self.corners.items) l.kept.places.keys l.kept.corners.items l.invariant.tied l.invariant.welded.given)
