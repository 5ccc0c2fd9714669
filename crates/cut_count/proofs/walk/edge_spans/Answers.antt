use Rattle.std.proofs.Common.{rules, ◌≡◌, inl, inr, ℕ, ◌+◌, ◌<◌, ◌^◌, cond, List, [], ◌∷◌, length, Result, Ok, Err, OnOk, refl, sym, subst, ap, ◌∙◌, arith, FitsSigned, to_z, of_z, w64}
use Rattle.std.specs.Prelude.{pos, ◌+ℤ◌, ◌-ℤ◌, IsPermutation}
use Rattle.std.specs.Int.Signed.{lt_z}
use Rattle.std.specs.List.Sorted.{IsSortedByKey}
use Rattle.std.proofs.lemmas.Int.{to_z-of_z}
use Rattle.std.proofs.lemmas.List.Elements.{All-head}
use Rattle.std.proofs.lemmas.List.Sorted.{length_permutation}
use Rattle.std.proofs.lemmas.Result.{IfOk-weaker}
use Rattle.exact_frac.specs.Frac.{order_of}
use Rattle.lattice.specs.Cuts.{plane_of, toward_of, IsBeyond}
use Rattle.lattice.specs.Points.{point_of}
use Rattle.geometry.specs.Cuts.{over_of}
use Rattle.geometry.specs.Parts.{IsNumbered}
use Rattle.geometry.specs.Counts.{to_left, to_right}
use Rattle.geometry.specs.Turns.{corner_at}
use Rattle.hiding_laws.specs.Sums.{total}
use Rattle.solid_mesh.specs.Solids.{solid_part, edge_halves}
use Rattle.solid_mesh.proofs.Facts.{sound, in_range, few_triangles, few_edges, edges_are, edge_there}
use Rattle.cross_find.specs.declared.meter.Crossing.{Crossing}
use Rattle.cut_plane.proofs.Xors.{xor}
use Rattle.span_count.specs.Carries.{AreCarried}
use Rattle.cut_plane.specs.Beyond.{IsStretch, IsPartBeyond}
use Rattle.cut_count.specs.declared.found.CrossingBorder.{CrossingBorder}
use Rattle.cut_count.specs.CutSpans.{AreCutCountSpans}
use Rattle.cut_count.specs.inner.Walks.{IsOddAhead, AreSectionCrossings, odd_turns, turn_left, turn_right}
use Rattle.cut_count.proofs.CutSpansRight.{end_beyond, cut_spans_right, no_cut_spans}
use Rattle.cut_count.proofs.FewCrossings.{few_below, few_segments, total_small, crossing_bytes, near_small, with_one, one_small, counted_small, counted_less, first_small, few_together}
use Rattle.cut_count.proofs.WalkLaws.{HasWalked}
use Rattle.cut_count.proofs.walk.edge_spans.Goals as goal

pub returns-in_default-clause-spans : goal.returns-in_default-clause-spans
returns-in_default-clause-spans g c e at =
    let s = solid_part c.args.solid.now in
    let q = plane_of c.args.section.now.cut in
    let (a, b) = c.new-seen.ensures.ends e at in
    subst (AreCutCountSpans q {s = s} e) (sym c.new.ensures.items) (no_cut_spans q e (c.in_default.ensures s e a b))

pub returns-in_default-clause-all_tested : goal.returns-in_default-clause-all_tested
returns-in_default-clause-all_tested g c =
    let (e, at) = edge_there c.args.solid.now c.args.edge c.requires.in_range in
    let (a, b) = c.new-seen.ensures.ends e at in
    (0, record { edge = e; numbered = at; tests = inl (c.in_default.ensures (solid_part c.args.solid.now) e a b, refl) }, omega arith)

pub borders_along-requires-clause-ends : goal.borders_along-requires-clause-ends
borders_along-requires-clause-ends g c e at = c.new-seen.ensures.ends e (subst (λ (i : ℕ). IsNumbered (edge_halves c.args.solid.now) i e) c.new-seen.ensures.number at)

pub borders_along-requires-clause-part : goal.borders_along-requires-clause-part
borders_along-requires-clause-part g c =
    let (e, at) = edge_there c.args.solid.now c.args.edge c.requires.in_range in
    let (a, b) = c.new-seen.ensures.ends e at in
    All-head IsStretch c.in-Some.part [] (c.in-Some.ensures (solid_part c.args.solid.now) e a b).stretches

pub cover_counts-requires-clause-beyond : goal.cover_counts-requires-clause-beyond
cover_counts-requires-clause-beyond g c e at =
    let s = solid_part c.args.solid.now in
    let q = plane_of c.args.section.now.cut in
    let (a, b) = c.new-seen.ensures.ends e at in
    let f : FitsSigned w64 c.over-at_b.result = search rules in
    end_beyond q e c.in-Some.part (c.in-Some.ensures s e a b) (lt_z (pos 0) (to_z w64 (of_z w64 c.over-at_b.result)))
    (ap (lt_z (pos 0)) (to_z-of_z w64 c.over-at_b.result f ∙ c.over-at_b.ensures.value ∙ ap (over_of q) (sym a)))

pub plus-near-requires-clause-small : goal.plus-near-requires-clause-small
plus-near-requires-clause-small g c =
    let s = solid_part c.args.solid.now in
    let q = plane_of c.args.section.now.cut in
    let (e, at) = edge_there c.args.solid.now c.args.edge c.requires.in_range in
    let few = few_triangles c.args.solid.now in
    let within = in_range c.args.solid.now in
    record {
      left = counted_small c.cover_counts.result.left (counted_less c.cover_counts.result.left (near_small to_left q within e _ c.cover_counts.result.left (c.cover_counts.ensures.left e at) few));
      right = counted_small c.cover_counts.result.right (counted_less c.cover_counts.result.right (near_small to_right q within e _ c.cover_counts.result.right (c.cover_counts.ensures.right e at) few));
    }

pub plus-near-requires-clause-more_small : goal.plus-near-requires-clause-more_small
plus-near-requires-clause-more_small g c = record { left = one_small c.ones.result.left _ c.ones.ensures.left; right = one_small c.ones.result.right _ c.ones.ensures.right }

pub change_over-requires : goal.change_over-requires
change_over-requires g c =
    let s = solid_part c.args.solid.now in
    let list = g.F.Finder.list_along c.args.finder.now c.args.edge in
    record {
      few = few_together (length c.deref-3.result.now) (length c.add_outlines.new.crossings.items) (length c.in_ok-crossings.crossings.items) (length list) (length c.in_ok-found.field-0.found.items) (length c.args.section.now.segments.items)
          (length s.triangles) (length (edge_halves c.args.solid.now))
          (ap length c.deref-3.ensures.value ∙ length_permutation c.add_outlines.new.crossings.items c.in_ok-crossings-2.crossings.items c.in_ok-crossings-2.ensures.same)
          (omega (arith, c.in_ok-add_outlines.ensures.most, c.add_outlines.new.crossings.ok.0, c.in_ok-crossings.crossings.ok.0))
          (c.in_ok-crossings.ensures.few ∙ ap length c.deref.ensures.value ∙ length_permutation c.in_ok-found.field-0.found.items c.in_ok-found-2.found.items c.in_ok-found-2.ensures.same)
          c.in_ok-found.ensures.few
          (few_segments (plane_of c.args.section.now.cut) s c.args.section.now.segments.items c.args.section.now.loops.items c.requires.borders)
          (few_triangles c.args.solid.now) (few_below list (length (edge_halves c.args.solid.now)) c.requires.listed.once c.requires.listed.within) (few_edges c.args.solid.now);
    }

pub first_counts_by-first-requires-clause-small : goal.first_counts_by-first-requires-clause-small
first_counts_by-first-requires-clause-small g c =
    let s = solid_part c.args.solid.now in
    let q = plane_of c.args.section.now.cut in
    let (e, at) = edge_there c.args.solid.now c.args.edge c.requires.in_range in
    let few = few_triangles c.args.solid.now in
    let within = in_range c.args.solid.now in
    record {
      left = counted_small c.plus-near.result.left (with_one c.cover_counts.result.left c.ones.result.left c.plus-near.result.left _ (near_small to_left q within e _ c.cover_counts.result.left (c.cover_counts.ensures.left e at) few) c.ones.ensures.left c.plus-near.ensures.left);
      right = counted_small c.plus-near.result.right (with_one c.cover_counts.result.right c.ones.result.right c.plus-near.result.right _ (near_small to_right q within e _ c.cover_counts.result.right (c.cover_counts.ensures.right e at) few) c.ones.ensures.right c.plus-near.ensures.right);
    }

pub carried-requires-clause-sorted : goal.carried-requires-clause-sorted
carried-requires-clause-sorted g c = subst (λ (xs : List Crossing). IsSortedByKey (λ (x : Crossing). x.at) order_of xs) (sym c.deref-4.ensures.value) c.in_ok-crossings-2.ensures.sorted

pub carried-requires-clause-few : goal.carried-requires-clause-few
carried-requires-clause-few g c =
    let s = solid_part c.args.solid.now in
    let list = g.F.Finder.list_along c.args.finder.now c.args.edge in
    few_together (length c.deref-4.result.now) (length c.add_outlines.new.crossings.items) (length c.in_ok-crossings.crossings.items) (length list) (length c.in_ok-found.field-0.found.items) (length c.args.section.now.segments.items)
    (length s.triangles) (length (edge_halves c.args.solid.now))
    (ap length c.deref-4.ensures.value ∙ length_permutation c.add_outlines.new.crossings.items c.in_ok-crossings-2.crossings.items c.in_ok-crossings-2.ensures.same)
    (omega (arith, c.in_ok-add_outlines.ensures.most, c.add_outlines.new.crossings.ok.0, c.in_ok-crossings.crossings.ok.0))
    (c.in_ok-crossings.ensures.few ∙ ap length c.deref.ensures.value ∙ length_permutation c.in_ok-found.field-0.found.items c.in_ok-found-2.found.items c.in_ok-found-2.ensures.same)
    c.in_ok-found.ensures.few
    (few_segments (plane_of c.args.section.now.cut) s c.args.section.now.segments.items c.args.section.now.loops.items c.requires.borders)
    (few_triangles c.args.solid.now) (few_below list (length (edge_halves c.args.solid.now)) c.requires.listed.once c.requires.listed.within) (few_edges c.args.solid.now)

pub carried-requires-clause-small : goal.carried-requires-clause-small
carried-requires-clause-small g c =
    let s = solid_part c.args.solid.now in
    let q = plane_of c.args.section.now.cut in
    let list = g.F.Finder.list_along c.args.finder.now c.args.edge in
    let (e, at) = edge_there c.args.solid.now c.args.edge c.requires.in_range in
    let few = few_triangles c.args.solid.now in
    let within = in_range c.args.solid.now in
    let at_b = lt_z (pos 0) (to_z w64 (of_z w64 c.over-at_b.result)) in
    let section = c.in_ok-crossings.crossings.items in
    let sorted = c.in_ok-crossings-2.crossings.items in
    let (outlines, is, by_outlines) = c.in_ok-add_outlines.ensures.added e at in
    let bytes = crossing_bytes q s (edge_halves c.args.solid.now) (edge_there c.args.solid.now) e c.first_odds.result.left c.first_odds.result.right c.deref.result.now section outlines sorted list c.requires.listed.within
    c.in_ok-crossings.ensures.crossings by_outlines (subst (λ (xs : List Crossing). IsPermutation xs sorted) is c.in_ok-crossings-2.ensures.same) in
    let few_all : length sorted < 2 ^ 32 = few_together (length sorted) (length c.add_outlines.new.crossings.items) (length section) (length list) (length c.in_ok-found.field-0.found.items) (length c.args.section.now.segments.items)
    (length s.triangles) (length (edge_halves c.args.solid.now))
    (length_permutation c.add_outlines.new.crossings.items sorted c.in_ok-crossings-2.ensures.same)
    (omega (arith, c.in_ok-add_outlines.ensures.most, c.add_outlines.new.crossings.ok.0, c.in_ok-crossings.crossings.ok.0))
    (c.in_ok-crossings.ensures.few ∙ ap length c.deref.ensures.value ∙ length_permutation c.in_ok-found.field-0.found.items c.in_ok-found-2.found.items c.in_ok-found-2.ensures.same)
    c.in_ok-found.ensures.few
    (few_segments q s c.args.section.now.segments.items c.args.section.now.loops.items c.requires.borders)
    (few_triangles c.args.solid.now) (few_below list (length (edge_halves c.args.solid.now)) c.requires.listed.once c.requires.listed.within) (few_edges c.args.solid.now) in
    record {
      left = first_small at_b c.plus-near.result.left (total (λ (x : Crossing). x.left) sorted) c.first_counts_by-first.result.left (length sorted)
          (c.first_counts_by-first.ensures.left ∙ ap (λ z. cond at_b (c.plus-near.result.left -ℤ z) c.plus-near.result.left) (c.change_over.ensures.left ∙ ap (total (λ (x : Crossing). x.left)) c.deref-3.ensures.value))
          (with_one c.cover_counts.result.left c.ones.result.left c.plus-near.result.left _ (near_small to_left q within e _ c.cover_counts.result.left (c.cover_counts.ensures.left e at) few) c.ones.ensures.left c.plus-near.ensures.left)
          (total_small (λ (x : Crossing). x.left) sorted (λ x there. (bytes x there).0)) few_all;
      right = first_small at_b c.plus-near.result.right (total (λ (x : Crossing). x.right) sorted) c.first_counts_by-first.result.right (length sorted)
          (c.first_counts_by-first.ensures.right ∙ ap (λ z. cond at_b (c.plus-near.result.right -ℤ z) c.plus-near.result.right) (c.change_over.ensures.right ∙ ap (total (λ (x : Crossing). x.right)) c.deref-3.ensures.value))
          (with_one c.cover_counts.result.right c.ones.result.right c.plus-near.result.right _ (near_small to_right q within e _ c.cover_counts.result.right (c.cover_counts.ensures.right e at) few) c.ones.ensures.right c.plus-near.ensures.right)
          (total_small (λ (x : Crossing). x.right) sorted (λ x there. (bytes x there).1)) few_all;
    }

pub carried-requires-clause-from : goal.carried-requires-clause-from
carried-requires-clause-from g c =
    let (e, at) = edge_there c.args.solid.now c.args.edge c.requires.in_range in
    let (a, b) = c.new-seen.ensures.ends e at in
    (All-head IsStretch c.in-Some.part [] (c.in-Some.ensures (solid_part c.args.solid.now) e a b).stretches).from_place

pub carried-requires-clause-to : goal.carried-requires-clause-to
carried-requires-clause-to g c =
    let (e, at) = edge_there c.args.solid.now c.args.edge c.requires.in_range in
    let (a, b) = c.new-seen.ensures.ends e at in
    (All-head IsStretch c.in-Some.part [] (c.in-Some.ensures (solid_part c.args.solid.now) e a b).stretches).to_place

pub carried-requires-clause-some : goal.carried-requires-clause-some
carried-requires-clause-some g c =
    let (e, at) = edge_there c.args.solid.now c.args.edge c.requires.in_range in
    let (a, b) = c.new-seen.ensures.ends e at in
    (All-head IsStretch c.in-Some.part [] (c.in-Some.ensures (solid_part c.args.solid.now) e a b).stretches).earlier

pub returns-clause-spans : goal.returns-clause-spans
returns-clause-spans g c e at =
    let solid = c.args.solid.now in
    let s = solid_part solid in
    let q = plane_of c.args.section.now.cut in
    let part = c.in-Some.part in
    let segments = c.args.section.now.segments.items in
    let list = g.F.Finder.list_along c.args.finder.now c.args.edge in
    let at_b = lt_z (pos 0) (to_z w64 (of_z w64 c.over-at_b.result)) in
    let odd = c.in_ok-found.field-0.odd in
    let found = c.in_ok-found-2.found.items in
    let section = c.in_ok-crossings.crossings.items in
    let sorted = c.in_ok-crossings-2.crossings.items in
    let first = c.first_counts_by-first.result in
    let (a, b) = c.new-seen.ensures.ends e at in
    let numbered = subst (λ (i : ℕ). IsNumbered (edge_halves solid) i e) (sym c.new-seen.ensures.number) at in
    let f : FitsSigned w64 c.over-at_b.result = search rules in
    let beyond : IsPartBeyond q e (part ∷ []) = c.in-Some.ensures s e a b in
    let there : IsBeyond q (point_of (corner_at e at_b)) = end_beyond q e part beyond at_b (ap (lt_z (pos 0)) (to_z-of_z w64 c.over-at_b.result f ∙ c.over-at_b.ensures.value ∙ ap (over_of q) (sym a))) in
    let (outlines, is, by_outlines) = c.in_ok-add_outlines.ensures.added e at in
    let before_left = c.first_odds.ensures.left ∙ ap (λ (xs : List CrossingBorder). cond at_b (xor odd.left (odd_turns turn_left xs)) odd.left) c.deref-2.ensures.value in
    let before_right = c.first_odds.ensures.right ∙ ap (λ (xs : List CrossingBorder). cond at_b (xor odd.right (odd_turns turn_right xs)) odd.right) c.deref-2.ensures.value in
    let has : HasWalked at_b q s (edge_halves solid) c.args.edge e part segments (cond at_b (xor odd.left (odd_turns turn_left found)) odd.left) (cond at_b (xor odd.right (odd_turns turn_right found)) odd.right) found section outlines = record {
      edges = edges_are solid;
      numbered = at;
      across = c.requires.seen e at;
      beyond = beyond;
      starts = c.args.section.now.loops.items;
      borders = c.requires.borders;
      listed = c.in_ok-found.field-0.found.items;
      are_found = c.in_ok-found.ensures.found e numbered;
      same = c.in_ok-found-2.ensures.same;
      sorted = c.in_ok-found-2.ensures.sorted;
      by_section = subst (λ t. t) (λ i. AreSectionCrossings (before_left i) (before_right i) (c.deref.ensures.value i) section) c.in_ok-crossings.ensures.crossings;
      numbers = list;
      are_listed = c.requires.listed;
      by_outlines = by_outlines;
    } in
    let near_left = c.plus-near.ensures.left ∙ ap (λ z. c.cover_counts.result.left +ℤ z) c.ones.ensures.left in
    let near_right = c.plus-near.ensures.right ∙ ap (λ z. c.cover_counts.result.right +ℤ z) c.ones.ensures.right in
    let all_left = c.change_over.ensures.left ∙ ap (total (λ (x : Crossing). x.left)) c.deref-3.ensures.value in
    let all_right = c.change_over.ensures.right ∙ ap (total (λ (x : Crossing). x.right)) c.deref-3.ensures.value in
    let first_left = c.first_counts_by-first.ensures.left ∙ (λ i. cond at_b (near_left i -ℤ all_left i) (near_left i)) in
    let first_right = c.first_counts_by-first.ensures.right ∙ (λ i. cond at_b (near_right i -ℤ all_right i) (near_right i)) in
    let odd_left = subst (λ t. t) (λ i. IsOddAhead to_left at_b (toward_of q) (sym a i) (sym b i) segments odd.left) c.in_ok-found.ensures.left in
    let odd_right = subst (λ t. t) (λ i. IsOddAhead to_right at_b (toward_of q) (sym a i) (sym b i) segments odd.right) c.in_ok-found.ensures.right in
    IfOk-weaker c.carried.result _ _
    (λ spans carried. cut_spans_right q s (sound solid) (in_range solid) (few_triangles solid) (edge_halves solid) (edge_there solid) c.args.edge e part segments at_b odd.left odd.right found section outlines sorted has
    (subst (λ (xs : List Crossing). IsPermutation xs sorted) is c.in_ok-crossings-2.ensures.same) there odd_left odd_right
    c.cover_counts.result.left c.cover_counts.result.right first.left first.right (c.cover_counts.ensures.left e at) (c.cover_counts.ensures.right e at) first_left first_right spans.items
    (subst (λ (xs : List Crossing). AreCarried part.from part.to xs first.left first.right spans.items) c.deref-4.ensures.value carried))
    c.carried.ensures

-- what holds is said of a success
on_success : {T E P : Type 0} (r : Result T E) → P → OnOk r P
on_success (Ok x) p = p
on_success (Err x) p = tt

-- the tests of the segments, of the outlines and of the triangles
all_tests : (old after_segments after_outlines new segments outlines triangles : ℕ) → after_segments ≡ old + segments → after_outlines ≡ after_segments + outlines → new ≡ after_outlines + triangles
    → new ≡ old + (triangles + outlines + segments)
all_tests old after_segments after_outlines new segments outlines triangles p q r = omega arith

pub returns-clause-all_tested : goal.returns-clause-all_tested
returns-clause-all_tested g c =
    let s = solid_part c.args.solid.now in
    let q = plane_of c.args.section.now.cut in
    let segments = length c.args.section.now.segments.items in
    let outlines = length (g.F.Finder.list_along c.args.finder.now c.args.edge) in
    let at_b = lt_z (pos 0) (to_z w64 (of_z w64 c.over-at_b.result)) in
    let (e, at) = edge_there c.args.solid.now c.args.edge c.requires.in_range in
    let (a, b) = c.new-seen.ensures.ends e at in
    let f : FitsSigned w64 c.over-at_b.result = search rules in
    let beyond : IsPartBeyond q e (c.in-Some.part ∷ []) = c.in-Some.ensures s e a b in
    let there : IsBeyond q (point_of (corner_at e at_b)) = end_beyond q e c.in-Some.part beyond at_b (ap (lt_z (pos 0)) (to_z-of_z w64 c.over-at_b.result f ∙ c.over-at_b.ensures.value ∙ ap (over_of q) (sym a))) in
    let (triangles, among, is) = c.cover_counts.ensures.near_tested e at in
    on_success c.carried.result (
      triangles + outlines + segments,
      record {
        edge = e;
        numbered = at;
        tests = inr (record {
          part = c.in-Some.part;
          beyond = beyond;
          at_b = at_b;
          starts = there;
          triangles = triangles;
          near_among = among;
          number = refl;
        });
      },
      all_tests c.args.meter.now.tests c.borders_along.new.meter.tests c.add_outlines.new.meter.tests c.cover_counts.new.meter.tests segments outlines triangles c.in_ok-found.ensures.all_tested c.in_ok-add_outlines.ensures.all_tested is,
    )
