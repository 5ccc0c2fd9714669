use Rattle.std.proofs.Common.{◌≡◌, ℕ, ◌+◌, ◌<◌, ◌^◌, sym, subst, rules, arith}
use Rattle.std.specs.Prelude.{pos, length}
use Rattle.lattice.specs.Cuts.{plane_of}
use Rattle.solid_mesh.specs.Solids.{solid_part, edge_halves}
use Rattle.span_count.specs.Tests.{AreNearAmong}
use Rattle.cut_count.proofs.CoverSums.{AreCoversSoFar, covers_none, covers_more, covers_past, covers_left, covers_right, total_passed}
use Rattle.cut_count.proofs.CutNear.{not_covered}
use Rattle.cut_count.proofs.NearTested.{near_counted_none, near_counted_more, near_counted_past, near_counted_all}
use Rattle.cut_count.proofs.start.cover_counts.Goals as goal

pub loop-tri-init : goal.loop-tri-init
loop-tri-init g c =
    let plane = plane_of c.args.section.now.cut in
    let part = solid_part c.args.solid.now in
    let halves = edge_halves c.args.solid.now in
    let before = c.args.meter.now.tests in
    let near = g.F.Finder.is_near c.args.finder.now c.corner_of-corner.result in
    let tri = c.next_triangle-tri.result in
    record {
      within = c.next_triangle-tri.ensures.most;
      few = omega arith;
      sums = covers_past plane part halves c.args.end.edge c.args.end.at_b 0 tri before before (pos 0) (pos 0) (covers_none plane part halves c.args.end.edge c.args.end.at_b before) c.next_triangle-tri.ensures.from
          (not_covered plane part halves c.args.end.edge c.args.end.at_b c.corner_of-corner.result (g.F.Finder.is_near c.args.finder.now) c.requires.near c.corner_of-corner.ensures 0 tri c.next_triangle-tri.ensures.passed_over);
      tested = near_counted_past near 0 tri before before (near_counted_none near before) c.next_triangle-tri.ensures.from c.next_triangle-tri.ensures.passed_over;
    }

pub cut_cover-on_left-requires-clause-room : goal.cut_cover-on_left-requires-clause-room
cut_cover-on_left-requires-clause-room g c = omega (arith, c.requires.room, c.loop-tri.invariant.sums.tested.1, c.loop-tri-test.true, c.triangles-triangles.ensures.count)

pub overflow_add-told : goal.overflow_add-told
overflow_add-told g c = omega (arith, c.loop-tri.invariant.few, c.loop-tri-test.true)

pub loop-tri-preserved : goal.loop-tri-preserved
loop-tri-preserved g c =
    let plane = plane_of c.args.section.now.cut in
    let part = solid_part c.args.solid.now in
    let halves = edge_halves c.args.solid.now in
    let edge = c.args.end.edge in
    let at_b = c.args.end.at_b in
    let n = c.loop-tri.tri in
    let h = c.loop-tri.invariant.sums in
    let before = c.args.meter.now.tests in
    let near = g.F.Finder.is_near c.args.finder.now c.corner_of-corner.result in
    let new = c.cut_cover-on_left.new.meter.tests in
    let x = c.cut_cover-on_left.result.0 in
    let y = c.cut_cover-on_left.result.1 in
    let next = c.next_triangle-tri-in-loop-tri.result in
    let x_small : x < 256 = search rules in
    let y_small : y < 256 = search rules in
    let few : n < 2 ^ 32 = omega (arith, c.loop-tri-test.true, c.triangles-triangles.type_inv) in
    let left = total_passed n x _ _ few h.left_least h.left_most x_small c.from-left.ensures in
    let right = total_passed n y _ _ few h.right_least h.right_most y_small c.from-right.ensures in
    let more = covers_more plane part halves edge at_b n before _ _ _ h new c.cut_cover-on_left.ensures.counted x y x_small y_small c.cut_cover-on_left.ensures.left c.cut_cover-on_left.ensures.right in
    let past = covers_past plane part halves edge at_b (n + 1) next before new _ _ more c.next_triangle-tri-in-loop-tri.ensures.from
    (not_covered plane part halves edge at_b c.corner_of-corner.result (g.F.Finder.is_near c.args.finder.now) c.requires.near c.corner_of-corner.ensures (n + 1) next c.next_triangle-tri-in-loop-tri.ensures.passed_over) in
    record {
      within = c.next_triangle-tri-in-loop-tri.ensures.most;
      few = omega (arith, c.loop-tri.invariant.few, c.next_triangle-tri-in-loop-tri.ensures.from);
      sums = subst (λ (T : Type 0). T) (λ i. AreCoversSoFar plane part halves edge at_b next before new (sym left i) (sym right i)) past;
      tested = near_counted_past near (n + 1) next before new (near_counted_more near n before c.loop-tri.meter.tests new c.loop-tri.invariant.tested c.cut_cover-on_left.ensures.counted) c.next_triangle-tri-in-loop-tri.ensures.from
          c.next_triangle-tri-in-loop-tri.ensures.passed_over;
    }

pub returns-clause-left : goal.returns-clause-left
returns-clause-left g c =
    let all : c.loop-tri.tri ≡ length (solid_part c.args.solid.now).triangles = omega (arith, c.loop-tri-test.false, c.loop-tri.invariant.within, c.triangles-triangles.ensures.count) in
    covers_left (plane_of c.args.section.now.cut) (solid_part c.args.solid.now) (edge_halves c.args.solid.now) c.args.end.edge c.args.end.at_b _ _ _ _ _ c.loop-tri.invariant.sums all

pub returns-clause-right : goal.returns-clause-right
returns-clause-right g c =
    let all : c.loop-tri.tri ≡ length (solid_part c.args.solid.now).triangles = omega (arith, c.loop-tri-test.false, c.loop-tri.invariant.within, c.triangles-triangles.ensures.count) in
    covers_right (plane_of c.args.section.now.cut) (solid_part c.args.solid.now) (edge_halves c.args.solid.now) c.args.end.edge c.args.end.at_b _ _ _ _ _ c.loop-tri.invariant.sums all

pub returns-clause-least : goal.returns-clause-least
returns-clause-least g c = c.loop-tri.invariant.sums.tested.0

pub returns-clause-most : goal.returns-clause-most
returns-clause-most g c = omega (arith, c.loop-tri.invariant.sums.tested.1, c.loop-tri.invariant.within, c.triangles-triangles.ensures.count)

pub returns-clause-near_tested : goal.returns-clause-near_tested
returns-clause-near_tested g c e at =
    let all : c.loop-tri.tri ≡ length (solid_part c.args.solid.now).triangles = omega (arith, c.loop-tri-test.false, c.loop-tri.invariant.within, c.triangles-triangles.ensures.count) in
    subst (λ (n : ℕ). (k : ℕ) × AreNearAmong (g.F.Finder.is_near c.args.finder.now n) (length (solid_part c.args.solid.now).triangles) k × (c.loop-tri.meter.tests ≡ c.args.meter.now.tests + k)) (c.corner_of-corner.ensures e at)
    (near_counted_all (g.F.Finder.is_near c.args.finder.now c.corner_of-corner.result) c.loop-tri.tri c.args.meter.now.tests c.loop-tri.meter.tests (length (solid_part c.args.solid.now).triangles) c.loop-tri.invariant.tested all)
