use Rattle.std.proofs.Common.{◌≡◌, ℕ, ◌+◌, ◌<◌, ◌≤◌, false, length, refl, sym, subst, rules, arith}
use Rattle.geometry.specs.Parts.{Face, Edge, IsNumbered}
use Rattle.geometry.specs.Counts.{Side}
use Rattle.geometry.specs.Covers.{IsCountedNext}
use Rattle.geometry.specs.Turns.{number_at}
use Rattle.cross_find.specs.Sights.{SightState}
use Rattle.span_count.specs.Finders.{AreAllNear}
use Rattle.span_count.proofs.NearTested.{near_among, so_far_none, so_far_past, so_far_more}
use Rattle.span_count.proofs.NearTriangles.{not_counted}
use Rattle.span_count.proofs.Walks.{AreFirstSoFar, first_none, first_more, first_past, first_all, still_edge, still_tri, still_seen, still_room}
use Rattle.span_count.proofs.edge_tests.first_counts.Goals as goal

-- the triangles that are passed over are not counted
passed : (x : SightState) (edge corner : ℕ) (near : ℕ → ℕ → Type 0) → AreAllNear x.direction x.part near → ((e : Edge x.part) → IsNumbered x.halves edge e → corner ≡ number_at e false)
    → (from to : ℕ) → ((i : ℕ) → from ≤ i → i < to → ¬ near corner i) → (i : ℕ) → from ≤ i → i < to
    → (k : Side) (e : Edge x.part) (f : Face x.part) → IsNumbered x.halves edge e → f.number ≡ i → ¬ IsCountedNext k x.direction e false f
passed x edge corner near all at from to none i l m k e f here is = not_counted x near all corner i (none i l m) k e false (at e here) f is

pub loop-tri-init : goal.loop-tri-init
loop-tri-init g c =
    let x = g.S.Sight.sight c.args.sight.now in
    let tri = c.next_triangle-tri.result in
    record {
      within = c.next_triangle-tri.ensures.most;
      few = omega arith;
      sums = first_past x c.args.edge 0 tri x 0 0 (first_none x c.args.edge) c.next_triangle-tri.ensures.from
          (passed x c.args.edge c.args.corner (g.F.Finder.is_near c.args.finder.now) c.requires.near c.requires.corner 0 tri c.next_triangle-tri.ensures.passed_over);
      near = so_far_past (g.F.Finder.is_near c.args.finder.now c.args.corner) x 0 tri x (so_far_none (g.F.Finder.is_near c.args.finder.now c.args.corner) x) c.next_triangle-tri.ensures.from c.next_triangle-tri.ensures.passed_over;
    }

pub cover-on_left-requires-clause-edge_in_range : goal.cover-on_left-requires-clause-edge_in_range
cover-on_left-requires-clause-edge_in_range g c =
    let (made, few, e) = c.loop-tri.invariant.sums.tested in
    still_edge (g.S.Sight.sight c.args.sight.now) _ made e c.args.edge c.requires.edge.in_range

pub cover-on_left-requires-clause-tri_in_range : goal.cover-on_left-requires-clause-tri_in_range
cover-on_left-requires-clause-tri_in_range g c =
    let (made, few, e) = c.loop-tri.invariant.sums.tested in
    still_tri (g.S.Sight.sight c.args.sight.now) _ made e c.loop-tri.tri (omega (arith, c.requires.triangles, c.loop-tri-test.true))

pub cover-on_left-requires-clause-seen : goal.cover-on_left-requires-clause-seen
cover-on_left-requires-clause-seen g c =
    let (made, few, e) = c.loop-tri.invariant.sums.tested in
    still_seen (g.S.Sight.sight c.args.sight.now) _ made e c.args.edge c.requires.edge.seen

pub cover-on_left-requires-clause-room : goal.cover-on_left-requires-clause-room
cover-on_left-requires-clause-room g c =
    let (made, few, e) = c.loop-tri.invariant.sums.tested in
    let less : made < c.args.triangles = omega (arith, c.loop-tri-test.true) in
    still_room (g.S.Sight.sight c.args.sight.now) _ made e c.args.triangles less c.requires.room

pub overflow_add-told : goal.overflow_add-told
overflow_add-told g c = omega (arith, c.loop-tri.invariant.few, c.loop-tri-test.true)

pub loop-tri-preserved : goal.loop-tri-preserved
loop-tri-preserved g c =
    let x = g.S.Sight.sight c.args.sight.now in
    let k = c.loop-tri.tri in
    let now = g.S.Sight.sight c.loop-tri.sight in
    let new = g.S.Sight.sight c.cover-on_left.new.self in
    let l = c.cover-on_left.result.0 in
    let r = c.cover-on_left.result.1 in
    let next = c.next_triangle-tri-in-loop-tri.result in
    let l_small : l < 256 = search rules in
    let r_small : r < 256 = search rules in
    let more = first_more x c.args.edge k now c.loop-tri.left c.loop-tri.right c.loop-tri.invariant.sums new c.cover-on_left.ensures.counted l r l_small r_small
    c.cover-on_left.ensures.left c.cover-on_left.ensures.right in
    let past = first_past x c.args.edge (k + 1) next new (c.loop-tri.left + l) (c.loop-tri.right + r) more c.next_triangle-tri-in-loop-tri.ensures.from
    (passed x c.args.edge c.args.corner (g.F.Finder.is_near c.args.finder.now) c.requires.near c.requires.corner (k + 1) next c.next_triangle-tri-in-loop-tri.ensures.passed_over) in
    record {
      within = c.next_triangle-tri-in-loop-tri.ensures.most;
      few = omega (arith, c.loop-tri.invariant.few, c.next_triangle-tri-in-loop-tri.ensures.from);
      sums = subst (λ (n : ℕ). AreFirstSoFar x c.args.edge next new (c.loop-tri.left + n) (c.loop-tri.right + c.from-right.result)) (sym c.from-left.ensures)
          (subst (λ (n : ℕ). AreFirstSoFar x c.args.edge next new (c.loop-tri.left + l) (c.loop-tri.right + n)) (sym c.from-right.ensures) past);
      near = so_far_past (g.F.Finder.is_near c.args.finder.now c.args.corner) x (k + 1) next new
          (so_far_more (g.F.Finder.is_near c.args.finder.now c.args.corner) x k now new c.loop-tri.invariant.near c.cover-on_left.ensures.counted) c.next_triangle-tri-in-loop-tri.ensures.from c.next_triangle-tri-in-loop-tri.ensures.passed_over;
    }

pub returns-clause-counts : goal.returns-clause-counts
returns-clause-counts g c =
    first_all (g.S.Sight.sight c.args.sight.now) c.args.edge c.loop-tri.tri (g.S.Sight.sight c.loop-tri.sight) c.loop-tri.left c.loop-tri.right c.loop-tri.invariant.sums
    (let e = c.requires.triangles in omega (arith, c.loop-tri-test.false, c.loop-tri.invariant.within)) c.counts.result c.counts.ensures.left c.counts.ensures.right

pub returns-clause-near_tested : goal.returns-clause-near_tested
returns-clause-near_tested g c =
    let known = c.loop-tri.invariant.near in (
      length known.tested,
      near_among (g.F.Finder.is_near c.args.finder.now c.args.corner) c.loop-tri.tri c.args.triangles (length known.tested) known.tested known.are (omega (arith, c.loop-tri-test.false, c.loop-tri.invariant.within)) refl,
      known.made,
    )
