use Rattle.std.proofs.Common.{◌≡◌, ◌+◌, ◌<◌, ◌≤◌, ℕ, List, length, slice_index_or, sym, subst, ap, ◌∙◌, arith, rules}
use Rattle.std.proofs.lemmas.Option.{slice_get-get_or}
use Rattle.solid_mesh.specs.Solids.{AreTrianglesAt}
use Rattle.span_count.specs.Tests.{with_tests}
use Rattle.span_count.proofs.Stars.{edge_at, corner_within, star_within, star_few, corner_count_one}
use Rattle.span_count.proofs.Walks.{still_seen, still_room}
use Rattle.span_count.proofs.Own.{AreOwnSoFar, own_none, star_still, own_more, own_all, few_own, own_small}
use Rattle.span_count.proofs.corner.own_counts.Goals as goal

pub star-triangles-requires : goal.star-triangles-requires
star-triangles-requires g c =
    let x = g.S.Sight.sight c.args.sight.now in
    let (e, at) = edge_at x c.requires.seen c.args.end.edge c.requires.edge.in_range in
    subst (λ (n : ℕ). n < length x.part.corners) (sym (c.corner_of-corner.ensures.number e at)) (corner_within x e c.args.end.at_b)

pub loop-i-init : goal.loop-i-init
loop-i-init g c = own_none (g.S.Sight.sight c.args.sight.now) c.args.end.edge c.args.end.at_b c.corner_of-corner.result

pub star-requires : goal.star-requires
star-requires g c =
    let x = g.S.Sight.sight c.args.sight.now in
    let (e, at) = edge_at x c.requires.seen c.args.end.edge c.requires.edge.in_range in
    subst (λ y. c.corner_of-corner.result < length y.part.corners) (sym c.loop-i.invariant.tested)
    (subst (λ (n : ℕ). n < length x.part.corners) (sym (c.corner_of-corner.ensures.number e at)) (corner_within x e c.args.end.at_b))

pub bounds-star-i : goal.bounds-star-i
bounds-star-i g c =
    let same = star_still (g.S.Sight.sight c.args.sight.now) c.args.end.edge c.args.end.at_b c.corner_of-corner.result c.loop-i.i (g.S.Sight.sight c.loop-i.sight) c.loop-i.left c.loop-i.right c.loop-i.invariant
    c.star-triangles.result.now c.star.result.now c.star-triangles.ensures c.star.ensures in
    subst (λ (xs : List ℕ). c.loop-i.i < length xs) (sym same) c.loop-i-test.true

pub cover-on_left-requires-clause-edge_in_range : goal.cover-on_left-requires-clause-edge_in_range
cover-on_left-requires-clause-edge_in_range g c = subst (λ y. c.args.end.edge < length y.halves) (sym c.loop-i.invariant.tested) c.requires.edge.in_range

pub cover-on_left-requires-clause-tri_in_range : goal.cover-on_left-requires-clause-tri_in_range
cover-on_left-requires-clause-tri_in_range g c =
    let same = star_still (g.S.Sight.sight c.args.sight.now) c.args.end.edge c.args.end.at_b c.corner_of-corner.result c.loop-i.i (g.S.Sight.sight c.loop-i.sight) c.loop-i.left c.loop-i.right c.loop-i.invariant
    c.star-triangles.result.now c.star.result.now c.star-triangles.ensures c.star.ensures in
    star_within (g.S.Sight.sight c.loop-i.sight).part c.corner_of-corner.result c.star.result.now c.star.ensures c.loop-i.i 0 (subst (λ (xs : List ℕ). c.loop-i.i < length xs) (sym same) c.loop-i-test.true)

pub cover-on_left-requires-clause-seen : goal.cover-on_left-requires-clause-seen
cover-on_left-requires-clause-seen g c = still_seen (g.S.Sight.sight c.args.sight.now) _ c.loop-i.i c.loop-i.invariant.tested c.args.end.edge c.requires.edge.seen

pub cover-on_left-requires-clause-room : goal.cover-on_left-requires-clause-room
cover-on_left-requires-clause-room g c =
    let x = g.S.Sight.sight c.args.sight.now in
    let (e, at) = edge_at x c.requires.seen c.args.end.edge c.requires.edge.in_range in
    let star = c.star-triangles.result.now in
    still_room x _ c.loop-i.i c.loop-i.invariant.tested (length star) c.loop-i-test.true
    (c.requires.room (length star) (record {
      of = e;
      numbered = at;
      star = star;
      at_corner = subst (λ (n : ℕ). AreTrianglesAt x.part n star) (c.corner_of-corner.ensures.number e at) c.star-triangles.ensures;
      all = search rules;
    }))

pub overflow_add-left : goal.overflow_add-left
overflow_add-left g c =
    let x = g.S.Sight.sight c.args.sight.now in
    let short = star_few x.part c.corner_of-corner.result c.star-triangles.result.now c.star-triangles.ensures in
    let few : c.loop-i.left ≤ 5100000 = few_own c.loop-i.left c.loop-i.i (length x.part.triangles) c.loop-i.invariant.left_small (omega (arith, c.loop-i-test.true, short)) c.requires.seen.few_triangles in
    let small : c.cover-on_left.result.0 < 256 = search rules in
    omega (arith, c.from-left.ensures)

pub overflow_add-right : goal.overflow_add-right
overflow_add-right g c =
    let x = g.S.Sight.sight c.args.sight.now in
    let short = star_few x.part c.corner_of-corner.result c.star-triangles.result.now c.star-triangles.ensures in
    let few : c.loop-i.right ≤ 5100000 = few_own c.loop-i.right c.loop-i.i (length x.part.triangles) c.loop-i.invariant.right_small (omega (arith, c.loop-i-test.true, short)) c.requires.seen.few_triangles in
    let small : c.cover-on_left.result.1 < 256 = search rules in
    omega (arith, c.from-right.ensures)

pub loop-i-preserved : goal.loop-i-preserved
loop-i-preserved g c =
    let x = g.S.Sight.sight c.args.sight.now in
    let i = c.loop-i.i in
    let l = c.cover-on_left.result.0 in
    let r = c.cover-on_left.result.1 in
    let l_small : l < 256 = search rules in
    let r_small : r < 256 = search rules in
    let same = star_still x c.args.end.edge c.args.end.at_b c.corner_of-corner.result i (g.S.Sight.sight c.loop-i.sight) c.loop-i.left c.loop-i.right c.loop-i.invariant
    c.star-triangles.result.now c.star.result.now c.star-triangles.ensures c.star.ensures in
    let within : i < length c.star.result.now = subst (λ (xs : List ℕ). i < length xs) (sym same) c.loop-i-test.true in
    subst (λ (n : ℕ). AreOwnSoFar x c.args.end.edge c.args.end.at_b c.corner_of-corner.result (i + 1) (g.S.Sight.sight c.cover-on_left.new.self) (c.loop-i.left + n) (c.loop-i.right + c.from-right.result)) (sym c.from-left.ensures)
    (subst (λ (n : ℕ). AreOwnSoFar x c.args.end.edge c.args.end.at_b c.corner_of-corner.result (i + 1) (g.S.Sight.sight c.cover-on_left.new.self) (c.loop-i.left + l) (c.loop-i.right + n)) (sym c.from-right.ensures)
    (own_more x c.args.end.edge c.args.end.at_b c.corner_of-corner.result i (g.S.Sight.sight c.loop-i.sight) c.loop-i.left c.loop-i.right c.loop-i.invariant
    c.star.result.now c.star.ensures (slice_index_or c.star.result.now i 0) (slice_get-get_or c.star.result.now i 0 within) (g.S.Sight.sight c.cover-on_left.new.self) c.cover-on_left.ensures.counted l r l_small r_small
    c.cover-on_left.ensures.left c.cover-on_left.ensures.right))

pub counts-requires-clause-left_small : goal.counts-requires-clause-left_small
counts-requires-clause-left_small g c =
    let x = g.S.Sight.sight c.args.sight.now in
    let short = star_few x.part c.corner_of-corner.result c.star-triangles.result.now c.star-triangles.ensures in
    let few : c.loop-i.left ≤ 5100000 = few_own c.loop-i.left c.loop-i.i (length x.part.triangles) c.loop-i.invariant.left_small (omega (arith, c.loop-i.auto.i-end, short)) c.requires.seen.few_triangles in
    omega (arith, few)

pub counts-requires-clause-right_small : goal.counts-requires-clause-right_small
counts-requires-clause-right_small g c =
    let x = g.S.Sight.sight c.args.sight.now in
    let short = star_few x.part c.corner_of-corner.result c.star-triangles.result.now c.star-triangles.ensures in
    let few : c.loop-i.right ≤ 5100000 = few_own c.loop-i.right c.loop-i.i (length x.part.triangles) c.loop-i.invariant.right_small (omega (arith, c.loop-i.auto.i-end, short)) c.requires.seen.few_triangles in
    omega (arith, few)

pub returns-clause-own : goal.returns-clause-own
returns-clause-own g c =
    own_all (g.S.Sight.sight c.args.sight.now) c.args.end.edge c.args.end.at_b c.corner_of-corner.result c.loop-i.i (g.S.Sight.sight c.loop-i.sight) c.loop-i.left c.loop-i.right c.loop-i.invariant
    c.star-triangles.result.now c.star-triangles.ensures c.loop-i-test.false c.corner_of-corner.ensures.number c.counts.result c.counts.ensures.left c.counts.ensures.right

pub returns-clause-small : goal.returns-clause-small
returns-clause-small g c =
    let x = g.S.Sight.sight c.args.sight.now in
    let short = star_few x.part c.corner_of-corner.result c.star-triangles.result.now c.star-triangles.ensures in
    let i_few : c.loop-i.i ≤ length x.part.triangles = omega (arith, c.loop-i.auto.i-end, short) in
    record {
      left = own_small c.counts.result.left c.loop-i.left c.counts.ensures.left (few_own c.loop-i.left c.loop-i.i (length x.part.triangles) c.loop-i.invariant.left_small i_few c.requires.seen.few_triangles);
      right = own_small c.counts.result.right c.loop-i.right c.counts.ensures.right (few_own c.loop-i.right c.loop-i.i (length x.part.triangles) c.loop-i.invariant.right_small i_few c.requires.seen.few_triangles);
    }

pub returns-clause-tested : goal.returns-clause-tested
returns-clause-tested g c n h =
    let x = g.S.Sight.sight c.args.sight.now in
    let (e, at) = edge_at x c.requires.seen c.args.end.edge c.requires.edge.in_range in
    let star = c.star-triangles.result.now in
    let there = subst (λ (n : ℕ). AreTrianglesAt x.part n star) (c.corner_of-corner.ensures.number e at) c.star-triangles.ensures in
    let all : length star ≡ n = sym (corner_count_one x c.args.end.edge c.args.end.at_b n e at star there h) in
    let same : c.loop-i.i ≡ n = omega (arith, c.loop-i.auto.i-end, c.loop-i-test.false) in
    c.loop-i.invariant.tested ∙ ap (λ (k : ℕ). with_tests k x) same
