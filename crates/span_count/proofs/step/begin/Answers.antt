use Rattle.std.proofs.Common.{ℕ, ◌+◌, ◌<◌, ◌≤◌, ◌^◌, false, [], subst, arith}
use Rattle.span_count.specs.Tests.{AreNearAmong}
use Rattle.span_count.proofs.Walks.{edge_after}
use Rattle.span_count.proofs.Stars.{corner_count}
use Rattle.span_count.proofs.Moved.{seen_after, room_after, corner_before, own_before, near_last, near_most}
use Rattle.span_count.proofs.Around.{counts_small, rests_of}
use Rattle.span_count.proofs.step.begin.Goals as goal

pub first_counts-counts-requires-clause-room : goal.first_counts-counts-requires-clause-room
first_counts-counts-requires-clause-room g c =
    let x = g.S.Sight.sight c.args.sight.now in
    let (n, h) = corner_count x c.args.edge c.requires.seen c.requires.edge.in_range false in
    fits x.tests c.args.triangles n (c.requires.room n h)
  where
    fits : (t b n : ℕ) → t + (b + n) < 2 ^ 64 → t + b < 2 ^ 64
    fits t b n h = omega arith

pub own_counts-own-requires-clause-seen : goal.own_counts-own-requires-clause-seen
own_counts-own-requires-clause-seen g c =
    let (made, few, e) = c.first_counts-counts.ensures.tested in
    seen_after (g.S.Sight.sight c.args.sight.now) (g.S.Sight.sight c.first_counts-counts.new.sight) made e c.requires.seen

pub own_counts-own-requires-clause-edge : goal.own_counts-own-requires-clause-edge
own_counts-own-requires-clause-edge g c =
    let (made, few, e) = c.first_counts-counts.ensures.tested in
    edge_after (g.S.Sight.sight c.args.sight.now) (g.S.Sight.sight c.first_counts-counts.new.sight) made e c.args.edge [] c.requires.edge

pub own_counts-own-requires-clause-room : goal.own_counts-own-requires-clause-room
own_counts-own-requires-clause-room g c n h =
    let x = g.S.Sight.sight c.args.sight.now in
    let mid = g.S.Sight.sight c.first_counts-counts.new.sight in
    let (made, few, e) = c.first_counts-counts.ensures.tested in
    room_after x mid made e n (fits x.tests made c.args.triangles n few (c.requires.room n (corner_before x mid made e c.args.edge false n h)))
  where
    fits : (t k b n : ℕ) → k ≤ b → t + (b + n) < 2 ^ 64 → t + (k + n) < 2 ^ 64
    fits t k b n few h = omega arith

pub minus-requires-clause-small : goal.minus-requires-clause-small
minus-requires-clause-small g c =
    counts_small (g.S.Sight.sight c.args.sight.now) c.requires.seen c.args.edge c.requires.edge.in_range false c.first_counts-counts.result c.first_counts-counts.ensures.counts

pub returns-clause-rest : goal.returns-clause-rest
returns-clause-rest g c =
    let x = g.S.Sight.sight c.args.sight.now in
    let mid = g.S.Sight.sight c.first_counts-counts.new.sight in
    let (made, few, e) = c.first_counts-counts.ensures.tested in
    rests_of x c.args.edge false c.first_counts-counts.result c.own_counts-own.result c.minus.result c.first_counts-counts.ensures.counts
    (own_before x mid made e c.args.edge false c.own_counts-own.result c.own_counts-own.ensures.own) c.minus.ensures.left c.minus.ensures.right

pub returns-clause-tested : goal.returns-clause-tested
returns-clause-tested g c =
    near_most (g.S.Sight.sight c.args.sight.now) c.args.edge false c.args.triangles (g.S.Sight.sight c.first_counts-counts.new.sight) (g.S.Sight.sight c.own_counts-own.new.sight)
    c.first_counts-counts.ensures.tested c.own_counts-own.ensures.tested

pub returns-clause-near_tested : goal.returns-clause-near_tested
returns-clause-near_tested g c e m at h =
    let x = g.S.Sight.sight c.args.sight.now in
    let mid = g.S.Sight.sight c.first_counts-counts.new.sight in
    let (n, near, made) = c.first_counts-counts.ensures.near_tested in (
      n,
      subst (λ (corner : ℕ). AreNearAmong (g.F.Finder.is_near c.args.finder.now corner) c.args.triangles n) (c.corner_of-corner.ensures.number e at) near,
      near_last x c.args.edge false n mid (g.S.Sight.sight c.own_counts-own.new.sight) made c.own_counts-own.ensures.tested m h,
    )
