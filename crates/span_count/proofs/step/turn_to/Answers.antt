use Rattle.std.proofs.Common.{ℕ, ◌+◌, ◌<◌, ◌^◌, [], length, arith}
use Rattle.span_count.proofs.Walks.{edge_after}
use Rattle.span_count.proofs.Stars.{corner_count}
use Rattle.span_count.proofs.Moved.{seen_after, room_after, corner_before, own_before, near_last}
use Rattle.span_count.proofs.Around.{rests_small, rests_turned, counts_turned}
use Rattle.span_count.proofs.step.turn_to.Goals as goal

pub turned-turn-requires-clause-room : goal.turned-turn-requires-clause-room
turned-turn-requires-clause-room g c =
    let x = g.S.Sight.sight c.args.sight.now in
    let (n, h) = corner_count x c.args.to.edge c.requires.seen c.requires.to.in_range c.args.to.at_b in
    fits x.tests (length (g.F.Finder.list_over c.args.finder.now c.args.corner)) n (c.requires.room n h)
  where
    fits : (t b n : ℕ) → t + (b + n) < 2 ^ 64 → t + b < 2 ^ 64
    fits t b n h = omega arith

pub own_counts-own-requires-clause-seen : goal.own_counts-own-requires-clause-seen
own_counts-own-requires-clause-seen g c =
    seen_after (g.S.Sight.sight c.args.sight.now) (g.S.Sight.sight c.turned-turn.new.sight) (length (g.F.Finder.list_over c.args.finder.now c.args.corner)) c.turned-turn.ensures.tested c.requires.seen

pub own_counts-own-requires-clause-edge : goal.own_counts-own-requires-clause-edge
own_counts-own-requires-clause-edge g c =
    edge_after (g.S.Sight.sight c.args.sight.now) (g.S.Sight.sight c.turned-turn.new.sight) (length (g.F.Finder.list_over c.args.finder.now c.args.corner)) c.turned-turn.ensures.tested c.args.to.edge [] c.requires.to

pub own_counts-own-requires-clause-room : goal.own_counts-own-requires-clause-room
own_counts-own-requires-clause-room g c n h =
    let x = g.S.Sight.sight c.args.sight.now in
    let mid = g.S.Sight.sight c.turned-turn.new.sight in
    let over = length (g.F.Finder.list_over c.args.finder.now c.args.corner) in
    room_after x mid over c.turned-turn.ensures.tested n (c.requires.room n (corner_before x mid over c.turned-turn.ensures.tested c.args.to.edge c.args.to.at_b n h))

pub plus-rest-requires-clause-small : goal.plus-rest-requires-clause-small
plus-rest-requires-clause-small g c = rests_small (g.S.Sight.sight c.args.sight.now) c.requires.seen c.args.from.edge c.requires.from.in_range c.args.from.at_b c.args.rest c.requires.rests

pub plus-requires-clause-small : goal.plus-requires-clause-small
plus-requires-clause-small g c =
    let x = g.S.Sight.sight c.args.sight.now in
    let outlines = g.F.Finder.list_over c.args.finder.now c.args.corner in
    rests_small x c.requires.seen c.args.to.edge c.requires.to.in_range c.args.to.at_b c.plus-rest.result
    (rests_turned x c.requires.seen c.args.from c.args.to c.requires.from c.requires.to c.requires.one_corner c.args.corner c.requires.corner outlines c.requires.listed
    c.args.rest c.turned-turn.result c.own_counts-own.result c.plus-rest.result c.requires.rests c.turned-turn.ensures.turns
    (own_before x (g.S.Sight.sight c.turned-turn.new.sight) (length outlines) c.turned-turn.ensures.tested c.args.to.edge c.args.to.at_b c.own_counts-own.result c.own_counts-own.ensures.own)
    c.plus-rest.ensures.left c.plus-rest.ensures.right)

pub returns-clause-rest : goal.returns-clause-rest
returns-clause-rest g c =
    let x = g.S.Sight.sight c.args.sight.now in
    let outlines = g.F.Finder.list_over c.args.finder.now c.args.corner in
    rests_turned x c.requires.seen c.args.from c.args.to c.requires.from c.requires.to c.requires.one_corner c.args.corner c.requires.corner outlines c.requires.listed
    c.args.rest c.turned-turn.result c.own_counts-own.result c.plus-rest.result c.requires.rests c.turned-turn.ensures.turns
    (own_before x (g.S.Sight.sight c.turned-turn.new.sight) (length outlines) c.turned-turn.ensures.tested c.args.to.edge c.args.to.at_b c.own_counts-own.result c.own_counts-own.ensures.own)
    c.plus-rest.ensures.left c.plus-rest.ensures.right

pub returns-clause-counts : goal.returns-clause-counts
returns-clause-counts g c =
    let x = g.S.Sight.sight c.args.sight.now in
    let outlines = g.F.Finder.list_over c.args.finder.now c.args.corner in
    counts_turned x c.requires.seen c.args.from c.args.to c.requires.from c.requires.to c.requires.one_corner c.args.corner c.requires.corner outlines c.requires.listed
    c.args.rest c.turned-turn.result c.own_counts-own.result c.plus-rest.result c.requires.rests c.turned-turn.ensures.turns
    (own_before x (g.S.Sight.sight c.turned-turn.new.sight) (length outlines) c.turned-turn.ensures.tested c.args.to.edge c.args.to.at_b c.own_counts-own.result c.own_counts-own.ensures.own)
    c.plus-rest.ensures.left c.plus-rest.ensures.right c.plus.result c.plus.ensures.left c.plus.ensures.right

pub returns-clause-tested : goal.returns-clause-tested
returns-clause-tested g c =
    near_last (g.S.Sight.sight c.args.sight.now) c.args.to.edge c.args.to.at_b (length (g.F.Finder.list_over c.args.finder.now c.args.corner)) (g.S.Sight.sight c.turned-turn.new.sight) (g.S.Sight.sight c.own_counts-own.new.sight)
    c.turned-turn.ensures.tested c.own_counts-own.ensures.tested
