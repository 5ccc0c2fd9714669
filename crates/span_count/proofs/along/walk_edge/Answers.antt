use Rattle.std.proofs.Common.{◌+◌, not, List, [], length, sym, subst, arith}
use Rattle.span_count.specs.declared.span.CountSpan.{CountSpan}
use Rattle.span_count.specs.CountSpans.{AreCountSpans}
use Rattle.span_count.proofs.Walks.{edge_after, tests_after_tests}
use Rattle.span_count.proofs.Moved.{seen_after, corner_after, own_before, tested_most, still_far, room_along, along_far}
use Rattle.span_count.proofs.Around.{counts_small, rests_of, rests_first, rests_second}
use Rattle.span_count.proofs.along.walk_edge.Goals as goal

pub along_edge-requires-clause-room : goal.along_edge-requires-clause-room
along_edge-requires-clause-room g c =
    let x = g.S.Sight.sight c.args.sight.now in
    room_along x c.args.end.edge c.args.end.at_b (length (g.F.Finder.list_along c.args.finder.now c.args.end.edge)) c.requires.seen c.requires.edge.in_range c.requires.room

pub own_counts-requires-clause-seen : goal.own_counts-requires-clause-seen
own_counts-requires-clause-seen g c =
    seen_after (g.S.Sight.sight c.args.sight.now) (g.S.Sight.sight c.along_edge.new.sight) c.along_edge.ensures.tested.0 c.along_edge.ensures.tested.2 c.requires.seen

pub own_counts-requires-clause-edge : goal.own_counts-requires-clause-edge
own_counts-requires-clause-edge g c =
    edge_after (g.S.Sight.sight c.args.sight.now) (g.S.Sight.sight c.along_edge.new.sight) c.along_edge.ensures.tested.0 c.along_edge.ensures.tested.2 c.args.end.edge [] c.requires.edge

pub own_counts-requires-clause-room : goal.own_counts-requires-clause-room
own_counts-requires-clause-room g c n h =
    still_far (g.S.Sight.sight c.args.sight.now) (g.S.Sight.sight c.along_edge.new.sight) c.args.end.edge c.args.end.at_b (length (g.F.Finder.list_along c.args.finder.now c.args.end.edge)) c.along_edge.ensures.tested c.requires.room n h

pub minus-far_rest-requires-clause-small : goal.minus-far_rest-requires-clause-small
minus-far_rest-requires-clause-small g c =
    counts_small (g.S.Sight.sight c.args.sight.now) c.requires.seen c.args.end.edge c.requires.edge.in_range (not c.args.end.at_b) c.in_ok-along.along.far c.in_ok-along.ensures.far

pub returns-in_err-along-clause-tested : goal.returns-in_err-along-clause-tested
returns-in_err-along-clause-tested g c n h =
    let list = length (g.F.Finder.list_along c.args.finder.now c.args.end.edge) in
    tested_most (g.S.Sight.sight c.args.sight.now) (g.S.Sight.sight c.along_edge.new.sight) list (list + n) (omega arith) c.along_edge.ensures.tested

pub returns-clause-first : goal.returns-clause-first
returns-clause-first g c =
    let x = g.S.Sight.sight c.args.sight.now in
    let now = g.S.Sight.sight c.along_edge.new.sight in
    let tested = c.along_edge.ensures.tested in
    let far = not c.args.end.at_b in
    rests_first x c.args.end.edge c.args.end.at_b c.args.start.rest c.minus-far_rest.result c.walked.result.first c.requires.rest
    (rests_of x c.args.end.edge far c.in_ok-along.along.far c.own_counts.result c.minus-far_rest.result c.in_ok-along.ensures.far
    (own_before x now tested.0 tested.2 c.args.end.edge far c.own_counts.result c.own_counts.ensures.own) c.minus-far_rest.ensures.left c.minus-far_rest.ensures.right) c.walked.ensures.first

pub returns-clause-second : goal.returns-clause-second
returns-clause-second g c =
    let x = g.S.Sight.sight c.args.sight.now in
    let now = g.S.Sight.sight c.along_edge.new.sight in
    let tested = c.along_edge.ensures.tested in
    let far = not c.args.end.at_b in
    rests_second x c.args.end.edge c.args.end.at_b c.args.start.rest c.minus-far_rest.result c.walked.result.second c.requires.rest
    (rests_of x c.args.end.edge far c.in_ok-along.along.far c.own_counts.result c.minus-far_rest.result c.in_ok-along.ensures.far
    (own_before x now tested.0 tested.2 c.args.end.edge far c.own_counts.result c.own_counts.ensures.own) c.minus-far_rest.ensures.left c.minus-far_rest.ensures.right) c.walked.ensures.second

pub returns-clause-spans : goal.returns-clause-spans
returns-clause-spans g c e at =
    let x = g.S.Sight.sight c.args.sight.now in
    subst (λ (spans : List CountSpan). AreCountSpans x.direction {s = x.part} e spans) (sym c.walked.ensures.spans) (c.in_ok-along.ensures.spans e at)

pub returns-clause-tested : goal.returns-clause-tested
returns-clause-tested g c =
    along_far (g.S.Sight.sight c.args.sight.now) (g.S.Sight.sight c.along_edge.new.sight) (g.S.Sight.sight c.own_counts.new.sight) c.args.end.edge c.args.end.at_b (length (g.F.Finder.list_along c.args.finder.now c.args.end.edge))
    c.along_edge.ensures.tested c.own_counts.ensures.tested

pub returns-clause-all_tested : goal.returns-clause-all_tested
returns-clause-all_tested g c n h =
    let x = g.S.Sight.sight c.args.sight.now in
    let now = g.S.Sight.sight c.along_edge.new.sight in
    let list = length (g.F.Finder.list_along c.args.finder.now c.args.end.edge) in
    tests_after_tests x now (g.S.Sight.sight c.own_counts.new.sight) list n c.in_ok-along.ensures.all_tested
    (c.own_counts.ensures.tested n (corner_after x now list c.in_ok-along.ensures.all_tested c.args.end.edge (not c.args.end.at_b) n h))
