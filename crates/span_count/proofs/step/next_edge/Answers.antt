use Rattle.std.proofs.Common.{◌≡◌, ℕ, ◌+◌, ◌<◌, ◌^◌, false, true, not, [], length, sym, subst}
use Rattle.std.specs.Prelude.{IfOk}
use Rattle.std.proofs.lemmas.Result.{IfOk-weaker}
use Rattle.geometry.specs.Parts.{Edge, IsNumbered}
use Rattle.span_count.specs.CountSpans.{AreCountSpans}
use Rattle.span_count.specs.inner.Rests.{AreRests}
use Rattle.span_count.proofs.Walks.{edge_after, listed_after}
use Rattle.span_count.specs.Bounds.{IsEndCount}
use Rattle.span_count.specs.inner.Steps.{AreListedOver}
use Rattle.span_count.specs.Tests.{with_tests, IsTested}
use Rattle.span_count.proofs.Stars.{edge_at, corner_count, corner_counts}
use Rattle.span_count.proofs.Moved.{seen_after, corner_after, counts_after, rests_after, rests_before, room_near, room_far, tested_just, tested_far, all_far}
use Rattle.span_count.proofs.step.next_edge.Goals as goal

pub turn_to-start-requires-clause-listed : goal.turn_to-start-requires-clause-listed
turn_to-start-requires-clause-listed g c =
    let x = g.S.Sight.sight c.args.sight.now in
    let (f, at) = edge_at x c.requires.seen c.args.to.edge c.requires.to.in_range in
    subst (λ (n : ℕ). AreListedOver x n (g.F.Finder.list_over c.args.finder.now n)) (sym (c.corner_of-corner.ensures.number f at)) (c.requires.listed_over f at)

pub turn_to-start-requires-clause-room : goal.turn_to-start-requires-clause-room
turn_to-start-requires-clause-room g c =
    let x = g.S.Sight.sight c.args.sight.now in
    let (f, at) = edge_at x c.requires.seen c.args.to.edge c.requires.to.in_range in
    let list = length (g.F.Finder.list_along c.args.finder.now c.args.to.edge) in
    room_near x c.requires.seen c.args.to.edge c.requires.to.in_range c.args.to.at_b (length (g.F.Finder.list_over c.args.finder.now c.corner_of-corner.result)) list
    (subst (λ (n : ℕ). (ends : ℕ) → IsEndCount x.part x.halves c.args.to.edge ends → x.tests + (length (g.F.Finder.list_over c.args.finder.now n) + (list + ends)) < 2 ^ 64) (sym (c.corner_of-corner.ensures.number f at)) (λ ends. c.requires.room f ends at))

pub walk_edge-requires-clause-seen : goal.walk_edge-requires-clause-seen
walk_edge-requires-clause-seen g c =
    let x = g.S.Sight.sight c.args.sight.now in
    let now = g.S.Sight.sight c.turn_to-start.new.sight in
    let (m, h) = corner_count x c.args.to.edge c.requires.seen c.requires.to.in_range c.args.to.at_b in
    seen_after x now ((length (g.F.Finder.list_over c.args.finder.now c.corner_of-corner.result)) + m) (c.turn_to-start.ensures.tested m h) c.requires.seen

pub walk_edge-requires-clause-edge : goal.walk_edge-requires-clause-edge
walk_edge-requires-clause-edge g c =
    let x = g.S.Sight.sight c.args.sight.now in
    let now = g.S.Sight.sight c.turn_to-start.new.sight in
    let (m, h) = corner_count x c.args.to.edge c.requires.seen c.requires.to.in_range c.args.to.at_b in
    edge_after x now ((length (g.F.Finder.list_over c.args.finder.now c.corner_of-corner.result)) + m) (c.turn_to-start.ensures.tested m h) c.args.to.edge [] c.requires.to

pub walk_edge-requires-clause-counts : goal.walk_edge-requires-clause-counts
walk_edge-requires-clause-counts g c =
    let x = g.S.Sight.sight c.args.sight.now in
    let now = g.S.Sight.sight c.turn_to-start.new.sight in
    let (m, h) = corner_count x c.args.to.edge c.requires.seen c.requires.to.in_range c.args.to.at_b in
    counts_after x now ((length (g.F.Finder.list_over c.args.finder.now c.corner_of-corner.result)) + m) (c.turn_to-start.ensures.tested m h) c.args.to.edge c.args.to.at_b c.turn_to-start.result.counts c.turn_to-start.ensures.counts

pub walk_edge-requires-clause-rest : goal.walk_edge-requires-clause-rest
walk_edge-requires-clause-rest g c =
    let x = g.S.Sight.sight c.args.sight.now in
    let now = g.S.Sight.sight c.turn_to-start.new.sight in
    let (m, h) = corner_count x c.args.to.edge c.requires.seen c.requires.to.in_range c.args.to.at_b in
    rests_after x now ((length (g.F.Finder.list_over c.args.finder.now c.corner_of-corner.result)) + m) (c.turn_to-start.ensures.tested m h) c.args.to.edge c.args.to.at_b c.turn_to-start.result.rest c.turn_to-start.ensures.rest

pub walk_edge-requires-clause-listed : goal.walk_edge-requires-clause-listed
walk_edge-requires-clause-listed g c =
    let x = g.S.Sight.sight c.args.sight.now in
    let now = g.S.Sight.sight c.turn_to-start.new.sight in
    let (m, h) = corner_count x c.args.to.edge c.requires.seen c.requires.to.in_range c.args.to.at_b in
    listed_after x now ((length (g.F.Finder.list_over c.args.finder.now c.corner_of-corner.result)) + m) (c.turn_to-start.ensures.tested m h) c.args.to.edge (g.F.Finder.list_along c.args.finder.now c.args.to.edge) c.requires.listed

pub walk_edge-requires-clause-room : goal.walk_edge-requires-clause-room
walk_edge-requires-clause-room g c =
    let x = g.S.Sight.sight c.args.sight.now in
    let (f, at) = edge_at x c.requires.seen c.args.to.edge c.requires.to.in_range in
    let list = length (g.F.Finder.list_along c.args.finder.now c.args.to.edge) in
    room_far x c.requires.seen c.args.to.edge c.requires.to.in_range c.args.to.at_b (length (g.F.Finder.list_over c.args.finder.now c.corner_of-corner.result)) list
    (subst (λ (n : ℕ). (ends : ℕ) → IsEndCount x.part x.halves c.args.to.edge ends → x.tests + (length (g.F.Finder.list_over c.args.finder.now n) + (list + ends)) < 2 ^ 64) (sym (c.corner_of-corner.ensures.number f at)) (λ ends. c.requires.room f ends at))
    (g.S.Sight.sight c.turn_to-start.new.sight) (λ m h. tested_just x (g.S.Sight.sight c.turn_to-start.new.sight) _ (c.turn_to-start.ensures.tested m h))

pub returns-clause-spans : goal.returns-clause-spans
returns-clause-spans g c =
    let x = g.S.Sight.sight c.args.sight.now in
    let now = g.S.Sight.sight c.turn_to-start.new.sight in
    let (m, h) = corner_count x c.args.to.edge c.requires.seen c.requires.to.in_range c.args.to.at_b in
    subst (λ y. (e : Edge y.part) → IsNumbered y.halves c.args.to.edge e → IfOk c.walk_edge.result (λ walked. AreCountSpans y.direction {s = y.part} e walked.spans.items)) (c.turn_to-start.ensures.tested m h) c.walk_edge.ensures.spans

pub returns-clause-first : goal.returns-clause-first
returns-clause-first g c =
    let x = g.S.Sight.sight c.args.sight.now in
    let now = g.S.Sight.sight c.turn_to-start.new.sight in
    let (m, h) = corner_count x c.args.to.edge c.requires.seen c.requires.to.in_range c.args.to.at_b in
    IfOk-weaker c.walk_edge.result _ (λ walked. AreRests x c.args.to.edge false walked.first) (λ walked r. rests_before x now ((length (g.F.Finder.list_over c.args.finder.now c.corner_of-corner.result)) + m) (c.turn_to-start.ensures.tested m h) c.args.to.edge false walked.first r) c.walk_edge.ensures.first

pub returns-clause-second : goal.returns-clause-second
returns-clause-second g c =
    let x = g.S.Sight.sight c.args.sight.now in
    let now = g.S.Sight.sight c.turn_to-start.new.sight in
    let (m, h) = corner_count x c.args.to.edge c.requires.seen c.requires.to.in_range c.args.to.at_b in
    IfOk-weaker c.walk_edge.result _ (λ walked. AreRests x c.args.to.edge true walked.second) (λ walked r. rests_before x now ((length (g.F.Finder.list_over c.args.finder.now c.corner_of-corner.result)) + m) (c.turn_to-start.ensures.tested m h) c.args.to.edge true walked.second r) c.walk_edge.ensures.second

pub returns-clause-tested : goal.returns-clause-tested
returns-clause-tested g c f ends at h =
    let x = g.S.Sight.sight c.args.sight.now in
    let new = g.S.Sight.sight c.walk_edge.new.sight in
    let list = length (g.F.Finder.list_along c.args.finder.now c.args.to.edge) in
    subst (λ (n : ℕ). IsTested (length (g.F.Finder.list_over c.args.finder.now n) + (list + ends)) x new) (c.corner_of-corner.ensures.number f at)
    (tested_far x c.requires.seen c.args.to.edge c.requires.to.in_range c.args.to.at_b (length (g.F.Finder.list_over c.args.finder.now c.corner_of-corner.result)) list (g.S.Sight.sight c.turn_to-start.new.sight) new
    (λ m h. tested_just x (g.S.Sight.sight c.turn_to-start.new.sight) _ (c.turn_to-start.ensures.tested m h)) c.walk_edge.ensures.tested ends h)

pub returns-clause-all_tested : goal.returns-clause-all_tested
returns-clause-all_tested g c f ends at h =
    let x = g.S.Sight.sight c.args.sight.now in
    let now = g.S.Sight.sight c.turn_to-start.new.sight in
    let new = g.S.Sight.sight c.walk_edge.new.sight in
    let list = length (g.F.Finder.list_along c.args.finder.now c.args.to.edge) in
    let over = length (g.F.Finder.list_over c.args.finder.now c.corner_of-corner.result) in
    let (m, n, here, far, is) = corner_counts x c.args.to.edge ends h c.args.to.at_b in
    let made = c.turn_to-start.ensures.tested m here in
    subst (λ (corner : ℕ). IfOk c.walk_edge.result (λ _. new ≡ with_tests (length (g.F.Finder.list_over c.args.finder.now corner) + (list + ends)) x)) (c.corner_of-corner.ensures.number f at)
    (IfOk-weaker c.walk_edge.result _ _ (λ walked t. all_far x now new over m list n ends made t is) (c.walk_edge.ensures.all_tested n (corner_after x now (over + m) made c.args.to.edge (not c.args.to.at_b) n far)))
