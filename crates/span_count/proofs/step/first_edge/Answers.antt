use Rattle.std.proofs.Common.{◌+◌, false, true, [], length, subst}
use Rattle.std.specs.Prelude.{IfOk}
use Rattle.std.proofs.lemmas.Result.{IfOk-weaker}
use Rattle.geometry.specs.Parts.{Edge, IsNumbered}
use Rattle.span_count.specs.CountSpans.{AreCountSpans}
use Rattle.span_count.specs.inner.Rests.{AreRests}
use Rattle.span_count.proofs.Walks.{edge_after, listed_after}
use Rattle.span_count.proofs.Stars.{corner_count, corner_counts}
use Rattle.span_count.proofs.Moved.{seen_after, corner_after, counts_after, rests_after, rests_before, room_near, room_far, tested_far, all_far}
use Rattle.span_count.proofs.step.first_edge.Goals as goal

pub begin-start-requires-clause-room : goal.begin-start-requires-clause-room
begin-start-requires-clause-room g c =
    room_near (g.S.Sight.sight c.args.sight.now) c.requires.seen c.args.edge c.requires.edge.in_range false c.args.triangles (length (g.F.Finder.list_along c.args.finder.now c.args.edge)) c.requires.room

pub walk_edge-requires-clause-seen : goal.walk_edge-requires-clause-seen
walk_edge-requires-clause-seen g c =
    let x = g.S.Sight.sight c.args.sight.now in
    let now = g.S.Sight.sight c.begin-start.new.sight in
    let (m, h) = corner_count x c.args.edge c.requires.seen c.requires.edge.in_range false in
    let (made, few, e) = c.begin-start.ensures.tested m h in
    seen_after x now made e c.requires.seen

pub walk_edge-requires-clause-edge : goal.walk_edge-requires-clause-edge
walk_edge-requires-clause-edge g c =
    let x = g.S.Sight.sight c.args.sight.now in
    let now = g.S.Sight.sight c.begin-start.new.sight in
    let (m, h) = corner_count x c.args.edge c.requires.seen c.requires.edge.in_range false in
    let (made, few, e) = c.begin-start.ensures.tested m h in
    edge_after x now made e c.args.edge [] c.requires.edge

pub walk_edge-requires-clause-counts : goal.walk_edge-requires-clause-counts
walk_edge-requires-clause-counts g c =
    let x = g.S.Sight.sight c.args.sight.now in
    let now = g.S.Sight.sight c.begin-start.new.sight in
    let (m, h) = corner_count x c.args.edge c.requires.seen c.requires.edge.in_range false in
    let (made, few, e) = c.begin-start.ensures.tested m h in
    counts_after x now made e c.args.edge false c.begin-start.result.counts c.begin-start.ensures.counts

pub walk_edge-requires-clause-rest : goal.walk_edge-requires-clause-rest
walk_edge-requires-clause-rest g c =
    let x = g.S.Sight.sight c.args.sight.now in
    let now = g.S.Sight.sight c.begin-start.new.sight in
    let (m, h) = corner_count x c.args.edge c.requires.seen c.requires.edge.in_range false in
    let (made, few, e) = c.begin-start.ensures.tested m h in
    rests_after x now made e c.args.edge false c.begin-start.result.rest c.begin-start.ensures.rest

pub walk_edge-requires-clause-listed : goal.walk_edge-requires-clause-listed
walk_edge-requires-clause-listed g c =
    let x = g.S.Sight.sight c.args.sight.now in
    let now = g.S.Sight.sight c.begin-start.new.sight in
    let (m, h) = corner_count x c.args.edge c.requires.seen c.requires.edge.in_range false in
    let (made, few, e) = c.begin-start.ensures.tested m h in
    listed_after x now made e c.args.edge (g.F.Finder.list_along c.args.finder.now c.args.edge) c.requires.listed

pub walk_edge-requires-clause-room : goal.walk_edge-requires-clause-room
walk_edge-requires-clause-room g c =
    room_far (g.S.Sight.sight c.args.sight.now) c.requires.seen c.args.edge c.requires.edge.in_range false c.args.triangles (length (g.F.Finder.list_along c.args.finder.now c.args.edge)) c.requires.room
    (g.S.Sight.sight c.begin-start.new.sight) c.begin-start.ensures.tested

pub returns-clause-spans : goal.returns-clause-spans
returns-clause-spans g c =
    let x = g.S.Sight.sight c.args.sight.now in
    let now = g.S.Sight.sight c.begin-start.new.sight in
    let (m, h) = corner_count x c.args.edge c.requires.seen c.requires.edge.in_range false in
    let (made, few, e) = c.begin-start.ensures.tested m h in
    subst (λ y. (e : Edge y.part) → IsNumbered y.halves c.args.edge e → IfOk c.walk_edge.result (λ walked. AreCountSpans y.direction {s = y.part} e walked.spans.items)) e c.walk_edge.ensures.spans

pub returns-clause-first : goal.returns-clause-first
returns-clause-first g c =
    let x = g.S.Sight.sight c.args.sight.now in
    let now = g.S.Sight.sight c.begin-start.new.sight in
    let (m, h) = corner_count x c.args.edge c.requires.seen c.requires.edge.in_range false in
    let (made, few, e) = c.begin-start.ensures.tested m h in
    IfOk-weaker c.walk_edge.result _ (λ walked. AreRests x c.args.edge false walked.first) (λ walked r. rests_before x now made e c.args.edge false walked.first r) c.walk_edge.ensures.first

pub returns-clause-second : goal.returns-clause-second
returns-clause-second g c =
    let x = g.S.Sight.sight c.args.sight.now in
    let now = g.S.Sight.sight c.begin-start.new.sight in
    let (m, h) = corner_count x c.args.edge c.requires.seen c.requires.edge.in_range false in
    let (made, few, e) = c.begin-start.ensures.tested m h in
    IfOk-weaker c.walk_edge.result _ (λ walked. AreRests x c.args.edge true walked.second) (λ walked r. rests_before x now made e c.args.edge true walked.second r) c.walk_edge.ensures.second

pub returns-clause-tested : goal.returns-clause-tested
returns-clause-tested g c =
    tested_far (g.S.Sight.sight c.args.sight.now) c.requires.seen c.args.edge c.requires.edge.in_range false c.args.triangles (length (g.F.Finder.list_along c.args.finder.now c.args.edge))
    (g.S.Sight.sight c.begin-start.new.sight) (g.S.Sight.sight c.walk_edge.new.sight) c.begin-start.ensures.tested c.walk_edge.ensures.tested

pub returns-clause-all_tested : goal.returns-clause-all_tested
returns-clause-all_tested g c e ends at h =
    let x = g.S.Sight.sight c.args.sight.now in
    let now = g.S.Sight.sight c.begin-start.new.sight in
    let new = g.S.Sight.sight c.walk_edge.new.sight in
    let list = length (g.F.Finder.list_along c.args.finder.now c.args.edge) in
    let (m, n, here, far, is) = corner_counts x c.args.edge ends h false in
    let (before, near, made) = c.begin-start.ensures.near_tested e m at here in
    IfOk-weaker c.walk_edge.result _ _ (λ walked t. (before, near, all_far x now new before m list n ends made t is)) (c.walk_edge.ensures.all_tested n (corner_after x now (before + m) made c.args.edge true n far))
