use Rattle.std.proofs.Common.{◌≡◌, ℕ, ◌+◌, ◌<◌, ◌^◌, Some, List, length, get_or, slice_get, refl, subst, arith}
use Rattle.std.specs.Prelude.{Option}
use Rattle.std.proofs.lemmas.Option.{slice_get_read, slice_get_within}
use Rattle.geometry.specs.Turns.{number_at}
use Rattle.span_count.specs.inner.Tours.{IsReady, cost_of}
use Rattle.edge_pick.specs.declared.order.DrawnEnd.{DrawnEnd}
use Rattle.span_count.proofs.Listings.{there_at, seen_edge, few_along, listed, few_over, listed_over}
use Rattle.std.proofs.lemmas.Result.{IfOk-weaker}
use Rattle.span_count.proofs.Stars.{edge_at}
use Rattle.span_count.proofs.StepTests.{some_ends, first_tests, next_tests}
use Rattle.span_count.proofs.StepWalks.{first_fits, next_fits, first_tested, next_tested, kept_rests, all_walked}
use Rattle.span_count.proofs.tour.walk_step.Goals as goal

-- the edge at a place
drawn_at : (drawn : List ℕ) (place edge : ℕ) → place < length drawn → edge ≡ get_or drawn place edge → slice_get drawn place ≡ Some edge
drawn_at drawn place edge within is = slice_get_read drawn (length drawn) place edge refl within is

pub first_edge-requires-clause-edge : goal.first_edge-requires-clause-edge
first_edge-requires-clause-edge g c =
    let at = drawn_at c.args.picked.now.drawn.items c.args.step.to.place c.index-edge.result.now c.requires.place c.index-edge.ensures in
    seen_edge (g.S.Sight.sight c.args.sight.now) c.requires.seen c.args.picked.now c.requires.picked _ _ _ c.requires.finder c.index-edge.result.now (there_at _ _ _ at)

pub first_edge-requires-clause-listed : goal.first_edge-requires-clause-listed
first_edge-requires-clause-listed g c =
    let at = drawn_at c.args.picked.now.drawn.items c.args.step.to.place c.index-edge.result.now c.requires.place c.index-edge.ensures in
    listed (g.S.Sight.sight c.args.sight.now) c.requires.seen c.args.picked.now c.requires.picked _ _ _ c.requires.finder c.index-edge.result.now (there_at _ _ _ at)

pub first_edge-requires-clause-near : goal.first_edge-requires-clause-near
first_edge-requires-clause-near g c = c.requires.finder.covering

pub first_edge-requires-clause-room : goal.first_edge-requires-clause-room
first_edge-requires-clause-room g c ends count =
    let x = g.S.Sight.sight c.args.sight.now in
    let p = c.args.picked.now in
    let at = drawn_at p.drawn.items c.args.step.to.place c.index-edge.result.now c.requires.place c.index-edge.ensures in
    let few = few_along x c.requires.seen p c.requires.picked (g.F.Finder.list_along c.args.finder.now) (g.F.Finder.list_over c.args.finder.now) _ c.requires.finder c.index-edge.result.now (there_at p.drawn.items c.args.step.to.place c.index-edge.result.now at) in
    first_fits x.tests (length x.part.triangles) c.args.triangles (length (g.F.Finder.list_along c.args.finder.now c.index-edge.result.now)) (length p.outlines.items) ends
    (subst (λ (from : Option DrawnEnd). x.tests + cost_of (length x.part.triangles) (length p.outlines.items) ends from < 2 ^ 64) c.in-None.is (c.requires.room c.index-edge.result.now ends at count)) c.requires.triangles few

pub index-requires : goal.index-requires
index-requires g c =
    let ready : IsReady (g.S.Sight.sight c.args.sight.now) c.args.picked.now c.args.ends.now c.args.step.to (Some c.in-Some.from) =
    subst (IsReady (g.S.Sight.sight c.args.sight.now) c.args.picked.now c.args.ends.now c.args.step.to) c.in-Some.is c.requires.ready in
    omega (arith, slice_get_within c.args.picked.now.drawn.items c.in-Some.from.place ready.1.edge ready.1.drawn)

pub bounds-ends-from : goal.bounds-ends-from
bounds-ends-from g c =
    let ready : IsReady (g.S.Sight.sight c.args.sight.now) c.args.picked.now c.args.ends.now c.args.step.to (Some c.in-Some.from) =
    subst (IsReady (g.S.Sight.sight c.args.sight.now) c.args.picked.now c.args.ends.now c.args.step.to) c.in-Some.is c.requires.ready in
    slice_get_within c.args.ends.now c.in-Some.from.place ready.1.kept ready.1.listed

pub next_edge-requires-clause-from : goal.next_edge-requires-clause-from
next_edge-requires-clause-from g c =
    let ready : IsReady (g.S.Sight.sight c.args.sight.now) c.args.picked.now c.args.ends.now c.args.step.to (Some c.in-Some.from) =
    subst (IsReady (g.S.Sight.sight c.args.sight.now) c.args.picked.now c.args.ends.now c.args.step.to) c.in-Some.is c.requires.ready in
    let within = slice_get_within c.args.picked.now.drawn.items c.in-Some.from.place ready.1.edge ready.1.drawn in
    let at = drawn_at c.args.picked.now.drawn.items c.in-Some.from.place c.index.result.now within c.index.ensures in
    seen_edge (g.S.Sight.sight c.args.sight.now) c.requires.seen c.args.picked.now c.requires.picked _ _ _ c.requires.finder c.index.result.now (there_at _ _ _ at)

pub next_edge-requires-clause-to : goal.next_edge-requires-clause-to
next_edge-requires-clause-to g c =
    let at = drawn_at c.args.picked.now.drawn.items c.args.step.to.place c.index-edge.result.now c.requires.place c.index-edge.ensures in
    seen_edge (g.S.Sight.sight c.args.sight.now) c.requires.seen c.args.picked.now c.requires.picked _ _ _ c.requires.finder c.index-edge.result.now (there_at _ _ _ at)

pub next_edge-requires-clause-one_corner : goal.next_edge-requires-clause-one_corner
next_edge-requires-clause-one_corner g c e f e_at f_at =
    let ready : IsReady (g.S.Sight.sight c.args.sight.now) c.args.picked.now c.args.ends.now c.args.step.to (Some c.in-Some.from) =
    subst (IsReady (g.S.Sight.sight c.args.sight.now) c.args.picked.now c.args.ends.now c.args.step.to) c.in-Some.is c.requires.ready in
    let within = slice_get_within c.args.picked.now.drawn.items c.in-Some.from.place ready.1.edge ready.1.drawn in
    ready.0 c.index.result.now c.index-edge.result.now e f (drawn_at c.args.picked.now.drawn.items c.in-Some.from.place c.index.result.now within c.index.ensures)
    (drawn_at c.args.picked.now.drawn.items c.args.step.to.place c.index-edge.result.now c.requires.place c.index-edge.ensures) e_at f_at

pub next_edge-requires-clause-rests : goal.next_edge-requires-clause-rests
next_edge-requires-clause-rests g c =
    let ready : IsReady (g.S.Sight.sight c.args.sight.now) c.args.picked.now c.args.ends.now c.args.step.to (Some c.in-Some.from) =
    subst (IsReady (g.S.Sight.sight c.args.sight.now) c.args.picked.now c.args.ends.now c.args.step.to) c.in-Some.is c.requires.ready in
    let within = slice_get_within c.args.picked.now.drawn.items c.in-Some.from.place ready.1.edge ready.1.drawn in
    kept_rests (g.S.Sight.sight c.args.sight.now) c.args.picked.now c.args.ends.now c.in-Some.from c.index.result.now _ c.end_of-kept.result ready.1
    (drawn_at c.args.picked.now.drawn.items c.in-Some.from.place c.index.result.now within c.index.ensures) c.end_of-kept.ensures

pub next_edge-requires-clause-listed : goal.next_edge-requires-clause-listed
next_edge-requires-clause-listed g c =
    let at = drawn_at c.args.picked.now.drawn.items c.args.step.to.place c.index-edge.result.now c.requires.place c.index-edge.ensures in
    listed (g.S.Sight.sight c.args.sight.now) c.requires.seen c.args.picked.now c.requires.picked _ _ _ c.requires.finder c.index-edge.result.now (there_at _ _ _ at)

pub next_edge-requires-clause-listed_over : goal.next_edge-requires-clause-listed_over
next_edge-requires-clause-listed_over g c f f_at =
    let at = drawn_at c.args.picked.now.drawn.items c.args.step.to.place c.index-edge.result.now c.requires.place c.index-edge.ensures in
    listed_over (g.S.Sight.sight c.args.sight.now) c.requires.seen c.args.picked.now c.requires.picked _ _ _ c.requires.finder c.index-edge.result.now (there_at _ _ _ at) f c.args.step.to.at_b

pub next_edge-requires-clause-room : goal.next_edge-requires-clause-room
next_edge-requires-clause-room g c f ends f_at count =
    let x = g.S.Sight.sight c.args.sight.now in
    let p = c.args.picked.now in
    let along = g.F.Finder.list_along c.args.finder.now in
    let over = g.F.Finder.list_over c.args.finder.now in
    let at = drawn_at p.drawn.items c.args.step.to.place c.index-edge.result.now c.requires.place c.index-edge.ensures in
    let there = there_at p.drawn.items c.args.step.to.place c.index-edge.result.now at in
    next_fits x.tests (length (over (number_at f c.args.step.to.at_b))) (length (along c.index-edge.result.now)) (length p.outlines.items) ends
    (subst (λ (from : Option DrawnEnd). x.tests + cost_of (length x.part.triangles) (length p.outlines.items) ends from < 2 ^ 64) c.in-Some.is (c.requires.room c.index-edge.result.now ends at count))
    (few_over x c.requires.seen p c.requires.picked along over _ c.requires.finder c.index-edge.result.now there f c.args.step.to.at_b)
    (few_along x c.requires.seen p c.requires.picked along over _ c.requires.finder c.index-edge.result.now there)

pub returns-in-None-clause-walked : goal.returns-in-None-clause-walked
returns-in-None-clause-walked g c number here =
    let at = drawn_at c.args.picked.now.drawn.items c.args.step.to.place c.index-edge.result.now c.requires.place c.index-edge.ensures in
    all_walked (g.S.Sight.sight c.args.sight.now) c.index-edge.result.now number c.args.picked.now.drawn.items c.args.step.to.place at here c.first_edge.result
    c.first_edge.ensures.spans c.first_edge.ensures.first c.first_edge.ensures.second

pub returns-in-None-clause-tested : goal.returns-in-None-clause-tested
returns-in-None-clause-tested g c number ends here count =
    let x = g.S.Sight.sight c.args.sight.now in
    let at = drawn_at c.args.picked.now.drawn.items c.args.step.to.place c.index-edge.result.now c.requires.place c.index-edge.ensures in
    first_tested x c.requires.seen c.args.picked.now c.requires.picked (g.F.Finder.list_along c.args.finder.now) (g.F.Finder.list_over c.args.finder.now) _ c.requires.finder c.args.step.to.place number c.index-edge.result.now at here ends count
    (g.S.Sight.sight c.first_edge.new.sight) c.args.step.from c.in-None.is c.args.triangles c.requires.triangles c.first_edge.ensures.tested

pub returns-in-Some-clause-walked : goal.returns-in-Some-clause-walked
returns-in-Some-clause-walked g c number here =
    let at = drawn_at c.args.picked.now.drawn.items c.args.step.to.place c.index-edge.result.now c.requires.place c.index-edge.ensures in
    all_walked (g.S.Sight.sight c.args.sight.now) c.index-edge.result.now number c.args.picked.now.drawn.items c.args.step.to.place at here c.next_edge.result
    c.next_edge.ensures.spans c.next_edge.ensures.first c.next_edge.ensures.second

pub returns-in-Some-clause-tested : goal.returns-in-Some-clause-tested
returns-in-Some-clause-tested g c number ends here count =
    let x = g.S.Sight.sight c.args.sight.now in
    let at = drawn_at c.args.picked.now.drawn.items c.args.step.to.place c.index-edge.result.now c.requires.place c.index-edge.ensures in
    next_tested x c.requires.seen c.args.picked.now c.requires.picked (g.F.Finder.list_along c.args.finder.now) (g.F.Finder.list_over c.args.finder.now) _ c.requires.finder c.args.step.to.place number c.index-edge.result.now at here ends count
    (g.S.Sight.sight c.next_edge.new.sight) c.args.step.from c.in-Some.from c.in-Some.is c.args.step.to.at_b c.next_edge.ensures.tested

pub returns-in-None-clause-all_tested : goal.returns-in-None-clause-all_tested
returns-in-None-clause-all_tested g c =
    let x = g.S.Sight.sight c.args.sight.now in
    let p = c.args.picked.now in
    let along = g.F.Finder.list_along c.args.finder.now in
    let over = g.F.Finder.list_over c.args.finder.now in
    let near = g.F.Finder.is_near c.args.finder.now in
    let edge = c.index-edge.result.now in
    let at = drawn_at p.drawn.items c.args.step.to.place edge c.requires.place c.index-edge.ensures in
    let within = (seen_edge x c.requires.seen p c.requires.picked along over near c.requires.finder edge (there_at _ _ _ at)).in_range in
    let (e, numbered) = edge_at x c.requires.seen edge within in
    let (ends, at_ends) = some_ends x edge c.requires.seen within in
    IfOk-weaker c.first_edge.result _ _
    (λ walked t. (t.0 + (length (along edge) + ends), first_tests x p along over near c.args.step edge at e numbered ends at_ends c.in-None.is c.args.triangles c.requires.triangles t.0 t.1, t.2))
    (c.first_edge.ensures.all_tested e ends numbered at_ends)

pub returns-in-Some-clause-all_tested : goal.returns-in-Some-clause-all_tested
returns-in-Some-clause-all_tested g c =
    let x = g.S.Sight.sight c.args.sight.now in
    let p = c.args.picked.now in
    let along = g.F.Finder.list_along c.args.finder.now in
    let over = g.F.Finder.list_over c.args.finder.now in
    let near = g.F.Finder.is_near c.args.finder.now in
    let edge = c.index-edge.result.now in
    let at = drawn_at p.drawn.items c.args.step.to.place edge c.requires.place c.index-edge.ensures in
    let within = (seen_edge x c.requires.seen p c.requires.picked along over near c.requires.finder edge (there_at _ _ _ at)).in_range in
    let (e, numbered) = edge_at x c.requires.seen edge within in
    let (ends, at_ends) = some_ends x edge c.requires.seen within in
    IfOk-weaker c.next_edge.result _ _
    (λ walked t. (length (over (number_at e c.args.step.to.at_b)) + (length (along edge) + ends), next_tests x p along over near c.args.step edge at e numbered ends at_ends c.in-Some.from c.in-Some.is, t))
    (c.next_edge.ensures.all_tested e ends numbered at_ends)
