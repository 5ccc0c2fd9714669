use Rattle.std.proofs.Common.{◌≡◌, ℕ, List, length, get_or, refl, sym, subst, ap, ◌∙◌, arith}
use Rattle.std.specs.Prelude.{Some, slice_get}
use Rattle.std.proofs.lemmas.Option.{slice_get-get_or, slice_get_read}
use Rattle.span_count.specs.inner.Tours.{IsReady}
use Rattle.span_count.specs.declared.tour.Ends.{Ends}
use Rattle.span_count.proofs.StepTests.{tests_none, tests_more, all_of_steps}
use Rattle.span_count.proofs.Tours.{no_step, step_at, same_steps, steps_none, seen_after, picked_after, finder_after, same_part, tests_of, step_place, step_ready, step_room, walk_tested, steps_put, all_entries, for_each_bound}
use Rattle.span_count.proofs.spans_counted.Goals as goal

pub loop-step-init : goal.loop-step-init
loop-step-init g c =
    let long = ap (length {A = ℕ}) c.deref.ensures.value in
    record {
      found = steps_none (g.S.Sight.sight c.args.sight.now) c.args.picked.now c.deref-step-items.result.now c.in_ok-found.found.entries.items c.in_ok-found.found.ends.items
          (c.in_ok-found.ensures.entries ∙ long) (c.in_ok-found.ensures.ends ∙ long);
      tests = tests_none (g.S.Sight.sight c.args.sight.now) c.args.picked.now (g.F.Finder.list_along c.args.finder.now) (g.F.Finder.list_over c.args.finder.now) (g.F.Finder.is_near c.args.finder.now) c.deref-step-items.result.now;
    }

pub walk_step-requires-clause-seen : goal.walk_step-requires-clause-seen
walk_step-requires-clause-seen g c =
    let tested = c.loop-step.invariant.found.tested c.requires.room.1.ends c.requires.room.1.are_ends in
    seen_after (g.S.Sight.sight c.args.sight.now) (g.S.Sight.sight c.loop-step.sight) tested.0 tested.2 c.triangles-triangles.ensures.seen

pub walk_step-requires-clause-picked : goal.walk_step-requires-clause-picked
walk_step-requires-clause-picked g c =
    let tested = c.loop-step.invariant.found.tested c.requires.room.1.ends c.requires.room.1.are_ends in
    picked_after (g.S.Sight.sight c.args.sight.now) (g.S.Sight.sight c.loop-step.sight) tested.0 tested.2 c.args.picked.now c.requires.picked

pub walk_step-requires-clause-finder : goal.walk_step-requires-clause-finder
walk_step-requires-clause-finder g c =
    let tested = c.loop-step.invariant.found.tested c.requires.room.1.ends c.requires.room.1.are_ends in
    finder_after (g.S.Sight.sight c.args.sight.now) (g.S.Sight.sight c.loop-step.sight) tested.0 tested.2 c.args.picked.now (g.F.Finder.list_along c.args.finder.now)
    (g.F.Finder.list_over c.args.finder.now) (g.F.Finder.is_near c.args.finder.now) c.requires.finder

pub walk_step-requires-clause-triangles : goal.walk_step-requires-clause-triangles
walk_step-requires-clause-triangles g c =
    let tested = c.loop-step.invariant.found.tested c.requires.room.1.ends c.requires.room.1.are_ends in
    c.triangles-triangles.ensures.count ∙ ap (λ s. length s.triangles) (sym (same_part (g.S.Sight.sight c.args.sight.now) (g.S.Sight.sight c.loop-step.sight) tested.0 tested.2))

pub walk_step-requires-clause-place : goal.walk_step-requires-clause-place
walk_step-requires-clause-place g c =
    step_place (same_steps c.deref-step-items.ensures.value c.in_ok-steps.ensures) c.loop-step.invariant.found c.requires.room.1 (step_at _ _ c.loop-step-test.true)

pub walk_step-requires-clause-ready : goal.walk_step-requires-clause-ready
walk_step-requires-clause-ready g c =
    let step = get_or c.deref-step-items.result.now c.loop-step.step-index no_step in
    subst (λ (es : List Ends). IsReady (g.S.Sight.sight c.loop-step.sight) c.args.picked.now es step.to step.from) (sym c.deref-in-loop-step.ensures.value)
    (step_ready (same_steps c.deref-step-items.ensures.value c.in_ok-steps.ensures) c.loop-step.invariant.found c.requires.room.1 (step_at _ _ c.loop-step-test.true))

pub walk_step-requires-clause-room : goal.walk_step-requires-clause-room
walk_step-requires-clause-room g c =
    step_room (same_steps c.deref-step-items.ensures.value c.in_ok-steps.ensures) c.loop-step.invariant.found c.requires.room.1 (step_at _ _ c.loop-step-test.true) c.requires.room.2

pub index-edge-requires : goal.index-edge-requires
index-edge-requires g c =
    omega (arith, step_place (same_steps c.deref-step-items.ensures.value c.in_ok-steps.ensures) c.loop-step.invariant.found c.requires.room.1 (step_at _ _ c.loop-step-test.true))

pub put-requires-clause-entries : goal.put-requires-clause-entries
put-requires-clause-entries g c =
    omega (arith, step_place (same_steps c.deref-step-items.ensures.value c.in_ok-steps.ensures) c.loop-step.invariant.found c.requires.room.1 (step_at _ _ c.loop-step-test.true), c.loop-step.invariant.found.entries_long)

pub put-requires-clause-ends : goal.put-requires-clause-ends
put-requires-clause-ends g c =
    omega (arith, step_place (same_steps c.deref-step-items.ensures.value c.in_ok-steps.ensures) c.loop-step.invariant.found c.requires.room.1 (step_at _ _ c.loop-step-test.true), c.loop-step.invariant.found.ends_long)

pub returns-in_err-walked-clause-tested : goal.returns-in_err-walked-clause-tested
returns-in_err-walked-clause-tested g c =
    let drawn = c.args.picked.now.drawn.items in
    let place = (get_or c.deref-step-items.result.now c.loop-step.step-index no_step).to.place in
    let edge = get_or drawn place 0 in
    let at = slice_get-get_or drawn place 0 (step_place (same_steps c.deref-step-items.ensures.value c.in_ok-steps.ensures) c.loop-step.invariant.found c.requires.room.1 (step_at _ _ c.loop-step-test.true)) in
    for_each_bound _ c.args.picked.now _ c.requires.room.1 _
    (walk_tested (same_steps c.deref-step-items.ensures.value c.in_ok-steps.ensures) c.loop-step.invariant.found c.requires.room.1 (step_at _ _ c.loop-step-test.true) edge at (g.S.Sight.sight c.walk_step.new.sight) (λ count counted. c.walk_step.ensures.tested edge count at counted))

pub loop-step-preserved : goal.loop-step-preserved
loop-step-preserved g c =
    let drawn = c.args.picked.now.drawn.items in
    let place = (get_or c.deref-step-items.result.now c.loop-step.step-index no_step).to.place in
    let edge = c.index-edge.result.now in
    let at : slice_get drawn place ≡ Some edge = slice_get_read drawn (length drawn) place edge refl (step_place (same_steps c.deref-step-items.ensures.value c.in_ok-steps.ensures) c.loop-step.invariant.found c.requires.room.1 (step_at _ _ c.loop-step-test.true)) c.index-edge.ensures in
    record {
      found = steps_put (same_steps c.deref-step-items.ensures.value c.in_ok-steps.ensures) c.loop-step.invariant.found c.requires.room.1 (step_at _ _ c.loop-step-test.true) edge at (g.S.Sight.sight c.walk_step.new.sight) (λ count counted. c.in_ok-walked.ensures.tested edge count at counted) c.in_ok-walked.walked
          (c.in_ok-walked.ensures.walked edge at) c.put.new.found.entries.items c.put.new.found.ends.items c.put.ensures.entries c.put.ensures.ends;
      tests = tests_more (g.S.Sight.sight c.args.sight.now) c.args.picked.now (g.F.Finder.list_along c.args.finder.now) (g.F.Finder.list_over c.args.finder.now) (g.F.Finder.is_near c.args.finder.now) c.deref-step-items.result.now c.loop-step.step-index
          (g.S.Sight.sight c.loop-step.sight) (g.S.Sight.sight c.walk_step.new.sight) c.loop-step.invariant.tests _ (step_at _ _ c.loop-step-test.true) c.in_ok-walked.ensures.all_tested;
    }

pub returns-clause-entries : goal.returns-clause-entries
returns-clause-entries g c =
    all_entries (same_steps c.deref-step-items.ensures.value c.in_ok-steps.ensures) c.loop-step.invariant.found c.requires.room.1 c.loop-step-test.false

pub returns-clause-tested : goal.returns-clause-tested
returns-clause-tested g c =
    for_each_bound _ c.args.picked.now _ c.requires.room.1 _ (tests_of (same_steps c.deref-step-items.ensures.value c.in_ok-steps.ensures) c.loop-step.invariant.found c.requires.room.1)

pub returns-clause-all_tested : goal.returns-clause-all_tested
returns-clause-all_tested g c =
    all_of_steps (g.S.Sight.sight c.args.sight.now) c.args.picked.now (g.F.Finder.list_along c.args.finder.now) (g.F.Finder.list_over c.args.finder.now) (g.F.Finder.is_near c.args.finder.now) c.deref-step-items.result.now c.loop-step.step-index
    (g.S.Sight.sight c.loop-step.sight) c.loop-step.invariant.tests c.loop-step-test.false (same_steps c.deref-step-items.ensures.value c.in_ok-steps.ensures)
