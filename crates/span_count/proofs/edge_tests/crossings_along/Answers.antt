use Rattle.std.proofs.Common.{◌≡◌, ℕ, ◌+◌, ◌<◌, ◌≤◌, List, [], ◌∷◌, ◌++◌, length, Vec, Global, vec_len, Some, None, slice_get, sym, subst, ◌∙◌, arith}
use Rattle.std.proofs.lemmas.List.{take_all}
use Rattle.std.proofs.lemmas.List.Elements.{All-contains}
use Rattle.std.proofs.lemmas.Option.{slice_get_within, get_or_from_slice_get}
use Rattle.cross_find.specs.declared.meter.Crossing.{Crossing}
use Rattle.span_count.specs.inner.Steps.{IsOutlineAt, AreCrossings}
use Rattle.span_count.specs.Tests.{with_tests}
use Rattle.span_count.proofs.Sums.{some_push, none_push}
use Rattle.span_count.proofs.Lists.{none_past}
use Rattle.span_count.proofs.Walks.{AreFoundSoFar, CrossSays, found_more, more_tests, still_seen, still_outline, still_room}
use Rattle.span_count.proofs.edge_tests.crossings_along.Goals as goal
use Rattle.span_count.proofs.edge_tests.crossings_along.Goals.{in-Some-cross+in_ok-push, in_default-cross}

pub cross-requires-clause-seen : goal.cross-requires-clause-seen
cross-requires-clause-seen g c = still_seen (g.S.Sight.sight c.args.sight.now) _ c.loop-outline.i c.loop-outline.invariant.tested c.args.edge c.requires.edge.seen

pub cross-requires-clause-is_outline : goal.cross-requires-clause-is_outline
cross-requires-clause-is_outline g c =
    let x = g.S.Sight.sight c.args.sight.now in
    let list = g.F.Finder.list_along c.args.finder.now c.args.edge in
    let i = c.loop-outline.i in
    let o = c.in-Some.outline in
    let at : slice_get list i ≡ Some o = sym c.along.ensures ∙ c.in-Some.is in
    let there : IsOutlineAt x o = All-contains (IsOutlineAt x) list o c.requires.listed.outline (i, slice_get_within list i o at, get_or_from_slice_get list i o o at) in
    still_outline x _ i c.loop-outline.invariant.tested o there.1

pub cross-requires-clause-room : goal.cross-requires-clause-room
cross-requires-clause-room g c =
    let list = g.F.Finder.list_along c.args.finder.now c.args.edge in
    still_room (g.S.Sight.sight c.args.sight.now) _ c.loop-outline.i c.loop-outline.invariant.tested (length list) (slice_get_within list c.loop-outline.i c.in-Some.outline (sym c.along.ensures ∙ c.in-Some.is)) c.requires.room

pub returns-in_err-push-clause-tested : goal.returns-in_err-push-clause-tested
returns-in_err-push-clause-tested g c =
    let list = g.F.Finder.list_along c.args.finder.now c.args.edge in
    let i = c.loop-outline.i in
    let within : i < length list = slice_get_within list i c.in-Some.outline (sym c.along.ensures ∙ c.in-Some.is) in (
      i + 1,
      omega arith,
      c.cross.ensures.counted ∙ more_tests (g.S.Sight.sight c.args.sight.now) (g.S.Sight.sight c.loop-outline.sight) i c.loop-outline.invariant.tested,
    )

pub overflow_add-i : goal.overflow_add-i
overflow_add-i g c =
    let list = g.F.Finder.list_along c.args.finder.now c.args.edge in
    let within : c.loop-outline.i < length list = slice_get_within list c.loop-outline.i c.in-Some.outline (sym c.along.ensures ∙ c.in-Some.is) in
    omega arith

pub loop-outline-smaller : goal.loop-outline-smaller
loop-outline-smaller g c =
    let list = g.F.Finder.list_along c.args.finder.now c.args.edge in
    let within : c.loop-outline.i < length list = slice_get_within list c.loop-outline.i c.in-Some.outline (sym c.along.ensures ∙ c.in-Some.is) in
    omega arith

pub loop-outline-preserved : goal.loop-outline-preserved
loop-outline-preserved g c =
    let x = g.S.Sight.sight c.args.sight.now in
    let list = g.F.Finder.list_along c.args.finder.now c.args.edge in
    let i = c.loop-outline.i in
    let now = g.S.Sight.sight c.loop-outline.sight in
    let new = g.S.Sight.sight c.cross.new.self in
    let o = c.in-Some.outline in
    let at : slice_get list i ≡ Some o = sym c.along.ensures ∙ c.in-Some.is in
    let old = c.loop-outline.crossings in
    let known = c.loop-outline.invariant in
    let Found : Vec Crossing Global → Type 0 = λ v. AreFoundSoFar x c.args.edge list (i + 1) new v.items (vec_len v) in
    elim c.match-cross.branch [
      | in-Some-cross+in_ok-push w ↦
          let crossing = w.in-Some-cross.crossing in
          let says : CrossSays now c.args.edge o (Some crossing) = subst (CrossSays now c.args.edge o) w.in-Some-cross.is c.cross.ensures.answer in
          let long : vec_len w.push.new.self ≤ vec_len old + 1 = omega (arith, w.in_ok-push.ensures.len) in
          subst Found (sym w.crossings-is) (subst (λ (v : List Crossing). AreFoundSoFar x c.args.edge list (i + 1) new v (vec_len w.push.new.self)) (sym w.in_ok-push.ensures.items)
          (found_more x c.args.edge list i now old.items (vec_len old) known o at new c.cross.ensures.counted (Some crossing) says (old.items ++ crossing ∷ []) (vec_len w.push.new.self) long
          (λ answers e. some_push answers old.items crossing e)))
      | in_default-cross w ↦
          let says : CrossSays now c.args.edge o None = subst (CrossSays now c.args.edge o) w.in_default-cross.is c.cross.ensures.answer in
          subst Found (sym w.crossings-is)
          (found_more x c.args.edge list i now old.items (vec_len old) known o at new c.cross.ensures.counted None says old.items (vec_len old) (omega arith)
          (λ answers e. none_push answers old.items e))
    ]

pub returns-clause-crossings : goal.returns-clause-crossings
returns-clause-crossings g c e here =
    let list = g.F.Finder.list_along c.args.finder.now c.args.edge in
    let past : length list ≤ c.loop-outline.i = none_past list c.loop-outline.i (sym c.along.ensures ∙ c.in_default.is) in
    subst (λ (os : List ℕ). AreCrossings (g.S.Sight.sight c.args.sight.now) e os c.loop-outline.crossings.items) (take_all c.loop-outline.i list past) (c.loop-outline.invariant.found e here)

pub returns-clause-all_tested : goal.returns-clause-all_tested
returns-clause-all_tested g c =
    let x = g.S.Sight.sight c.args.sight.now in
    let list = g.F.Finder.list_along c.args.finder.now c.args.edge in
    let past : length list ≤ c.loop-outline.i = none_past list c.loop-outline.i (sym c.along.ensures ∙ c.in_default.is) in
    let all : c.loop-outline.i ≡ length list = omega (arith, past, c.loop-outline.invariant.within) in
    subst (λ (n : ℕ). g.S.Sight.sight c.loop-outline.sight ≡ with_tests n x) all c.loop-outline.invariant.tested
