use Rattle.std.proofs.Common.{◌≡◌, ℕ, ◌+◌, ◌<◌, ◌≤◌, ◌^◌, List, length, Some, slice_get, FitsSigned, to_z, of_z, w8, w64, refl, sym, subst, ap, ◌∙◌, arith, rules}
use Rattle.std.specs.Prelude.{All, ℤ, ◌+ℤ◌}
use Rattle.std.proofs.lemmas.List.Elements.{All-contains}
use Rattle.std.proofs.lemmas.Option.{slice_get_within}
use Rattle.geometry.specs.Parts.{Edge, IsNumbered}
use Rattle.geometry.specs.Turns.{number_at}
use Rattle.cross_find.specs.Sights.{SightState}
use Rattle.span_count.specs.inner.Steps.{IsOutlineAt}
use Rattle.span_count.specs.Tests.{with_tests}
use Rattle.span_count.proofs.Lists.{none_past}
use Rattle.span_count.proofs.Listings.{there_at}
use Rattle.span_count.proofs.CarriedCounts.{addend, sum_read}
use Rattle.span_count.proofs.Walks.{still_edge, still_seen, still_outline, still_room}
use Rattle.span_count.proofs.Own.{AreTurnsSoFar, turns_none, turns_more, turns_all, turn_fits, within_small}
use Rattle.span_count.proofs.corner.turned.Goals as goal

-- the outline in hand is one of the part
outline_here : (x : SightState) (list : List ℕ) (i o : ℕ) → All (IsOutlineAt x) list → slice_get list i ≡ Some o → IsOutlineAt x o
outline_here x list i o outlines at = All-contains (IsOutlineAt x) list o outlines (there_at list i o at)

pub loop-outline-init : goal.loop-outline-init
loop-outline-init g c = turns_none (g.S.Sight.sight c.args.sight.now) c.args.from c.args.to (g.F.Finder.list_over c.args.finder.now c.args.corner)

pub turn-turn-requires-clause-from_in_range : goal.turn-turn-requires-clause-from_in_range
turn-turn-requires-clause-from_in_range g c = still_edge (g.S.Sight.sight c.args.sight.now) _ c.loop-outline.i c.loop-outline.invariant.tested c.args.from.edge c.requires.from.in_range

pub turn-turn-requires-clause-to_in_range : goal.turn-turn-requires-clause-to_in_range
turn-turn-requires-clause-to_in_range g c = still_edge (g.S.Sight.sight c.args.sight.now) _ c.loop-outline.i c.loop-outline.invariant.tested c.args.to.edge c.requires.to.in_range

pub turn-turn-requires-clause-outline_in_range : goal.turn-turn-requires-clause-outline_in_range
turn-turn-requires-clause-outline_in_range g c =
    let x = g.S.Sight.sight c.args.sight.now in
    let here = outline_here x (g.F.Finder.list_over c.args.finder.now c.args.corner) c.loop-outline.i c.in-Some.outline c.requires.listed.outline (sym c.over.ensures ∙ c.in-Some.is) in
    still_edge x _ c.loop-outline.i c.loop-outline.invariant.tested c.in-Some.outline here.0

pub turn-turn-requires-clause-from_seen : goal.turn-turn-requires-clause-from_seen
turn-turn-requires-clause-from_seen g c = still_seen (g.S.Sight.sight c.args.sight.now) _ c.loop-outline.i c.loop-outline.invariant.tested c.args.from.edge c.requires.from.seen

pub turn-turn-requires-clause-to_seen : goal.turn-turn-requires-clause-to_seen
turn-turn-requires-clause-to_seen g c = still_seen (g.S.Sight.sight c.args.sight.now) _ c.loop-outline.i c.loop-outline.invariant.tested c.args.to.edge c.requires.to.seen

pub turn-turn-requires-clause-is_outline : goal.turn-turn-requires-clause-is_outline
turn-turn-requires-clause-is_outline g c =
    let x = g.S.Sight.sight c.args.sight.now in
    let here = outline_here x (g.F.Finder.list_over c.args.finder.now c.args.corner) c.loop-outline.i c.in-Some.outline c.requires.listed.outline (sym c.over.ensures ∙ c.in-Some.is) in
    still_outline x _ c.loop-outline.i c.loop-outline.invariant.tested c.in-Some.outline here.1

pub turn-turn-requires-clause-one_corner : goal.turn-turn-requires-clause-one_corner
turn-turn-requires-clause-one_corner g c =
    subst (λ y. (e f : Edge y.part) → IsNumbered y.halves c.args.from.edge e → IsNumbered y.halves c.args.to.edge f → number_at e c.args.from.at_b ≡ number_at f c.args.to.at_b) (sym c.loop-outline.invariant.tested) c.requires.one_corner

pub turn-turn-requires-clause-room : goal.turn-turn-requires-clause-room
turn-turn-requires-clause-room g c =
    let list = g.F.Finder.list_over c.args.finder.now c.args.corner in
    still_room (g.S.Sight.sight c.args.sight.now) _ c.loop-outline.i c.loop-outline.invariant.tested (length list) (slice_get_within list c.loop-outline.i c.in-Some.outline (sym c.over.ensures ∙ c.in-Some.is)) c.requires.room

pub overflow_add-left : goal.overflow_add-left
overflow_add-left g c =
    let list = g.F.Finder.list_over c.args.finder.now c.args.corner in
    let f : FitsSigned w8 c.turn-turn.result.left = search rules in
    let within : c.loop-outline.i < length list = slice_get_within list c.loop-outline.i c.in-Some.outline (sym c.over.ensures ∙ c.in-Some.is) in
    let few : c.loop-outline.i < 2 ^ 32 = omega (arith, within, c.requires.listed.few) in
    subst (λ z. FitsSigned w64 (to_z w64 c.loop-outline.left-bits +ℤ z)) (sym (addend c.turn-turn.result.left c.from-left.result c.from-left.ensures f))
    (turn_fits c.loop-outline.i (to_z w64 c.loop-outline.left-bits) c.turn-turn.result.left c.loop-outline.invariant.left_small few f)

pub overflow_add-right : goal.overflow_add-right
overflow_add-right g c =
    let list = g.F.Finder.list_over c.args.finder.now c.args.corner in
    let f : FitsSigned w8 c.turn-turn.result.right = search rules in
    let within : c.loop-outline.i < length list = slice_get_within list c.loop-outline.i c.in-Some.outline (sym c.over.ensures ∙ c.in-Some.is) in
    let few : c.loop-outline.i < 2 ^ 32 = omega (arith, within, c.requires.listed.few) in
    subst (λ z. FitsSigned w64 (to_z w64 c.loop-outline.right-bits +ℤ z)) (sym (addend c.turn-turn.result.right c.from-right.result c.from-right.ensures f))
    (turn_fits c.loop-outline.i (to_z w64 c.loop-outline.right-bits) c.turn-turn.result.right c.loop-outline.invariant.right_small few f)

pub overflow_add-i : goal.overflow_add-i
overflow_add-i g c =
    let list = g.F.Finder.list_over c.args.finder.now c.args.corner in
    let within : c.loop-outline.i < length list = slice_get_within list c.loop-outline.i c.in-Some.outline (sym c.over.ensures ∙ c.in-Some.is) in
    omega (arith, within, c.requires.listed.few)

pub loop-outline-smaller : goal.loop-outline-smaller
loop-outline-smaller g c =
    let list = g.F.Finder.list_over c.args.finder.now c.args.corner in
    let within : c.loop-outline.i < length list = slice_get_within list c.loop-outline.i c.in-Some.outline (sym c.over.ensures ∙ c.in-Some.is) in
    omega arith

pub loop-outline-preserved : goal.loop-outline-preserved
loop-outline-preserved g c =
    let x = g.S.Sight.sight c.args.sight.now in
    let list = g.F.Finder.list_over c.args.finder.now c.args.corner in
    let i = c.loop-outline.i in
    let o = c.in-Some.outline in
    let at : slice_get list i ≡ Some o = sym c.over.ensures ∙ c.in-Some.is in
    let within : i < length list = slice_get_within list i o at in
    let few : i < 2 ^ 32 = omega (arith, within, c.requires.listed.few) in
    let l = to_z w64 c.loop-outline.left-bits in
    let r = to_z w64 c.loop-outline.right-bits in
    let a = c.turn-turn.result.left in
    let b = c.turn-turn.result.right in
    let fits_a : FitsSigned w8 a = search rules in
    let fits_b : FitsSigned w8 b = search rules in
    let is_l = sum_read l a c.from-left.result c.from-left.ensures fits_a (turn_fits i l a c.loop-outline.invariant.left_small few fits_a) in
    let is_r = sum_read r b c.from-right.result c.from-right.ensures fits_b (turn_fits i r b c.loop-outline.invariant.right_small few fits_b) in
    let so_far = λ (p q : ℤ). AreTurnsSoFar x c.args.from c.args.to list (i + 1) (g.S.Sight.sight c.turn-turn.new.self) p q in
    subst (λ p. so_far p (to_z w64 (of_z w64 (r +ℤ to_z w64 (of_z w64 c.from-right.result))))) (sym is_l) (subst (so_far (l +ℤ a)) (sym is_r)
    (turns_more x c.args.from c.args.to list i (g.S.Sight.sight c.loop-outline.sight) l r c.loop-outline.invariant o at (g.S.Sight.sight c.turn-turn.new.self) c.turn-turn.ensures.counted a b fits_a fits_b
    c.turn-turn.ensures.left c.turn-turn.ensures.right))

pub returns-clause-turns : goal.returns-clause-turns
returns-clause-turns g c =
    let list = g.F.Finder.list_over c.args.finder.now c.args.corner in
    let past : length list ≤ c.loop-outline.i = none_past list c.loop-outline.i (sym c.over.ensures ∙ c.in_default.is) in
    turns_all (g.S.Sight.sight c.args.sight.now) c.args.from c.args.to list c.loop-outline.i (g.S.Sight.sight c.loop-outline.sight) (to_z w64 c.loop-outline.left-bits) (to_z w64 c.loop-outline.right-bits) c.loop-outline.invariant past _ refl refl

pub returns-clause-small : goal.returns-clause-small
returns-clause-small g c =
    let few : c.loop-outline.i < 2 ^ 32 = omega (arith, c.loop-outline.invariant.within, c.requires.listed.few) in
    record {
      left = within_small c.loop-outline.i (to_z w64 c.loop-outline.left-bits) c.loop-outline.invariant.left_small few;
      right = within_small c.loop-outline.i (to_z w64 c.loop-outline.right-bits) c.loop-outline.invariant.right_small few;
    }

pub returns-clause-tested : goal.returns-clause-tested
returns-clause-tested g c =
    let x = g.S.Sight.sight c.args.sight.now in
    let list = g.F.Finder.list_over c.args.finder.now c.args.corner in
    let past : length list ≤ c.loop-outline.i = none_past list c.loop-outline.i (sym c.over.ensures ∙ c.in_default.is) in
    let all : c.loop-outline.i ≡ length list = omega (arith, past, c.loop-outline.invariant.within) in
    c.loop-outline.invariant.tested ∙ ap (λ (k : ℕ). with_tests k x) all
