use Rattle.std.proofs.Common.{length, refl, sym, ⊎_elim}
use Rattle.std.proofs.lemmas.Bool.{false≢true}
use Rattle.std.proofs.lemmas.Option.{slice_get-get_or}
use Rattle.flip_slivers.specs.declared.bounded.Bounded.{Bounded}
use Rattle.flip_slivers.specs.Flips.{tri}
use Rattle.flip_slivers.proofs.ChoiceLemmas.{turned_at, turned_below, candidate_choice, candidate_back}
use Rattle.flip_slivers.proofs.SettledLemmas.{idle_beside, idle_without_side, idle_with_itself}
use Rattle.flip_slivers.proofs.choices.flip_beside.Goals as goal

abbrev nothing : Bounded
nothing = record { tri = record { a = 0; b = 0; c = 0 }; bound = 0 }

pub returns-then-other-place-clause-none : goal.returns-then-other-place-clause-none
returns-then-other-place-clause-none c _ = idle_with_itself c.args.scene.now.corners.now c.args.scene.now.most c.args.scene.now.surface.now c.args.place c.args.t.now c.args.other c.if-other-place.true

pub returns-in_default-clause-none : goal.returns-in_default-clause-none
returns-in_default-clause-none c _ =
    idle_without_side c.args.scene.now.corners.now c.args.scene.now.most c.args.scene.now.surface.now c.args.place c.args.t.now c.args.other _ (slice_get-get_or c.args.scene.now.surface.now c.args.other nothing c.requires.other)
    (c.in_default.ensures.none refl)

pub candidate_of_two-requires-clause-beside : goal.candidate_of_two-requires-clause-beside
candidate_of_two-requires-clause-beside c = turned_at c.args.scene.now.surface.now c.args.other nothing (tri c.args.t.now.b c.args.t.now.a c.in-Some.d) c.requires.other c.in-Some.ensures.some

pub may_rise-requires-clause-below : goal.may_rise-requires-clause-below
may_rise-requires-clause-below c = turned_below (length c.args.scene.now.corners.now) c.args.scene.now.surface.now c.args.place c.args.t.now c.requires.place c.requires.laid.in_range c.requires.turned

pub may_rise-requires-clause-third : goal.may_rise-requires-clause-third
may_rise-requires-clause-third c =
    (turned_below (length c.args.scene.now.corners.now) c.args.scene.now.surface.now c.args.other (tri c.args.t.now.b c.args.t.now.a c.in-Some.d) c.requires.other c.requires.laid.in_range
    (turned_at c.args.scene.now.surface.now c.args.other nothing (tri c.args.t.now.b c.args.t.now.a c.in-Some.d) c.requires.other c.in-Some.ensures.some)).c

pub returns-then-not-may_rise-clause-none : goal.returns-then-not-may_rise-clause-none
returns-then-not-may_rise-clause-none c _ =
    let at_x = slice_get-get_or c.args.scene.now.surface.now c.args.place nothing c.requires.place in
    let at_y = slice_get-get_or c.args.scene.now.surface.now c.args.other nothing c.requires.other in
    idle_beside c.args.scene.now.corners.now c.args.scene.now.most c.args.scene.now.surface.now c.args.place c.args.t.now c.args.other c.in-Some.d _ _ at_x at_y c.in-Some.ensures.some
    (λ allows. false≢true ((c.if-not-may_rise.ensures _ _ at_x at_y).1 allows.rises))

pub returns-then-is_side-clause-none : goal.returns-then-is_side-clause-none
returns-then-is_side-clause-none c _ =
    idle_beside c.args.scene.now.corners.now c.args.scene.now.most c.args.scene.now.surface.now c.args.place c.args.t.now c.args.other c.in-Some.d _ _
    (slice_get-get_or c.args.scene.now.surface.now c.args.place nothing c.requires.place) (slice_get-get_or c.args.scene.now.surface.now c.args.other nothing c.requires.other) c.in-Some.ensures.some
    (λ allows. allows.no_side (c.if-is_side.ensures.0 refl))

pub returns-then-is_side-2-clause-none : goal.returns-then-is_side-2-clause-none
returns-then-is_side-2-clause-none c _ =
    idle_beside c.args.scene.now.corners.now c.args.scene.now.most c.args.scene.now.surface.now c.args.place c.args.t.now c.args.other c.in-Some.d _ _
    (slice_get-get_or c.args.scene.now.surface.now c.args.place nothing c.requires.place) (slice_get-get_or c.args.scene.now.surface.now c.args.other nothing c.requires.other) c.in-Some.ensures.some
    (λ allows. allows.no_side_back (c.if-is_side-2.ensures.0 refl))

pub returns-clause-some : goal.returns-clause-some
returns-clause-some c =
    let beside = turned_at c.args.scene.now.surface.now c.args.other nothing (tri c.args.t.now.b c.args.t.now.a c.in-Some.d) c.requires.other c.in-Some.ensures.some in
    ⊎_elim
    (λ x. candidate_choice c.args.scene.now.corners.now c.args.scene.now.most c.args.scene.now.surface.now c.args.place c.args.t.now c.args.other c.in-Some.d _ x (λ e. c.if-other-place.false (sym e)) beside
    (λ s. false≢true (c.if-is_side.ensures.1 s)) (λ s. false≢true (c.if-is_side-2.ensures.1 s)) (λ x y at_x at_y. (c.if-not-may_rise.ensures x y at_x at_y).0 refl))
    (λ x. candidate_back c.args.scene.now.corners.now c.args.scene.now.most c.args.scene.now.surface.now c.args.place c.args.t.now c.args.other c.in-Some.d _ x (λ e. c.if-other-place.false (sym e)) c.requires.turned
    (λ s. false≢true (c.if-is_side.ensures.1 s)) (λ s. false≢true (c.if-is_side-2.ensures.1 s)) (λ x y at_x at_y. (c.if-not-may_rise.ensures x y at_x at_y).0 refl))
    c.in-Some-candidate_of_two.ensures.some
