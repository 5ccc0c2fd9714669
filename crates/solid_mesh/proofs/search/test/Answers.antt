use Rattle.std.proofs.Common.{ℕ, Some, refl, sym, subst, ◌∙◌, true≢false}
use Rattle.std.proofs.lemmas.Option.{slice_get_within}
use Rattle.geometry.specs.Parts.{part_of}
use Rattle.solid_mesh.specs.Meetings.{MeetApart}
use Rattle.solid_mesh.specs.inner.Searches.{AtHalf, IsPair}
use Rattle.solid_mesh.proofs.BoundLemmas.{common_x, common_box, bounds_of_apart, within_itself}
use Rattle.solid_mesh.proofs.CornerLemmas.{apart_by_bounds}
use Rattle.solid_mesh.proofs.Growing.{some_same}
use Rattle.solid_mesh.proofs.Placing.{tri_within}
use Rattle.solid_mesh.proofs.Searching.{searched-apart, tested-apart, tested-later, tested-missed, tested-found}
use Rattle.solid_mesh.proofs.search.test.Goals as goal

pub returns-then-not-ranges_meet-clause-searched : goal.returns-then-not-ranges_meet-clause-searched
returns-then-not-ranges_meet-clause-searched c =
    let s = part_of c.args.soup.now in
    let halves = c.args.halves.now in
    searched-apart s halves (IsPair s halves c.args.edge c.args.placed.now.tri)
    (λ p (is, common) meets.
    let bounds = bounds_of_apart s halves c.args.edge c.args.reach.now c.requires.reach c.args.placed.now c.requires.placed (subst (λ (q : ℕ × ℕ). AtHalf (MeetApart s) halves q) is meets) in
    true≢false (sym (c.ranges_meet.ensures.1 bounds.x) ∙ c.if-not-ranges_meet.true)) c.args.found.now

pub returns-then-not-bounds_meet-clause-searched : goal.returns-then-not-bounds_meet-clause-searched
returns-then-not-bounds_meet-clause-searched c =
    let s = part_of c.args.soup.now in
    let halves = c.args.halves.now in
    tested-apart s halves c.args.edge c.args.placed.now.tri (slice_get_within halves c.args.edge c.requires.reach.half c.requires.reach.listed)
    (common_x s halves c.args.edge c.args.reach.now c.requires.reach c.args.placed.now c.requires.placed (c.ranges_meet.ensures.0 c.if-not-ranges_meet.false)) c.args.found.now _ refl
    (λ meets. true≢false (sym (c.bounds_meet.ensures.1 (bounds_of_apart s halves c.args.edge c.args.reach.now c.requires.reach c.args.placed.now c.requires.placed meets)) ∙ c.if-not-bounds_meet.true)) refl refl

pub returns-then-is_apart-clause-searched : goal.returns-then-is_apart-clause-searched
returns-then-is_apart-clause-searched c =
    let s = part_of c.args.soup.now in
    let halves = c.args.halves.now in
    let x = c.args.placed.now in
    tested-apart s halves c.args.edge x.tri (slice_get_within halves c.args.edge c.requires.reach.half c.requires.reach.listed)
    (common_x s halves c.args.edge c.args.reach.now c.requires.reach x c.requires.placed (c.ranges_meet.ensures.0 c.if-not-ranges_meet.false)) c.args.found.now _ refl
    (apart_by_bounds s halves c.args.edge c.args.reach.now c.requires.reach x c.requires.placed x.bounds (within_itself x.bounds) (Some x.corner) x.at
    (λ n is. (some_same x.corner n is, refl)) x.rim (within_itself x.rim) (c.is_apart.ensures c.if-is_apart.true)) refl refl

pub returns-then-not-comes_before-clause-searched : goal.returns-then-not-comes_before-clause-searched
returns-then-not-comes_before-clause-searched c =
    let s = part_of c.args.soup.now in
    let halves = c.args.halves.now in
    tested-later s halves c.args.edge c.args.placed.now.tri (slice_get_within halves c.args.edge c.requires.reach.half c.requires.reach.listed)
    (common_x s halves c.args.edge c.args.reach.now c.requires.reach c.args.placed.now c.requires.placed (c.ranges_meet.ensures.0 c.if-not-ranges_meet.false)) c.args.found.now _ refl
    (λ h. true≢false (sym (c.comes_before.ensures.1 h) ∙ c.if-not-comes_before.true)) refl refl

pub bounds-halves-edge : goal.bounds-halves-edge
bounds-halves-edge c = slice_get_within c.args.halves.now c.args.edge c.requires.reach.half c.requires.reach.listed

pub pair_test-requires-clause-tri : goal.pair_test-requires-clause-tri
pair_test-requires-clause-tri c = tri_within (part_of c.args.soup.now) c.args.placed.now c.requires.placed

pub returns-then-pair_test-clause-searched : goal.returns-then-pair_test-clause-searched
returns-then-pair_test-clause-searched c =
    let s = part_of c.args.soup.now in
    let halves = c.args.halves.now in
    tested-found s halves c.args.edge c.args.placed.now.tri (slice_get_within halves c.args.edge c.requires.reach.half c.requires.reach.listed)
    (common_x s halves c.args.edge c.args.reach.now c.requires.reach c.args.placed.now c.requires.placed (c.ranges_meet.ensures.0 c.if-not-ranges_meet.false)) c.args.found.now _ c.pair_test.ensures.boxes
    (common_box s halves c.args.edge c.args.reach.now c.requires.reach c.args.placed.now c.requires.placed (c.bounds_meet.ensures.0 c.if-not-bounds_meet.false))
    (c.pair_test.ensures.value.0 c.if-pair_test.true) c.pair_test.ensures.pairs (c.comes_before.ensures.0 c.if-not-comes_before.false) refl

pub returns-else-pair_test-clause-searched : goal.returns-else-pair_test-clause-searched
returns-else-pair_test-clause-searched c =
    let s = part_of c.args.soup.now in
    let halves = c.args.halves.now in
    tested-missed s halves c.args.edge c.args.placed.now.tri (slice_get_within halves c.args.edge c.requires.reach.half c.requires.reach.listed)
    (common_x s halves c.args.edge c.args.reach.now c.requires.reach c.args.placed.now c.requires.placed (c.ranges_meet.ensures.0 c.if-not-ranges_meet.false)) c.args.found.now _ c.pair_test.ensures.boxes
    (common_box s halves c.args.edge c.args.reach.now c.requires.reach c.args.placed.now c.requires.placed (c.bounds_meet.ensures.0 c.if-not-bounds_meet.false))
    (λ h. true≢false (sym (c.pair_test.ensures.value.1 h) ∙ c.if-pair_test.false)) c.pair_test.ensures.pairs refl
