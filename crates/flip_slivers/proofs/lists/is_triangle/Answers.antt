use Rattle.std.proofs.Common.{get_or, arith, below_more}
use Rattle.std.proofs.lemmas.Bool.{false≢true}
use Rattle.flip_slivers.specs.inner.Lists.{lists_of, list_number}
use Rattle.flip_slivers.proofs.ListLemmas.{read_within, no_tri_found, no_tri_read}
use Rattle.flip_slivers.proofs.lists.is_triangle.Goals as goal

pub bounds-surface-place : goal.bounds-surface-place
bounds-surface-place c =
    read_within c.args.surface.now (lists_of c.args.lists.now) (list_number c.args.m c.args.n) c.listed-places.result.now c.requires.listed c.listed-places.ensures c.loop-place.place-index 0 c.loop-place-test.true

pub loop-place-preserved : goal.loop-place-preserved
loop-place-preserved c =
    let i = get_or c.listed-places.result.now c.loop-place.place-index 0 in
    let below = read_within c.args.surface.now (lists_of c.args.lists.now) (list_number c.args.m c.args.n) c.listed-places.result.now c.requires.listed c.listed-places.ensures c.loop-place.place-index 0 c.loop-place-test.true in
    below_more _ _ c.loop-place.invariant (no_tri_read c.args.surface.now i c.args.m c.args.n c.args.d _ below (λ has. false≢true (c.if-is_round.ensures.1 has)))

pub returns : goal.returns
returns c i has = absurd (no_tri_found c.args.surface.now (lists_of c.args.lists.now) c.args.m c.args.n c.args.d c.listed-places.result.now c.requires.listed c.listed-places.ensures
    (λ q below. c.loop-place.invariant q (omega arith)) i has)
