use Rattle.std.proofs.Common.{get_or, refl, arith, below_more}
use Rattle.std.proofs.lemmas.Bool.{false≢true}
use Rattle.flip_slivers.specs.inner.Lists.{lists_of, list_number}
use Rattle.flip_slivers.proofs.ListLemmas.{read_within, no_side_found, no_side_read, side_of}
use Rattle.flip_slivers.proofs.lists.is_side.Goals as goal

pub bounds-surface-place : goal.bounds-surface-place
bounds-surface-place c =
    read_within c.args.surface.now (lists_of c.args.lists.now) (list_number c.args.m c.args.n) c.listed-places.result.now c.requires.listed c.listed-places.ensures c.loop-place.place-index 0 c.loop-place-test.true

pub returns-then-has_side : goal.returns-then-has_side
returns-then-has_side c =
    let i = get_or c.listed-places.result.now c.loop-place.place-index 0 in
    let below = read_within c.args.surface.now (lists_of c.args.lists.now) (list_number c.args.m c.args.n) c.listed-places.result.now c.requires.listed c.listed-places.ensures c.loop-place.place-index 0 c.loop-place-test.true in
    (λ _. side_of c.args.surface.now i c.args.m c.args.n _ below (c.if-has_side.ensures.0 refl), λ _. refl)

pub loop-place-preserved : goal.loop-place-preserved
loop-place-preserved c =
    let i = get_or c.listed-places.result.now c.loop-place.place-index 0 in
    let below = read_within c.args.surface.now (lists_of c.args.lists.now) (list_number c.args.m c.args.n) c.listed-places.result.now c.requires.listed c.listed-places.ensures c.loop-place.place-index 0 c.loop-place-test.true in
    below_more _ _ c.loop-place.invariant (no_side_read c.args.surface.now i c.args.m c.args.n _ below (λ has. false≢true (c.if-has_side.ensures.1 has)))

pub returns : goal.returns
returns c = (
  λ e. absurd (false≢true e),
  λ side. absurd (no_side_found c.args.surface.now (lists_of c.args.lists.now) c.args.m c.args.n c.listed-places.result.now c.requires.listed c.listed-places.ensures
      (λ q below. c.loop-place.invariant q (omega arith)) side),
)
