use Rattle.std.proofs.Common.{refl, ⊎_elim}
use Rattle.std.proofs.lemmas.Bool.{false≢true}
use Rattle.flip_slivers.proofs.MeasureLemmas.{first_rises, second_rises, rise_less, rise_less_first}
use Rattle.flip_slivers.proofs.OneHeight.{no_side_no_area}
use Rattle.flip_slivers.proofs.measures.rises.Goals as goal

pub is_less-one-requires : goal.is_less-one-requires
is_less-one-requires c = no_side_no_area c.args.corners.now c.args.u.now _ _ c.height_at-here.ensures

pub is_less-other-requires : goal.is_less-other-requires
is_less-other-requires c = no_side_no_area c.args.corners.now c.args.u.now _ _ c.height_at-here.ensures

pub returns-then-not-other : goal.returns-then-not-other
returns-then-not-other c s t first second = (
  λ e. absurd (false≢true e),
  λ rise. absurd (⊎_elim (λ less. false≢true (c.if-not-one.ensures.1 less)) (λ less. false≢true (c.if-not-other.ensures.1 less))
      (rise_less_first c.args.corners.now s t c.args.u.now c.args.v.now c.args.first.now c.args.second.now c.height_at-here.result c.height_at-here.ensures first second rise)),
)

pub is_below_both-requires-clause-one : goal.is_below_both-requires-clause-one
is_below_both-requires-clause-one c = no_side_no_area c.args.corners.now c.args.u.now _ _ c.height_at-here.ensures

pub is_below_both-requires-clause-other : goal.is_below_both-requires-clause-other
is_below_both-requires-clause-other c = no_side_no_area c.args.corners.now c.args.v.now _ _ c.height_at-there.ensures

pub is_below_both-requires-2-clause-one : goal.is_below_both-requires-2-clause-one
is_below_both-requires-2-clause-one c = no_side_no_area c.args.corners.now c.args.u.now _ _ c.height_at-here.ensures

pub is_below_both-requires-2-clause-other : goal.is_below_both-requires-2-clause-other
is_below_both-requires-2-clause-other c = no_side_no_area c.args.corners.now c.args.v.now _ _ c.height_at-there.ensures

pub returns-then-is_below_both : goal.returns-then-is_below_both
returns-then-is_below_both c s t first second = (
  λ _. first_rises c.args.corners.now s t c.args.u.now c.args.v.now c.args.first.now c.height_at-here.result c.height_at-there.result (record { first = c.height_at-here.ensures; second = c.height_at-there.ensures }) first
      (c.if-is_below_both.ensures.0 refl),
  λ _. refl,
)

pub returns : goal.returns
returns c s t first second = (
  λ e. second_rises c.args.corners.now s t c.args.u.now c.args.v.now c.args.second.now c.height_at-here.result c.height_at-there.result (record { first = c.height_at-here.ensures; second = c.height_at-there.ensures }) second
      (c.is_below_both-2.ensures.0 e),
  λ rise. ⊎_elim (λ less. absurd (false≢true (c.if-is_below_both.ensures.1 less))) (λ less. c.is_below_both-2.ensures.1 less)
      (rise_less c.args.corners.now s t c.args.u.now c.args.v.now c.args.first.now c.args.second.now c.height_at-here.result c.height_at-there.result
      (record { first = c.height_at-here.ensures; second = c.height_at-there.ensures }) first second rise),
)
