use Rattle.std.proofs.Common.{sym, ◌∙◌, arith}
use Rattle.std.proofs.lemmas.Bool.{false≢true}
use Rattle.flip_slivers.proofs.PairLemmas.{free_partner, opposite_there, none_at, not_some}
use Rattle.flip_slivers.proofs.pairs.is_free_partner.Goals as goal
use Rattle.flip_slivers.proofs.pairs.is_free_partner.Goals.{then-place-other-via-then-place-other, then-place-other-via-else-place-other+then-is_some}

pub returns-then-place-other : goal.returns-then-place-other
returns-then-place-other c = elim c.then-place-other.branch [
  | then-place-other-via-then-place-other w ↦ (λ h. absurd (false≢true h), λ free. absurd (free.different w.if-place-other.true))
  | then-place-other-via-else-place-other+then-is_some w ↦ (λ h. absurd (false≢true h), λ free. absurd (not_some c.args.partners.now c.args.other (sym w.is_some.ensures ∙ w.if-is_some.true) free.free))
]

pub returns : goal.returns
returns c = (
  λ h. free_partner c.args.triangles.now c.args.partners.now c.args.place c.args.other _ _ c.requires.place c.requires.other
      (none_at c.args.partners.now c.args.other (omega (arith, c.requires.for_each, c.requires.other)) (sym c.is_some.ensures ∙ c.if-is_some.false)) c.if-place-other.false (c.are_opposite.ensures.0 h),
  λ free. c.are_opposite.ensures.1 (opposite_there c.args.triangles.now c.args.place c.args.other _ _ free.opposite),
)
