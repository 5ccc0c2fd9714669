use Rattle.std.proofs.Common.{inl, inr}
use Rattle.std.proofs.lemmas.Bool.{false≢true}
use Rattle.flip_slivers.proofs.OneHeight.{less_sides}
use Rattle.flip_slivers.proofs.heights.is_less_by_ratio.Goals as goal
use Rattle.flip_slivers.proofs.heights.is_less_by_ratio.Goals.{then-h-eq0-via-then-h-eq0, then-h-eq0-via-else-h-eq0+then-k-eq0}

pub returns-then-h-eq0 : goal.returns-then-h-eq0
returns-then-h-eq0 c = (
  λ h. absurd (false≢true h),
  λ less. absurd (less_sides c.args.h.now.area c.args.h.now.side c.args.k.now.area c.args.k.now.side c.requires less
      (elim c.then-h-eq0.branch [ then-h-eq0-via-then-h-eq0 w ↦ inl w.if-h-eq0.true | then-h-eq0-via-else-h-eq0+then-k-eq0 w ↦ inr w.if-k-eq0.true ])),
)
