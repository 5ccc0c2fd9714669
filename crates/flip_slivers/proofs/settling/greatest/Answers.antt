use Rattle.std.proofs.Common.{refl, inl, inr, arith}
use Rattle.flip_slivers.proofs.SettlingLemmas.{greatest_of_all, more_greatest}
use Rattle.flip_slivers.proofs.settling.greatest.Goals as goal
use Rattle.flip_slivers.proofs.settling.greatest.Goals.{then-x-most, else-x-most}

pub loop-x-init : goal.loop-x-init
loop-x-init c = record { none_greater = λ k d h. absurd (omega arith); carried = inl refl }

pub loop-x-preserved : goal.loop-x-preserved
loop-x-preserved c =
    more_greatest c.args.surface.now c.loop-x.x-index c.loop-x.most c.if-x-most.most _ c.loop-x-test.true c.loop-x.invariant
    (elim c.if-x-most.branch [ then-x-most w ↦ inl (w.if-x-most.true, w.most-is) | else-x-most w ↦ inr (w.if-x-most.false, w.most-is) ])

pub returns : goal.returns
returns c = greatest_of_all c.args.surface.now c.loop-x.x-index c.loop-x.most c.loop-x-test.false c.loop-x.invariant
