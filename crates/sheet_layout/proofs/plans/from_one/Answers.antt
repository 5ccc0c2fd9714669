use Rattle.std.proofs.Common.{refl}
use Rattle.sheet_layout.proofs.Scales.{one_scale, both_same}
use Rattle.sheet_layout.proofs.plans.from_one.Goals as goal

pub returns : goal.returns
returns c = (both_same _ _ _ _ (one_scale 1 1 _ _) (both_same _ _ _ _ (one_scale 1 2 _ _) (both_same _ _ _ _ (one_scale 1 5 _ _) (both_same _ _ _ _ (one_scale 1 10 _ _) (both_same _ _ _ _ (one_scale 1 20 _ _) (both_same _ _ _ _ (one_scale 1 50 _ _) (both_same _ _ _ _ (one_scale 1 100 _ _) refl)))))))
