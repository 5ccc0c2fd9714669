use Rattle.std.proofs.Common.{refl}
use Rattle.near_lines.proofs.ScaleLists.{next_scale}
use Rattle.near_lines.proofs.scales.rising.Goals as goal

pub returns : goal.returns
returns c = next_scale 1 100 _ _ _ _ (next_scale 1 50 _ _ _ _ (next_scale 1 20 _ _ _ _ (next_scale 1 10 _ _ _ _ (next_scale 1 5 _ _ _ _ (next_scale 1 2 _ _ _ _ (next_scale 1 1 _ _ _ _ (next_scale 2 1 _ _ _ _ (next_scale 5 1 _ _ _ _ (next_scale 10 1 _ _ _ _ (next_scale 20 1 _ _ _ _ (next_scale 50 1 _ _ _ _ refl)))))))))))
