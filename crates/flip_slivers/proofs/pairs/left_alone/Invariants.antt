use Rattle.std.proofs.Common.{◌≡◌, ◌++◌, drop}
use Rattle.flip_slivers.specs.Pairs.{alone}
use Rattle.flip_slivers.proofs.pairs.left_alone.Given as goal

abbrev pub invariant-loop-place : goal.invariant-loop-place
invariant-loop-place l = l.left.items ++ alone (drop l.place l.triangles) (drop l.place l.partners) ≡ alone l.triangles l.partners
