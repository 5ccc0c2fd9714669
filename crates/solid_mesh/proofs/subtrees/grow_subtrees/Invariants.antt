use Rattle.std.proofs.Common.{◌≡◌, length}
use Rattle.solid_mesh.specs.inner.Trees.{AreSubtrees}
use Rattle.solid_mesh.proofs.subtrees.grow_subtrees.Given as goal

abbrev pub invariant-loop-k : goal.invariant-loop-k
invariant-loop-k l = record { count : length l.subtrees.items ≡ l.k; subtrees : AreSubtrees l.placed l.subtrees.items }
