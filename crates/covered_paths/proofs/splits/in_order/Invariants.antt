use Rattle.std.proofs.Common.{◌≡◌, [], drop}
use Rattle.covered_paths.specs.Splits.{insert_all}
use Rattle.covered_paths.proofs.splits.in_order.Given as goal

-- what is left goes among those so far
abbrev pub invariant-loop-place : goal.invariant-loop-place
invariant-loop-place l = insert_all l.sorted.items (drop l.place-index l.splits) ≡ insert_all [] l.splits
