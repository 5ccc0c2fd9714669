use Rattle.std.proofs.Common.{length}
use Rattle.covered_paths.proofs.splits.+add_inserted.Given as goal

-- the places that are left
abbrev pub decreases-add_inserted : goal.decreases-add_inserted
decreases-add_inserted l = length l.sorted.now
