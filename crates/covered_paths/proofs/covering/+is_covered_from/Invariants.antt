use Rattle.std.proofs.Common.{length}
use Rattle.covered_paths.proofs.covering.+is_covered_from.Given as goal

-- the places that are left
abbrev pub decreases-is_covered_from : goal.decreases-is_covered_from
decreases-is_covered_from l = length l.places.now
