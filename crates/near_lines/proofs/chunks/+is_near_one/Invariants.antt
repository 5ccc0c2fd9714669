use Rattle.std.proofs.Common.{length}
use Rattle.near_lines.proofs.chunks.+is_near_one.Given as goal

abbrev pub decreases-is_near_one : goal.decreases-is_near_one
decreases-is_near_one l = length l.sides.now
