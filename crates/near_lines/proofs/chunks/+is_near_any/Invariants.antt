use Rattle.std.proofs.Common.{length}
use Rattle.near_lines.proofs.chunks.+is_near_any.Given as goal

abbrev pub decreases-is_near_any : goal.decreases-is_near_any
decreases-is_near_any l = length l.chunks.now
