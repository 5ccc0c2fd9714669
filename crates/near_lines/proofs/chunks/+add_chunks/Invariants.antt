use Rattle.std.proofs.Common.{length}
use Rattle.near_lines.proofs.chunks.+add_chunks.Given as goal

abbrev pub decreases-add_chunks : goal.decreases-add_chunks
decreases-add_chunks l = length l.sides.now
