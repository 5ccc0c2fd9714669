use Rattle.std.proofs.Common.{length}
use Rattle.near_lines.proofs.scales.+first_apart.Given as goal

abbrev pub decreases-first_apart : goal.decreases-first_apart
decreases-first_apart l = length l.scales.now
