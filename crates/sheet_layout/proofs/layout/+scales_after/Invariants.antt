use Rattle.std.proofs.Common.{length}
use Rattle.sheet_layout.proofs.layout.+scales_after.Given as goal

abbrev pub decreases-scales_after : goal.decreases-scales_after
decreases-scales_after l = length l.scales.now
