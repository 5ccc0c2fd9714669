use Rattle.std.proofs.Common.{length}
use Rattle.sheet_layout.proofs.plans.+add_at_scales.Given as goal

abbrev pub decreases-add_at_scales : goal.decreases-add_at_scales
decreases-add_at_scales l = length l.scales.now
