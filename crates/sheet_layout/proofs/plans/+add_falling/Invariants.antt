use Rattle.std.proofs.Common.{length}
use Rattle.sheet_layout.proofs.plans.+add_falling.Given as goal

abbrev pub decreases-add_falling : goal.decreases-add_falling
decreases-add_falling l = length l.scales.now
