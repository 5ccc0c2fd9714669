use Rattle.std.proofs.Common.{length}
use Rattle.sheet_input.proofs.fit.+fitted.Given as goal

abbrev pub decreases-fitted : goal.decreases-fitted
decreases-fitted l = length l.others.now
