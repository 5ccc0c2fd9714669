use Rattle.std.proofs.Common.{length}
use Rattle.sheet_layout.proofs.trials.+add_standings.Given as goal

abbrev pub decreases-add_standings : goal.decreases-add_standings
decreases-add_standings l = length l.left.now
