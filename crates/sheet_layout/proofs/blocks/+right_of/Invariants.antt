use Rattle.std.proofs.Common.{length}
use Rattle.sheet_layout.proofs.blocks.+right_of.Given as goal

abbrev pub decreases-right_of : goal.decreases-right_of
decreases-right_of l = length l.seats.now
