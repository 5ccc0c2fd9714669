use Rattle.std.proofs.Common.{length}
use Rattle.sheet_layout.proofs.blocks.+column_before.Given as goal

abbrev pub decreases-column_before : goal.decreases-column_before
decreases-column_before l = length l.seats.now
