use Rattle.std.proofs.Common.{length}
use Rattle.sheet_layout.proofs.blocks.+row_before.Given as goal

abbrev pub decreases-row_before : goal.decreases-row_before
decreases-row_before l = length l.seats.now
