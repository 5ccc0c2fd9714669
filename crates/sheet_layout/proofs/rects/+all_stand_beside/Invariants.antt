use Rattle.std.proofs.Common.{length}
use Rattle.sheet_layout.proofs.rects.+all_stand_beside.Given as goal

abbrev pub decreases-all_stand_beside : goal.decreases-all_stand_beside
decreases-all_stand_beside l = length l.left.now
