use Rattle.std.proofs.Common.{length}
use Rattle.sheet_layout.proofs.rects.+all_inside.Given as goal

abbrev pub decreases-all_inside : goal.decreases-all_inside
decreases-all_inside l = length l.all.now
