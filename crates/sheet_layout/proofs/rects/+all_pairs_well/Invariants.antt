use Rattle.std.proofs.Common.{length}
use Rattle.sheet_layout.proofs.rects.+all_pairs_well.Given as goal

abbrev pub decreases-all_pairs_well : goal.decreases-all_pairs_well
decreases-all_pairs_well l = length l.all.now
