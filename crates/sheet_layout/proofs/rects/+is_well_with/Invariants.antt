use Rattle.std.proofs.Common.{length}
use Rattle.sheet_layout.proofs.rects.+is_well_with.Given as goal

abbrev pub decreases-is_well_with : goal.decreases-is_well_with
decreases-is_well_with l = length l.others.now
