use Rattle.std.proofs.Common.{length}
use Rattle.cut_marks.proofs.asked_sides.+looking.Given as goal

abbrev pub decreases-looking : goal.decreases-looking
decreases-looking l = length l.cuts.now
