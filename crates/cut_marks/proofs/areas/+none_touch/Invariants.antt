use Rattle.std.proofs.Common.{length}
use Rattle.cut_marks.proofs.areas.+none_touch.Given as goal

abbrev pub decreases-none_touch : goal.decreases-none_touch
decreases-none_touch l = length l.marks.now
