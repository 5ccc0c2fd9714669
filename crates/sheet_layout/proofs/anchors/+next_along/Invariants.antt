use Rattle.std.proofs.Common.{length}
use Rattle.sheet_layout.proofs.anchors.+next_along.Given as goal

abbrev pub decreases-next_along : goal.decreases-next_along
decreases-next_along l = length l.views.now
