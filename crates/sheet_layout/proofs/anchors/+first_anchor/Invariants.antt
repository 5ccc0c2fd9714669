use Rattle.std.proofs.Common.{length}
use Rattle.sheet_layout.proofs.anchors.+first_anchor.Given as goal

abbrev pub decreases-first_anchor : goal.decreases-first_anchor
decreases-first_anchor l = length l.views.now
