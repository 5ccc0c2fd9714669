use Rattle.std.proofs.Common.{length}
use Rattle.sheet_layout.proofs.layout.+cuts_among.Given as goal

abbrev pub decreases-cuts_among : goal.decreases-cuts_among
decreases-cuts_among l = length l.views.now
