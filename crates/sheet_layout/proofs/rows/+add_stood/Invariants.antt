use Rattle.std.proofs.Common.{length}
use Rattle.sheet_layout.proofs.rows.+add_stood.Given as goal

abbrev pub decreases-add_stood : goal.decreases-add_stood
decreases-add_stood l = length l.seats.now
