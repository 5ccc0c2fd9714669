use Rattle.std.proofs.Common.{length}
use Rattle.sheet_layout.proofs.rows.+is_top_in_line.Given as goal

abbrev pub decreases-is_top_in_line : goal.decreases-is_top_in_line
decreases-is_top_in_line l = length l.stood.now
