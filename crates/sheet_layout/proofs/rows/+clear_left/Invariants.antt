use Rattle.sheet_layout.proofs.rows.+clear_left.Given as goal

abbrev pub decreases-clear_left : goal.decreases-clear_left
decreases-clear_left l = l.tries
