use Rattle.sheet_layout.proofs.rows.+clear_top.Given as goal

abbrev pub decreases-clear_top : goal.decreases-clear_top
decreases-clear_top l = l.tries
