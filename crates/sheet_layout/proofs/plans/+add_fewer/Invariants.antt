use Rattle.sheet_layout.proofs.plans.+add_fewer.Given as goal

abbrev pub decreases-add_fewer : goal.decreases-add_fewer
decreases-add_fewer l = l.cuts
