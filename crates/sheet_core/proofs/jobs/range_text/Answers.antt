use Rattle.sheet_core.proofs.jobs.range_text.Goals as goal

pub returns : goal.returns
returns c = simp (c.axis_text-axis.ensures) at c.format.ensures.ok
