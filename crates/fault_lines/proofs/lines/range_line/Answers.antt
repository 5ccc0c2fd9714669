use Rattle.fault_lines.proofs.lines.range_line.Goals as goal

pub returns : goal.returns
returns c = simp (c.axis_text-axis.ensures) at c.format.ensures.ok
