use Rattle.fault_lines.proofs.lines.plotter_line.Goals as goal

pub returns : goal.returns
returns c = simp (c.in_ok-name.ensures) at c.format.ensures.ok
