use Rattle.fault_lines.proofs.lines.part_line.Goals as goal

pub returns : goal.returns
returns c = simp (c.in_ok-kind.ensures) at c.format.ensures.ok
