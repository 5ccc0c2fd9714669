use Rattle.std.proofs.lemmas.Int.{to_z-of_z}
use Rattle.fault_lines.proofs.lines.version_line.Goals as goal

pub returns : goal.returns
returns c = simp (to_z-of_z, c.ranges.n) at c.format.ensures.ok
