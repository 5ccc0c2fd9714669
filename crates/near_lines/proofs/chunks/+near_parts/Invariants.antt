use Rattle.near_lines.proofs.chunks.+near_parts.Given as goal

abbrev pub decreases-near_parts : goal.decreases-near_parts
decreases-near_parts l = l.k
