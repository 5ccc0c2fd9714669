use Rattle.lattice.specs.Points.{of_dir}
use Rattle.line_merge.specs.Merging.{AreStrips}
use Rattle.test_parts.proofs.merges.strips.Given as goal

-- they are strips so far
abbrev pub invariant-loop-u : goal.invariant-loop-u
invariant-loop-u g l = AreStrips (of_dir l.d) l.strips.items
