use Rattle.std.proofs.Common.{ℕ, ◌<◌, map}
use Rattle.lattice.specs.Points.{of_corner}
use Rattle.off_reader.specs.Fans.{corners_at, SeesWhole}
use Rattle.off_reader.proofs.fan.fan.Given as goal

abbrev pub invariant-loop-j : goal.invariant-loop-j
invariant-loop-j l = (i : ℕ) → i < l.j → ¬ SeesWhole (corners_at (map of_corner l.vertices) l.numbers) i
