use Rattle.std.proofs.Common.{map}
use Rattle.lattice.specs.Points.{of_corner}
use Rattle.off_reader.specs.Fans.{corners_at}
use Rattle.off_reader.proofs.Seen.{IsSeen}
use Rattle.off_reader.proofs.fan.sees_whole.Given as goal

abbrev pub invariant-loop-i : goal.invariant-loop-i
invariant-loop-i l = IsSeen (corners_at (map of_corner l.vertices) l.numbers) l.j l.i l.some
