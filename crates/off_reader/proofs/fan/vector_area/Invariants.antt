use Rattle.std.proofs.Common.{◌*◌, ◌^◌, map}
use Rattle.lattice.specs.Triple.{IsWithin}
use Rattle.lattice.specs.Points.{of_corner}
use Rattle.off_reader.specs.Fans.{corners_at}
use Rattle.off_reader.specs.inner.Fans.{of_area}
use Rattle.off_reader.proofs.Areas.{IsPart}
use Rattle.off_reader.proofs.fan.vector_area.Given as goal

abbrev pub invariant-loop-i : goal.invariant-loop-i
invariant-loop-i l = record {
  part : IsPart (corners_at (map of_corner l.vertices) l.numbers) l.i (of_area l.area);
  size : IsWithin (2 ^ 43 * l.i) (of_area l.area);
}
