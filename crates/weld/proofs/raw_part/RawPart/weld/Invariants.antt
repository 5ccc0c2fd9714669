use Rattle.std.proofs.Common.{◌≤◌, length, map}
use Rattle.lattice.specs.Points.{of_corner}
use Rattle.weld.specs.inner.Numbering.{IsTied}
use Rattle.weld.proofs.WeldLemmas.{IsWelded, proper_before}
use Rattle.weld.proofs.raw_part.RawPart.weld.Given as goal

abbrev pub invariant-loop-triangle : goal.invariant-loop-triangle
invariant-loop-triangle l =
    let vertices = map of_corner l.fn.self.corners.items in
    record {
      tied : IsTied l.kept.places.keys l.kept.corners.items;
      welded : IsWelded vertices (proper_before vertices l.fn.self.triangles.items l.triangle-index) (map of_corner l.kept.corners.items) l.triangles.items;
      few : length l.triangles.items ≤ l.triangle-index;
    }
