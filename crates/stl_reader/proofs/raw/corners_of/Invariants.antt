use Rattle.std.proofs.Common.{◌≡◌, ◌*◌, length, map, take}
use Rattle.lattice.specs.Points.{of_corner}
use Rattle.stl_reader.specs.Stl.{vertices_of}
use Rattle.stl_reader.specs.inner.Views.{of_facet}
use Rattle.stl_reader.proofs.raw.corners_of.Given as goal

abbrev pub invariant-loop-facet : goal.invariant-loop-facet
invariant-loop-facet l = record {
  items : map of_corner l.corners.items ≡ vertices_of (map of_facet (take l.facet-index l.facets));
  count : length l.corners.items ≡ 3 * l.facet-index;
}
