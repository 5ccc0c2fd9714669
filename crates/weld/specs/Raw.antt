-- What a text of a part says.
use Rattle.std.specs.Prelude.{List, map}
use Rattle.lattice.specs.declared.soup.Tri.{Tri}
use Rattle.lattice.specs.Points.{of_corner}
use Rattle.lattice.specs.Triple.{Triple}
use Rattle.weld.specs.declared.raw_part.RawPart.{RawPart}

-- vertices in units, and triangles by the numbers of their corners
pub record Raw : Type 0 where
  pub vertices : List Triple
  pub triangles : List Tri

abbrev pub seen : RawPart → Raw
seen raw = record { vertices = map of_corner raw.corners.items; triangles = raw.triangles.items }
