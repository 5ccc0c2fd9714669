-- What the code's facets stand for.
use Rattle.lattice.specs.Points.{of_corner}
use Rattle.lattice.specs.Triple.{Triple}
use Rattle.stl_reader.specs.declared.facets.Facet.{Facet}

abbrev pub of_facet : Facet → Triple × Triple × Triple
of_facet f = (of_corner f.a, of_corner f.b, of_corner f.c)
