-- The common points of edges and triangles.
use Rattle.lattice.specs.declared.points.Corner.{Corner}
use Rattle.lattice.specs.Points.{Point, point_of, AreOnePoint}
use Rattle.geometry.specs.Faces.{IsPointOfEdge, IsPointOfFace}

-- an edge and a triangle have a common point
pub record Touch (a b c p q : Corner) : Type 0 where
  pub point : Point
  pub on_edge : IsPointOfEdge p q point
  pub on_face : IsPointOfFace a b c point

-- an edge from the triangle's corner a has another point in common with it
pub record TouchBeyond (a b c q : Corner) : Type 0 where
  pub point : Point
  pub on_edge : IsPointOfEdge a q point
  pub on_face : IsPointOfFace a b c point
  pub off : ¬ AreOnePoint (point_of a) point
