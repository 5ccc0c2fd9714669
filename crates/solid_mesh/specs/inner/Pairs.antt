-- The corners of a triangle, from any of them on, and an edge that begins at one.
use Rattle.std.specs.Prelude.{◌≡◌, ◌⊎◌, ℕ, Some, slice_get}
use Rattle.lattice.specs.declared.points.Corner.{Corner}
use Rattle.lattice.specs.declared.soup.Tri.{Tri}
use Rattle.lattice.specs.Points.{Point, point_of, AreOnePoint}
use Rattle.geometry.specs.Faces.{IsPointOfEdge, IsPointOfFace}
use Rattle.geometry.specs.Parts.{Part, IsCornerOf}

-- these are the triangle's three corners
pub record AreAt (s : Part) (t : Tri) (a b c : Corner) : Type 0 where
  pub at_a : slice_get s.corners t.a ≡ Some a
  pub at_b : slice_get s.corners t.b ≡ Some b
  pub at_c : slice_get s.corners t.c ≡ Some c

-- the edge from p, a corner of the triangle, to q has another point than p in common with it
pub record MeetBeyond (a b c p q : Corner) : Type 0 where
  pub point : Point
  pub on_edge : IsPointOfEdge p q point
  pub on_face : IsPointOfFace a b c point
  pub off : ¬ AreOnePoint (point_of p) point

-- the triangle begins at another of its three corners, or doesn't
abbrev pub IsTurn : Tri → Tri → Type 0
IsTurn t u = (u ≡ t) ⊎ (u ≡ record { a = t.b; b = t.c; c = t.a }) ⊎ (u ≡ record { a = t.c; b = t.a; c = t.b })

-- the same triangle begins at this corner, if it has it
pub record IsTurnedTo (t : Tri) (corner : ℕ) (u : Tri) : Type 0 where
  pub turn : IsTurn t u
  pub first : IsCornerOf t corner → u.a ≡ corner
