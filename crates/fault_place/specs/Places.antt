-- Where a fault of a surface is: at the first point of an edge that a triangle has, or in the middle of the box that two figures have in common.
use Rattle.std.specs.Prelude.{◌≡◌, ℕ, ◌+◌, ◌*◌, ℤ, pos, ◌+ℤ◌, ◌*ℤ◌, ◌≤ℤ◌, List}
use Rattle.std.specs.Int.{int_min, int_max}
use Rattle.integers.specs.Floors.{floor_of}
use Rattle.lattice.specs.declared.points.Corner.{Corner}
use Rattle.lattice.specs.Points.{Point, difference, IsNearer}
use Rattle.geometry.specs.Faces.{IsPointOfEdge, IsPointOfFace}
use Rattle.geometry.specs.Parts.{Part, Face, Edge, AreEdges, IsNumbered}
use Rattle.solid_mesh.specs.declared.faults.MeshFault.{MeshFault}
use Rattle.solid_mesh.specs.declared.faults.MeshFault.TheVariants.{Flat, SameWay, Unpaired, Double, Meet}
use Rattle.solid_mesh.specs.Meetings.{Side}

-- a figure of a surface by its corners: an edge, or a side, and a triangle
pub data Figure : Type 0 where
  stretch : Corner → Corner → Figure
  triangle : Corner → Corner → Corner → Figure

-- ---- along an axis, which takes a corner to its coordinate
-- the least and the greatest coordinate of the figure's corners
abbrev pub least_of : (Corner → ℤ) → Figure → ℤ
least_of axis (stretch p q) = int_min (axis p) (axis q)
least_of axis (triangle a b c) = int_min (int_min (axis a) (axis b)) (axis c)

abbrev pub greatest_of : (Corner → ℤ) → Figure → ℤ
greatest_of axis (stretch p q) = int_max (axis p) (axis q)
greatest_of axis (triangle a b c) = int_max (int_max (axis a) (axis b)) (axis c)

-- what two figures have in common lies from here on, and up to there
abbrev pub low_of : (Corner → ℤ) → Figure → Figure → ℤ
low_of axis f g = int_max (least_of axis f) (least_of axis g)

abbrev pub high_of : (Corner → ℤ) → Figure → Figure → ℤ
high_of axis f g = int_min (greatest_of axis f) (greatest_of axis g)

-- a point of the figure
abbrev pub IsPointOf : Figure → Point → Type 0
IsPointOf (stretch p q) = IsPointOfEdge p q
IsPointOf (triangle a b c) = IsPointOfFace a b c

-- the point is in the box that both figures have in common
pub record IsInBoth (f g : Figure) (p : Point) : Type 0 where
  pub x_from : (low_of (λ c. c.x) f g *ℤ p.w) ≤ℤ p.x
  pub x_to : p.x ≤ℤ (high_of (λ c. c.x) f g *ℤ p.w)
  pub y_from : (low_of (λ c. c.y) f g *ℤ p.w) ≤ℤ p.y
  pub y_to : p.y ≤ℤ (high_of (λ c. c.y) f g *ℤ p.w)
  pub z_from : (low_of (λ c. c.z) f g *ℤ p.w) ≤ℤ p.z
  pub z_to : p.z ≤ℤ (high_of (λ c. c.z) f g *ℤ p.w)

-- the middle, rounded down
abbrev pub middle_of : (Corner → ℤ) → Figure → Figure → ℤ
middle_of axis f g = floor_of (low_of axis f g +ℤ high_of axis f g) (pos 2)

pub record IsMiddle (f g : Figure) (place : Corner) : Type 0 where
  pub x : place.x ≡ middle_of (λ c. c.x) f g
  pub y : place.y ≡ middle_of (λ c. c.y) f g
  pub z : place.z ≡ middle_of (λ c. c.z) f g

-- ---- the figures of a fault
-- the triangle with this number
abbrev pub IsTriangle : Part → ℕ → Figure → Type 0
IsTriangle s t figure = (f : Face s) × (f.number ≡ t) × (figure ≡ triangle f.a f.b f.c)

-- the side along this half
abbrev pub IsSide : Part → ℕ → Figure → Type 0
IsSide s half figure = (e : Side s half) × (figure ≡ stretch e.p e.q)

-- the middle of some figure that is the one and some figure that is the other
abbrev pub IsBetween : (Figure → Type 0) → (Figure → Type 0) → Corner → Type 0
IsBetween P Q place = (f : Figure) × (g : Figure) × P f × Q g × IsMiddle f g place

-- ---- where an edge meets a triangle
-- the first point, from p on, that the edge from p to q has in common with the closed triangle: none is nearer to p
pub record IsFirstCommon (p q a b c : Corner) (first : Point) : Type 0 where
  pub on_edge : IsPointOfEdge p q first
  pub on_face : IsPointOfFace a b c first
  pub none_nearer : (other : Point) → IsPointOfEdge p q other → IsPointOfFace a b c other → ¬ IsNearer (difference q p) other first

-- the whole number nearest to n / d, and of two the greater; d is positive
abbrev pub nearest : ℤ → ℤ → ℤ
nearest n d = floor_of (pos 2 *ℤ n +ℤ d) (pos 2 *ℤ d)

-- the point, rounded to whole units
pub record IsRounded (p : Point) (place : Corner) : Type 0 where
  pub x : place.x ≡ nearest p.x p.w
  pub y : place.y ≡ nearest p.y p.w
  pub z : place.z ≡ nearest p.z p.w

-- the first common point, rounded
abbrev pub IsFirstPlace : Corner → Corner → Corner → Corner → Corner → Corner → Type 0
IsFirstPlace p q a b c place = (first : Point) × IsFirstCommon p q a b c first × IsRounded first place

-- that of the edge with this number, along its half, and of the triangle with this number
pub record IsMeetingPlace (s : Part) (i t : ℕ) (place : Corner) : Type 0 where
  pub halves : List ℕ
  pub are : AreEdges s halves
  pub edge : Edge s
  pub face : Face s
  pub number : IsNumbered halves i edge
  pub number_of_face : face.number ≡ t
  pub there : IsFirstPlace edge.a edge.b face.a face.b face.c place

-- ---- the place of a fault: where its edge and its triangle meet, or between its triangles, or of the one figure that it has
abbrev pub IsPlaceOf : Part → MeshFault → Corner → Type 0
IsPlaceOf s (Flat t) = IsBetween (IsTriangle s t) (IsTriangle s t)
IsPlaceOf s (SameWay a b) = IsBetween (IsTriangle s a) (IsTriangle s b)
IsPlaceOf s (Unpaired t side) = IsBetween (IsSide s (3 * t + side)) (IsSide s (3 * t + side))
IsPlaceOf s (Double a b) = IsBetween (IsTriangle s a) (IsTriangle s b)
IsPlaceOf s (Meet e t) = IsMeetingPlace s e t
