-- A part: corners and the triangles between them, its sides and edges, when it is closed, and when triangles have the same corners.
use Rattle.std.specs.Prelude.{◌≡◌, ◌⊎◌, ◌↔◌, ℕ, ◌<◌, ◌/◌, ◌%◌, List, Contains, Some, slice_get}
use Rattle.std.specs.List.Sorted.{IsStrictlyIncreasing}
use Rattle.std.proofs.Common.{zero, suc}
use Rattle.lattice.specs.declared.points.Corner.{Corner}
use Rattle.lattice.specs.declared.soup.Tri.{Tri}
use Rattle.lattice.specs.declared.soup.Soup.{Soup}
use Rattle.geometry.specs.Faces.{IsFlat}

pub record Part : Type 0 where
  pub corners : List Corner
  pub triangles : List Tri

abbrev pub part_with : List Corner → List Tri → Part
part_with corners triangles = record { corners = corners; triangles = triangles }

abbrev pub part_of : Soup → Part
part_of s = part_with s.corners.items s.triangles.items

-- ---- halves: the directed sides, in the order of the triangles
-- where side 0, 1 or 2 of a triangle begins, and where it ends
abbrev pub start_of : Tri → ℕ → ℕ
start_of t zero = t.a
start_of t (suc zero) = t.b
start_of t (suc (suc side)) = t.c

abbrev pub end_of : Tri → ℕ → ℕ
end_of t zero = t.b
end_of t (suc zero) = t.c
end_of t (suc (suc side)) = t.a

-- half 3t + s of the part is side s of triangle t; it goes from corner m to corner n
pub record IsHalf (s : Part) (half m n : ℕ) : Type 0 where
  pub tri : Tri
  pub at : slice_get s.triangles (half / 3) ≡ Some tri
  pub start : start_of tri (half % 3) ≡ m
  pub end : end_of tri (half % 3) ≡ n

-- the two halves go between the same two corners, one there and one back
pub record IsTwin (s : Part) (half other : ℕ) : Type 0 where
  pub m : ℕ
  pub n : ℕ
  pub goes : IsHalf s half m n
  pub returns : IsHalf s other n m

-- ---- faces and edges
-- a triangle of the part, with its number and its three corners
pub record Face (s : Part) : Type 0 where
  pub number : ℕ
  pub tri : Tri
  pub a : Corner
  pub b : Corner
  pub c : Corner
  pub listed : slice_get s.triangles number ≡ Some tri
  pub at_a : slice_get s.corners tri.a ≡ Some a
  pub at_b : slice_get s.corners tri.b ≡ Some b
  pub at_c : slice_get s.corners tri.c ≡ Some c

-- an edge: two twin halves, with their corners and their two faces
pub record Edge (s : Part) : Type 0 where
  pub half : ℕ
  pub other : ℕ
  pub m : ℕ
  pub n : ℕ
  pub a : Corner
  pub b : Corner
  pub left : Face s
  pub right : Face s
  pub goes : IsHalf s half m n
  pub returns : IsHalf s other n m
  pub on_left : left.number ≡ half / 3
  pub on_right : right.number ≡ other / 3
  pub at_m : slice_get s.corners m ≡ Some a
  pub at_n : slice_get s.corners n ≡ Some b

-- the edges of a part by the lower of their two halves, in order: a half is listed exactly if it is lower than a twin of it
pub record AreEdges (s : Part) (halves : List ℕ) : Type 0 where
  pub ascending : IsStrictlyIncreasing halves
  pub exactly : (half : ℕ) → Contains halves half ↔ ((other : ℕ) × IsTwin s half other × (half < other))

-- the edge's number is the place of its half in the list
abbrev pub IsNumbered : {s : Part} → List ℕ → ℕ → Edge s → Type 0
IsNumbered halves i e = slice_get halves i ≡ Some e.half

-- ---- closed parts
abbrev pub HasNoFlatTriangle : Part → Type 0
HasNoFlatTriangle s = (f : Face s) → ¬ IsFlat f.a f.b f.c

abbrev pub HasNoSideTwice : Part → Type 0
HasNoSideTwice s = (half other m n : ℕ) → IsHalf s half m n → IsHalf s other m n → half ≡ other

-- closed and oriented: no triangle is flat, and each directed side occurs once, and so does its reverse
pub record IsClosed (s : Part) : Type 0 where
  pub none_flat : HasNoFlatTriangle s
  pub once : HasNoSideTwice s
  pub returns : (half m n : ℕ) → IsHalf s half m n → (other : ℕ) × IsHalf s other n m

-- ---- triangles on the same corners
-- one of the triangle's three corner numbers
abbrev pub IsCornerOf : Tri → ℕ → Type 0
IsCornerOf t n = (t.a ≡ n) ⊎ (t.b ≡ n) ⊎ (t.c ≡ n)

-- the triangles with these numbers have the same three corner numbers
pub record AreDouble (s : Part) (i j : ℕ) : Type 0 where
  pub first : Tri
  pub second : Tri
  pub at_first : slice_get s.triangles i ≡ Some first
  pub at_second : slice_get s.triangles j ≡ Some second
  pub same : (n : ℕ) → IsCornerOf first n ↔ IsCornerOf second n

abbrev pub HasNoDouble : Part → Type 0
HasNoDouble s = (i j : ℕ) → AreDouble s i j → i ≡ j
