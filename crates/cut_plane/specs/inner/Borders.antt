-- The sides of a triangle that cross the plane, and its segment.
use Rattle.std.specs.Prelude.{◌≡◌, ◌⊎◌, ℕ, ◌+◌, ◌*◌, ◌/◌, ◌<◌}
use Rattle.std.proofs.Common.{zero, suc}
use Rattle.lattice.specs.declared.points.Corner.{Corner}
use Rattle.lattice.specs.Points.{point_of, of_spot}
use Rattle.lattice.specs.Cuts.{Plane, IsBeyond, IsBeforePlane}
use Rattle.geometry.specs.Parts.{Part, Face, IsTwin}
use Rattle.geometry.specs.Cuts.{GoesBeyond, crossing_of}
use Rattle.cut_plane.specs.declared.segments.Corners.{Corners}
use Rattle.cut_plane.specs.declared.segments.Segment.{Segment}
use Rattle.cut_plane.specs.Loops.{IsBorderLine}

-- a side crosses the plane, one way or the other
abbrev pub HaveBothSides : Plane → Corner → Corner → Corner → Type 0
HaveBothSides c k l m =
    let apart = λ (p q : Corner). (IsBeforePlane c (point_of p) × IsBeyond c (point_of q)) ⊎ (IsBeyond c (point_of p) × IsBeforePlane c (point_of q)) in
    apart k l ⊎ apart l m ⊎ apart m k

-- ---- triangles by their corners
pub record HasCorners {s : Part} (f : Face s) (x : Corners) : Type 0 where
  pub a : f.a ≡ x.a
  pub b : f.b ≡ x.b
  pub c : f.c ≡ x.c

-- these are the corners of the triangle with this number
pub record IsFaceAt (s : Part) (tri : ℕ) (x : Corners) : Type 0 where
  pub face : Face s
  pub number : face.number ≡ tri
  pub corners : HasCorners face x

-- where side 0, 1 or 2 begins, and where it ends
abbrev pub corner_from : Corners → ℕ → Corner
corner_from x zero = x.a
corner_from x (suc zero) = x.b
corner_from x (suc (suc side)) = x.c

abbrev pub corner_to : Corners → ℕ → Corner
corner_to x zero = x.b
corner_to x (suc zero) = x.c
corner_to x (suc (suc side)) = x.a

-- the first side goes beyond the plane, and the second comes back
pub record CrossesBySides (c : Plane) (x : Corners) (first second : ℕ) : Type 0 where
  pub first_side : first < 3
  pub second_side : second < 3
  pub goes : GoesBeyond c (corner_from x first) (corner_to x first)
  pub returns : GoesBeyond c (corner_to x second) (corner_from x second)

-- all corners are before the plane, or all are beyond it
abbrev pub IsOnOneSide : Plane → Corners → Type 0
IsOnOneSide c x =
    (IsBeforePlane c (point_of x.a) × IsBeforePlane c (point_of x.b) × IsBeforePlane c (point_of x.c))
    ⊎ (IsBeyond c (point_of x.a) × IsBeyond c (point_of x.b) × IsBeyond c (point_of x.c))

-- the segment of the triangle with these corners, between these sides
pub record IsSegmentAt (c : Plane) (tri : ℕ) (x : Corners) (first second : ℕ) (y : Segment) : Type 0 where
  pub number : y.tri ≡ tri
  pub line : IsBorderLine c x.a x.b x.c y.line
  pub from : of_spot y.a ≡ crossing_of c (corner_from x first) (corner_to x first)
  pub to : of_spot y.b ≡ crossing_of c (corner_to x second) (corner_from x second)

-- the side has a twin in the other triangle
pub record LeadsOver (s : Part) (tri side next : ℕ) : Type 0 where
  pub other : ℕ
  pub twin : IsTwin s (3 * tri + side) other
  pub there : next ≡ other / 3
