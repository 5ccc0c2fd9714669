-- When segments are the borders of a part, loop by loop.
use Rattle.std.specs.Prelude.{◌≡◌, ◌≢◌, ℕ, ◌+◌, ◌<◌, List, [], ◌∷◌, ◌++◌, Contains, All, AllPairs, length, map}
use Rattle.lattice.specs.declared.points.Corner.{Corner}
use Rattle.lattice.specs.declared.lines.Line.{Line}
use Rattle.lattice.specs.Lines.{IsOnLine}
use Rattle.lattice.specs.Points.{Point, of_spot}
use Rattle.lattice.specs.Cuts.{Plane, toward_of, IsOnPlane}
use Rattle.geometry.specs.Faces.{IsPointOfFace}
use Rattle.geometry.specs.Parts.{Part, Face}
use Rattle.geometry.specs.Cuts.{IsBorderOf, IsCrossed}
use Rattle.cut_plane.specs.declared.segments.Segment.{Segment}

-- the points of the face on the plane are seen on the line
abbrev pub IsBorderLine : Plane → Corner → Corner → Corner → Line → Type 0
IsBorderLine c k l m line = (p : Point) → IsPointOfFace k l m p → IsOnPlane c p → IsOnLine (toward_of c) line p

-- the segment is the border of the triangle with its number, and that triangle's points on the plane are seen on its line
pub record IsSegmentOf (c : Plane) (s : Part) (x : Segment) : Type 0 where
  pub face : Face s
  pub number : face.number ≡ x.tri
  pub border : IsBorderOf c face (of_spot x.a) (of_spot x.b)
  pub line : IsBorderLine c face.a face.b face.c x.line

-- the section has a segment: the plane crosses a triangle
abbrev pub HasSegment : Plane → Part → Type 0
HasSegment c s = (f : Face s) × IsCrossed c f

-- the triangles of the segments
abbrev pub triangles_of : List Segment → List ℕ
triangles_of xs = map (λ x. x.tri) xs

-- the first segment begins at p, each other one where the one before it ends, and the last ends at q
abbrev pub LeadFrom : Point → List Segment → Point → Type 0
LeadFrom p [] q = p ≡ q
LeadFrom p (x ∷ xs) q = (of_spot x.a ≡ p) × LeadFrom (of_spot x.b) xs q

-- the last segment ends where the first begins, and the first has the least triangle
abbrev pub IsLoop : List Segment → Type 0
IsLoop [] = ⊥
IsLoop (x ∷ xs) = LeadFrom (of_spot x.b) xs (of_spot x.a) × All (λ i. x.tri < i) (triangles_of xs)

-- the first triangle of the one loop is less than that of the other
abbrev pub BeginsBefore : List Segment → List Segment → Type 0
BeginsBefore [] ys = ⊥
BeginsBefore (x ∷ xs) [] = ⊥
BeginsBefore (x ∷ xs) (y ∷ ys) = x.tri < y.tri

-- the lists, one after the other
abbrev pub joined : List (List Segment) → List Segment
joined [] = []
joined (xs ∷ lists) = xs ++ joined lists

-- where each of them begins, if the first begins at n
abbrev pub places_from : ℕ → List (List Segment) → List ℕ
places_from n [] = []
places_from n (xs ∷ lists) = n ∷ places_from (n + length xs) lists

-- the segments are closed loops one after the other, in the order of their least triangles, and these are the places of their first segments
pub record AreLoops (segments : List Segment) (places : List ℕ) : Type 0 where
  pub lists : List (List Segment)
  pub together : segments ≡ joined lists
  pub begin : places ≡ places_from 0 lists
  pub closed : All IsLoop lists
  pub ascending : AllPairs BeginsBefore lists

-- each triangle with corners on both sides of the plane has one segment
pub record AreBorders (c : Plane) (s : Part) (segments : List Segment) (places : List ℕ) : Type 0 where
  pub each : All (IsSegmentOf c s) segments
  pub once : AllPairs (λ i j. i ≢ j) (triangles_of segments)
  pub all : (f : Face s) → IsCrossed c f → Contains (triangles_of segments) f.number
  pub loops : AreLoops segments places
