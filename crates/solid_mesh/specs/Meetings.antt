-- Where a side and a triangle of a soup meet, and how many pairs there are at most.
use Rattle.std.specs.Prelude.{◌≡◌, ◌≢◌, ◌⊎◌, ℕ, ◌≤◌, List, length, Some, slice_get, All, AllPairs}
use Rattle.lattice.specs.declared.points.Corner.{Corner}
use Rattle.lattice.specs.Points.{Point, point_of, AreOnePoint}
use Rattle.geometry.specs.Faces.{IsPointOfEdge, IsPointOfFace}
use Rattle.geometry.specs.Parts.{Part, Face, IsHalf, IsCornerOf}
use Rattle.meeting.specs.Boxes.{BoxesMeet, CoordinatesMeet}

-- a half with its two corners
pub record Side (s : Part) (half : ℕ) : Type 0 where
  pub m : ℕ
  pub n : ℕ
  pub p : Corner
  pub q : Corner
  pub goes : IsHalf s half m n
  pub at_m : slice_get s.corners m ≡ Some p
  pub at_n : slice_get s.corners n ≡ Some q

-- both of the side's corners are the triangle's: the triangle has it as a side, in one direction or the other
abbrev pub HasSide : {s : Part} {half : ℕ} → Face s → Side s half → Type 0
HasSide f e = IsCornerOf f.tri e.m × IsCornerOf f.tri e.n

-- a point of the side and of the triangle is not at a corner number that both have, and the triangle does not have the side
pub record MeetApart (s : Part) (half tri : ℕ) : Type 0 where
  pub side : Side s half
  pub face : Face s
  pub numbered : face.number ≡ tri
  pub not_side : ¬ HasSide face side
  pub point : Point
  pub on_side : IsPointOfEdge side.p side.q point
  pub on_face : IsPointOfFace face.a face.b face.c point
  pub apart : (k : ℕ) (c : Corner) → slice_get s.corners k ≡ Some c → (side.m ≡ k) ⊎ (side.n ≡ k) → IsCornerOf face.tri k → ¬ AreOnePoint (point_of c) point

-- the closed boxes of the side and of the triangle have a common point
pub record HaveCommonBox (s : Part) (half tri : ℕ) : Type 0 where
  pub side : Side s half
  pub face : Face s
  pub numbered : face.number ≡ tri
  pub meet : BoxesMeet face.a face.b face.c side.p side.q

-- their closed ranges of x have a common number
pub record HaveCommonX (s : Part) (half tri : ℕ) : Type 0 where
  pub side : Side s half
  pub face : Face s
  pub numbered : face.number ≡ tri
  pub meet : CoordinatesMeet face.a.x face.b.x face.c.x side.p.x side.q.x

-- n is at most the number of pairs of an edge, by its half in this list, and a triangle of which it holds:
-- it is at most the length of some list of such pairs without a repetition
pub record IsAtMostPairs (P : ℕ → ℕ → Type 0) (halves : List ℕ) (n : ℕ) : Type 0 where
  pub pairs : List (ℕ × ℕ)
  pub hold : All (λ p. ((half : ℕ) × (slice_get halves p.0 ≡ Some half) × P half p.1)) pairs
  pub differ : AllPairs (λ p q. p ≢ q) pairs
  pub most : n ≤ length pairs
