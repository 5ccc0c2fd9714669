-- Sound parts: closed ones whose edges meet faces in shared corners only.
use Rattle.std.specs.Prelude.{◌≡◌, ◌≢◌, ◌⊎◌, ℕ, ◌<◌, length, Some, slice_get}
use Rattle.lattice.specs.declared.points.Corner.{Corner}
use Rattle.lattice.specs.Points.{Point, point_of, AreOnePoint}
use Rattle.geometry.specs.Faces.{IsPointOfEdge, IsPointOfFace}
use Rattle.geometry.specs.Parts.{Part, Face, Edge, IsCornerOf, IsClosed, HasNoDouble}

-- the point is on the edge, and on a face that does not have the edge as a side
pub record MeetsFace {s : Part} (e : Edge s) (f : Face s) (q : Point) : Type 0 where
  pub not_left : f.number ≢ e.left.number
  pub not_right : f.number ≢ e.right.number
  pub on_edge : IsPointOfEdge e.a e.b q
  pub on_face : IsPointOfFace f.a f.b f.c q

-- the point is at a corner number that the edge and the face both have
pub record IsAtSharedCorner {s : Part} (e : Edge s) (f : Face s) (q : Point) : Type 0 where
  pub number : ℕ
  pub corner : Corner
  pub at : slice_get s.corners number ≡ Some corner
  pub of_edge : (e.m ≡ number) ⊎ (e.n ≡ number)
  pub of_face : IsCornerOf f.tri number
  pub here : AreOnePoint (point_of corner) q

-- edges meet faces in shared corners only
abbrev pub MeetInSharedCorners : Part → Type 0
MeetInSharedCorners s = (e : Edge s) (f : Face s) (q : Point) → MeetsFace e f q → IsAtSharedCorner e f q

-- the edge meets the face in another point
abbrev pub MeetsElsewhere : {s : Part} → Edge s → Face s → Type 0
MeetsElsewhere e f = (q : Point) × MeetsFace e f q × ¬ IsAtSharedCorner e f q

-- a surface that is closed and oriented, and doesn't fold onto itself; its edges meet faces of other edges only in corners that both have
pub record IsSound (s : Part) : Type 0 where
  pub some : 0 < length s.triangles
  pub closed : IsClosed s
  pub no_double : HasNoDouble s
  pub apart : MeetInSharedCorners s
