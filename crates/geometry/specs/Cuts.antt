-- What a cut leaves of a part: its borders, its section, and what is drawn, hidden and ordinary there.
use Rattle.std.specs.Prelude.{◌≡◌, ◌⊎◌, ℕ, ◌<◌, ◌%◌, ℤ, pos, ◌-ℤ◌, ◌*ℤ◌, ◌<ℤ◌, unsigned_abs, List, [], ◌∷◌, Contains}
use Rattle.std.proofs.Common.{zero, suc}
use Rattle.lattice.specs.declared.points.Corner.{Corner}
use Rattle.lattice.specs.declared.soup.Tri.{Tri}
use Rattle.lattice.specs.Triple.{Triple, cross, det}
use Rattle.lattice.specs.Points.{Point, point_of, height_of, across_of, upward_of, OnOneSight, IsNearer}
use Rattle.lattice.specs.Cuts.{Plane, toward_of, plane_height, IsBeyond, IsOnPlane, IsBeforePlane}
use Rattle.geometry.specs.Faces.{difference, normal, edge_sum, IsPointOfFace, IsPointOfEdge}
use Rattle.geometry.specs.Parts.{Part, Face, Edge}
use Rattle.geometry.specs.Views.{IsDrawn}

-- ---- borders
-- a point of the closed face on the plane
abbrev pub IsOnBorder : Plane → {s : Part} → Face s → Point → Type 0
IsOnBorder c f p = IsPointOfFace f.a f.b f.c p × IsOnPlane c p

abbrev pub IsBorderPoint : Plane → Part → Point → Type 0
IsBorderPoint c s p = (f : Face s) × IsOnBorder c f p

-- where side 0, 1 or 2 of a face begins, and where it ends
abbrev pub start_corner : {s : Part} → Face s → ℕ → Corner
start_corner f zero = f.a
start_corner f (suc zero) = f.b
start_corner f (suc (suc side)) = f.c

abbrev pub end_corner : {s : Part} → Face s → ℕ → Corner
end_corner f zero = f.b
end_corner f (suc zero) = f.c
end_corner f (suc (suc side)) = f.a

-- twice the height of a corner above the plane
abbrev pub over_of : Plane → Corner → ℤ
over_of c k = (pos 2 *ℤ height_of (toward_of c) (point_of k)) -ℤ plane_height c

-- the way from k to l crosses the plane and goes beyond it
abbrev pub GoesBeyond : Plane → Corner → Corner → Type 0
GoesBeyond c k l = IsBeforePlane c (point_of k) × IsBeyond c (point_of l)

-- the point of that way on the plane: each corner with the other's distance as its weight
abbrev pub crossing_of : Plane → Corner → Corner → Point
crossing_of c k l = edge_sum k l (unsigned_abs (over_of c l)) (unsigned_abs (over_of c k))

-- The border of a face with corners on both sides of the plane: from p, where a side goes beyond the plane, to q, where a
-- side comes back. So the viewer sees the face's normal to the right of it.
pub record IsBorderOf (c : Plane) {s : Part} (f : Face s) (p q : Point) : Type 0 where
  pub first : ℕ
  pub second : ℕ
  pub first_side : first < 3
  pub second_side : second < 3
  pub goes : GoesBeyond c (start_corner f first) (end_corner f first)
  pub returns : GoesBeyond c (end_corner f second) (start_corner f second)
  pub from : p ≡ crossing_of c (start_corner f first) (end_corner f first)
  pub to : q ≡ crossing_of c (end_corner f second) (start_corner f second)

-- a corner is before the plane, and a corner is beyond it
pub record IsCrossed (c : Plane) {s : Part} (f : Face s) : Type 0 where
  pub before : IsBeforePlane c (point_of f.a) ⊎ IsBeforePlane c (point_of f.b) ⊎ IsBeforePlane c (point_of f.c)
  pub beyond : IsBeyond c (point_of f.a) ⊎ IsBeyond c (point_of f.b) ⊎ IsBeyond c (point_of f.c)

-- ---- the section
-- p is to the left of the face's border, which has a point to its right, at its V, and goes on above it: the border counts
-- at the V of its lower end and not at that of its upper end, and a level one never does
pub record IsLeftOfBorder (c : Plane) {s : Part} (f : Face s) (p : Point) : Type 0 where
  pub right : Point
  pub above : Point
  pub right_on : IsOnBorder c f right
  pub above_on : IsOnBorder c f above
  pub same_upward : upward_of (toward_of c) right *ℤ p.w ≡ upward_of (toward_of c) p *ℤ right.w
  pub more_across : (across_of (toward_of c) p *ℤ right.w) <ℤ (across_of (toward_of c) right *ℤ p.w)
  pub more_upward : (upward_of (toward_of c) p *ℤ above.w) <ℤ (upward_of (toward_of c) above *ℤ p.w)

-- P holds of n elements of the list
pub data IsCount (A : Type 0) (P : A → Type 0) : List A → ℕ → Type 0 where
  nothing : IsCount A P [] 0
  counted : (x : A) (xs : List A) (n : ℕ) → P x → IsCount A P xs n → IsCount A P (x ∷ xs) (suc n)
  skipped : (x : A) (xs : List A) (n : ℕ) → ¬ P x → IsCount A P xs n → IsCount A P (x ∷ xs) n

-- the triangle's border is to the right of p
abbrev pub HasBorderRightOf : Plane → (s : Part) → Point → Tri → Type 0
HasBorderRightOf c s p t = (f : Face s) × (f.tri ≡ t) × IsLeftOfBorder c f p

-- an odd number of borders are to its right
abbrev pub IsInSection : Plane → Part → Point → Type 0
IsInSection c s p = (n : ℕ) × IsCount Tri (HasBorderRightOf c s p) s.triangles n × (n % 2 ≡ 1)

-- ---- what is drawn and hidden
-- a point of a drawn edge beyond the plane, or a border point
abbrev pub IsDrawnInCut : Plane → ℕ → Part → Point → Type 0
IsDrawnInCut c fraction s p =
    ((e : Edge s) × IsDrawn (toward_of c) fraction e × IsPointOfEdge e.a e.b p × IsBeyond c p) ⊎ IsBorderPoint c s p

-- some point of the closed face beyond the plane is on the line of sight of p and strictly nearer
pub record FaceHidesInCut (c : Plane) {s : Part} (f : Face s) (p : Point) : Type 0 where
  pub point : Point
  pub on_face : IsPointOfFace f.a f.b f.c point
  pub beyond : IsBeyond c point
  pub same_sight : OnOneSight (toward_of c) point p
  pub nearer : IsNearer (toward_of c) point p

-- a point beyond the plane is hidden by what the plane leaves of the faces, or by the section; border points never are
abbrev pub IsHiddenInCut : Plane → Part → Point → Type 0
IsHiddenInCut c s p = IsBeyond c p × (((f : Face s) × FaceHidesInCut c f p) ⊎ IsInSection c s p)

-- ---- ordinary points
-- an edge, or the border of a face
pub data EdgeOrBorder (s : Part) : Type 0 where
  edge : Edge s → EdgeOrBorder s
  border : Face s → EdgeOrBorder s

abbrev pub IsOnEdgeOrBorder : Plane → {s : Part} → EdgeOrBorder s → Point → Type 0
IsOnEdgeOrBorder c (edge e) p = IsPointOfEdge e.a e.b p
IsOnEdgeOrBorder c (border f) p = IsOnBorder c f p

-- along it: the border of a face is at right angles to the face's normal and to the direction
abbrev pub step_of : Plane → {s : Part} → EdgeOrBorder s → Triple
step_of c (edge e) = difference e.a e.b
step_of c (border f) = cross (toward_of c) (normal f.a f.b f.c)

-- it has a point on the line of sight of p
abbrev pub IsSeenOverInCut : Plane → {s : Part} → EdgeOrBorder s → Point → Type 0
IsSeenOverInCut c x p = (q : Point) × IsOnEdgeOrBorder c x q × OnOneSight (toward_of c) q p

-- no corner and no end of a border is on its line of sight, and any two edges or borders with a point on it have parallel projections
pub record IsOrdinaryInCut (c : Plane) (s : Part) (p : Point) : Type 0 where
  pub off_corners : (k : Corner) → Contains s.corners k → ¬ OnOneSight (toward_of c) (point_of k) p
  pub off_ends : (e : Edge s) (q : Point) → IsPointOfEdge e.a e.b q → IsOnPlane c q → ¬ OnOneSight (toward_of c) q p
  pub off_crossings : (x y : EdgeOrBorder s) → IsSeenOverInCut c x p → IsSeenOverInCut c y p → det (toward_of c) (step_of c x) (step_of c y) ≡ pos 0
