-- What is drawn, hidden and ordinary in a plain view of a part.
use Rattle.std.specs.Prelude.{◌≡◌, ◌≢◌, ◌⊎◌, ◌↔◌, ℕ, ◌<◌, ℤ, pos, negsuc, ◌*ℤ◌, ◌<ℤ◌, ◌≤ℤ◌, List, Contains, All, length}
use Rattle.std.specs.List.Sorted.{IsStrictlyIncreasing}
use Rattle.std.proofs.Common.{zero, suc}
use Rattle.lattice.specs.declared.points.Corner.{Corner}
use Rattle.lattice.specs.Triple.{Triple, dot, det}
use Rattle.lattice.specs.Points.{Point, point_of, OnOneSight}
use Rattle.geometry.specs.Faces.{difference, normal, facing_of, FaceHides, IsPointOfEdge}
use Rattle.geometry.specs.Parts.{Part, Face, Edge, AreEdges, IsNumbered}

-- 1, 0 or -1
abbrev pub sign_of : ℤ → ℤ
sign_of (pos zero) = pos 0
sign_of (pos (suc n)) = pos 1
sign_of (negsuc n) = negsuc 0

-- 1 of a face that is turned to the viewer, -1 of one that is turned away, 0 of one that is edge-on
abbrev pub face_sign : Triple → {s : Part} → Face s → ℤ
face_sign d f = sign_of (facing_of d f.a f.b f.c)

-- the signs of the edge's two faces differ
abbrev pub IsOutline : Triple → {s : Part} → Edge s → Type 0
IsOutline d e = face_sign d e.left ≢ face_sign d e.right

-- the product of the two normals is at most 0, or its square less than the fraction, over a million, of the product of their squared lengths
abbrev pub IsCrease : ℕ → {s : Part} → Edge s → Type 0
IsCrease fraction e =
    let l = normal e.left.a e.left.b e.left.c in
    let r = normal e.right.a e.right.b e.right.c in
    (dot l r ≤ℤ pos 0) ⊎ (((pos 1000000 *ℤ dot l r) *ℤ dot l r) <ℤ ((pos fraction *ℤ dot l l) *ℤ dot r r))

-- the projections of its two corners agree
abbrev pub IsEndOn : Triple → {s : Part} → Edge s → Type 0
IsEndOn d e = OnOneSight d (point_of e.a) (point_of e.b)

-- an outline or a crease that is not seen end-on
abbrev pub IsDrawn : Triple → ℕ → {s : Part} → Edge s → Type 0
IsDrawn d fraction e = (IsOutline d e ⊎ IsCrease fraction e) × ¬ IsEndOn d e

-- the numbers of the edges of which P holds, in order, where these halves list the edges
pub record AreEdgesThat {s : Part} (P : Edge s → Type 0) (halves numbers : List ℕ) : Type 0 where
  pub edges : AreEdges s halves
  pub ascending : IsStrictlyIncreasing numbers
  pub within : All (λ i. i < length halves) numbers
  pub exactly : (i : ℕ) (e : Edge s) → IsNumbered halves i e → Contains numbers i ↔ P e

abbrev pub AreOutlines : Triple → Part → List ℕ → List ℕ → Type 0
AreOutlines d s halves numbers = AreEdgesThat {s = s} (IsOutline d) halves numbers

abbrev pub AreDrawnEdges : Triple → ℕ → Part → List ℕ → List ℕ → Type 0
AreDrawnEdges d fraction s halves numbers = AreEdgesThat {s = s} (IsDrawn d fraction) halves numbers

-- hidden in a plain view (Appel 1967): some point of some closed face is on its line of sight and strictly nearer
abbrev pub IsHidden : Triple → Part → Point → Type 0
IsHidden d s p = (f : Face s) × FaceHides d f.a f.b f.c p

-- the projections of two edges are parallel
abbrev pub AreParallel : Triple → {s : Part} → Edge s → Edge s → Type 0
AreParallel d e f = det d (difference e.a e.b) (difference f.a f.b) ≡ pos 0

-- the edge has a point on the line of sight of p
abbrev pub IsSeenOver : Triple → {s : Part} → Edge s → Point → Type 0
IsSeenOver d e p = (q : Point) × IsPointOfEdge e.a e.b q × OnOneSight d q p

-- no corner is on its line of sight, and any two edges with a point on it have parallel projections
pub record IsOrdinary (d : Triple) (s : Part) (p : Point) : Type 0 where
  pub off_corners : (c : Corner) → Contains s.corners c → ¬ OnOneSight d (point_of c) p
  pub off_crossings : (e f : Edge s) → IsSeenOver d e p → IsSeenOver d f p → AreParallel d e f

-- a point of a drawn edge
abbrev pub IsDrawnPoint : Triple → ℕ → Part → Point → Type 0
IsDrawnPoint d fraction s p = (e : Edge s) × IsDrawn d fraction e × IsPointOfEdge e.a e.b p
