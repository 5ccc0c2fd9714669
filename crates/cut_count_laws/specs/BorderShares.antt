-- What the border of a face changes of the two counts along an edge of a cut view: the face ends there, and the section begins or ends.
use Rattle.std.specs.Prelude.{◌≡◌, ◌≢◌, ◌⊎◌, ℤ, pos, negsuc, ◌+ℤ◌, ◌-ℤ◌, ◌*ℤ◌, ◌<ℤ◌}
use Rattle.lattice.specs.declared.points.Corner.{Corner}
use Rattle.lattice.specs.Triple.{Triple, det}
use Rattle.lattice.specs.Points.{Point, point_of, across_of, upward_of}
use Rattle.lattice.specs.Cuts.{Plane, toward_of, IsBeyond}
use Rattle.geometry.specs.Cuts.{IsBorderOf, IsInSection}
use Rattle.geometry.specs.Faces.{facing_of, share_point}
use Rattle.geometry.specs.Parts.{Part, Face, Edge}
use Rattle.hiding_laws.specs.Values.{offset}
use Rattle.geometry.specs.Counts.{Side}
use Rattle.cut_plane.specs.Sides.{IsLower}
use Rattle.cut_plane.specs.Crossings.{CrossesAt}
use Rattle.cut_count_laws.specs.CutEnds.{mark_change}

-- ---- on which side of its border the face is
-- positive where the corner is seen to the left of the way from p to q; it has the divisors of p and q as factors
abbrev pub way_turn : Triple → Point → Point → Corner → ℤ
way_turn d p q k = det d (offset k p) (offset k q)

abbrev pub IsFaceCorner : {s : Part} → Face s → Corner → Type 0
IsFaceCorner f k = (f.a ≡ k) ⊎ (f.b ≡ k) ⊎ (f.c ≡ k)

-- 1 where what the plane leaves of the face is seen to the right of the way from p to q, -1 where it is seen to the left, 0 where the face is edge-on
pub data IsTurnedBy (c : Plane) {s : Part} (f : Face s) (p q : Point) : ℤ → Type 0 where
  edge_on : facing_of (toward_of c) f.a f.b f.c ≡ pos 0 → IsTurnedBy c f p q (pos 0)
  on_right : facing_of (toward_of c) f.a f.b f.c ≢ pos 0 → (k : Corner) → IsFaceCorner f k → IsBeyond c (point_of k) → way_turn (toward_of c) p q k <ℤ pos 0
      → IsTurnedBy c f p q (pos 1)
  on_left : facing_of (toward_of c) f.a f.b f.c ≢ pos 0 → (k : Corner) → IsFaceCorner f k → IsBeyond c (point_of k) → pos 0 <ℤ way_turn (toward_of c) p q k
      → IsTurnedBy c f p q (negsuc 0)

-- ---- on which side of the border the section is
abbrev pub middle_of : Point → Point → Point
middle_of p q = record {
  x = (p.x *ℤ q.w) +ℤ (q.x *ℤ p.w);
  y = (p.y *ℤ q.w) +ℤ (q.y *ℤ p.w);
  z = (p.z *ℤ q.w) +ℤ (q.z *ℤ p.w);
  w = pos 2 *ℤ (p.w *ℤ q.w);
}

-- the way from p to q has the greater U on its left, or the greater V if it is level: it goes down, or it is level and goes to the right
abbrev pub HasGreaterLeft : Triple → Point → Point → Type 0
HasGreaterLeft d p q =
    IsLower d q p ⊎ ((upward_of d p *ℤ q.w ≡ upward_of d q *ℤ p.w) × ((across_of d p *ℤ q.w) <ℤ (across_of d q *ℤ p.w)))

-- A point of a border is in the section where what is next to it on the side of the greater U is (of the greater V where the border
-- is level): the border itself is not to its right. And on one side of a border alone is the section.
abbrev pub HasSectionLeft : Plane → Part → Point → Point → Type 0
HasSectionLeft c s p q =
    (HasGreaterLeft (toward_of c) p q × IsInSection c s (middle_of p q)) ⊎ (HasGreaterLeft (toward_of c) q p × ¬ IsInSection c s (middle_of p q))

-- ---- the share of a border
-- the border goes between p and q, and the way from p to q has the section on its left
pub record IsBorderTaken (c : Plane) {s : Part} (f : Face s) (p q : Point) : Type 0 where
  pub ends : IsBorderOf c f p q ⊎ IsBorderOf c f q p
  pub left : HasSectionLeft c s p q

-- what the border from p to q, with the section on its left, changes of a count along e: 1 for the section, less what it is turned by for the face
abbrev pub border_change_of : Side → Plane → {s : Part} → Edge s → Point → Point → ℤ → ℤ
border_change_of k c e p q turned = (pos 1 -ℤ turned) *ℤ mark_change k (toward_of c) e.a e.b p q

-- the border crosses the edge at the inner place n / m, and the edge's point there is beyond the plane
pub record IsBorderCrossedAt (c : Plane) {s : Part} (e : Edge s) (f : Face s) (n m : ℤ) : Type 0 where
  pub after : pos 0 <ℤ n
  pub before : n <ℤ m
  pub beyond : IsBeyond c (share_point e.a e.b n m)
  pub crosses : CrossesAt c f e n m
