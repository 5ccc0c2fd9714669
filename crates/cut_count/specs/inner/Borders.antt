-- Ends of borders, and what a walk along an edge finds of a border.
use Rattle.std.specs.Prelude.{◌≡◌, ◌≢◌, ◌⊎◌, ◌↔◌, ◌≤◌, ◌^◌, ℤ, pos, ◌-ℤ◌, ◌*ℤ◌, ◌<ℤ◌, unsigned_abs, Bool, true, false, IsTrue, Option, Some, None}
use Rattle.exact_frac.specs.declared.Frac.{Frac}
use Rattle.intervals.specs.declared.interval.Interval.{Interval}
use Rattle.lattice.specs.declared.points.Corner.{Corner}
use Rattle.lattice.specs.declared.points.Spot.{Spot}
use Rattle.lattice.specs.Triple.{Triple}
use Rattle.lattice.specs.Points.{Point}
use Rattle.lattice.specs.Cuts.{Plane, toward_of, IsBeyond}
use Rattle.geometry.specs.Faces.{share_point}
use Rattle.geometry.specs.Parts.{Part, Face, Edge}
use Rattle.geometry.specs.Places.{IsEarlier, IsBetween}
use Rattle.geometry.specs.Views.{face_sign}
use Rattle.hiding_laws.specs.Values.{side_of}
use Rattle.geometry.specs.Counts.{Side, to_left, to_right}
use Rattle.geometry.specs.Shares.{mark}
use Rattle.cut_plane.specs.Crossings.{CrossesAt}
use Rattle.cut_count_laws.specs.CutEnds.{mark_change}
use Rattle.cut_count_laws.specs.BorderShares.{way_turn}
use Rattle.cut_count.specs.declared.found.Share.{Share}
use Rattle.cut_count.specs.declared.found.CrossingBorder.{CrossingBorder}

-- the divisor of an end of a border
abbrev pub IsSmallEnd : Spot → Type 0
IsSmallEnd p = unsigned_abs p.w ≤ 2 ^ 24

-- an inner place of the way from a to b, and beyond the plane
pub record IsInnerBeyond (c : Plane) (a b : Corner) (at : Frac) : Type 0 where
  pub after : pos 0 <ℤ at.num
  pub before : at.num <ℤ at.den
  pub beyond : IsBeyond c (share_point a b at.num at.den)

-- ---- ahead of an end of an edge
-- the corner t, a or b, as it is come from: the way is turned about where it is the second
abbrev pub ahead_turn : Bool → Triple → Corner → Corner → Point → Point → ℤ
ahead_turn false d a b p q = way_turn d p q a
ahead_turn true d a b p q = pos 0 -ℤ way_turn d p q b

-- the marks of p and q differ, and the way between them crosses the line from a to b after a, or before b
abbrev pub IsAhead : Side → Bool → Triple → Corner → Corner → Point → Point → Type 0
IsAhead k at_b d a b p q =
    ((mark k (side_of d a b p) ≡ pos 0) × (mark k (side_of d a b q) ≡ pos 1) × (pos 0 <ℤ ahead_turn at_b d a b p q))
    ⊎ ((mark k (side_of d a b p) ≡ pos 1) × (mark k (side_of d a b q) ≡ pos 0) × (ahead_turn at_b d a b p q <ℤ pos 0))

-- ---- a border that is found
-- for one count: whether the section begins or ends there, and what the border changes of how many faces are counted
pub record IsShareOf (k : Side) (c : Plane) {s : Part} (e : Edge s) (f : Face s) (p q : Point) (share : Share) : Type 0 where
  pub own : share.own ≡ pos 0 -ℤ (face_sign (toward_of c) f *ℤ mark_change k (toward_of c) e.a e.b p q)
  pub turns : IsTrue share.turns ↔ (mark_change k (toward_of c) e.a e.b p q ≢ pos 0)

-- some mark changes
abbrev pub ChangesMark : Plane → {s : Part} → Edge s → Point → Point → Type 0
ChangesMark c e p q = (mark_change to_left (toward_of c) e.a e.b p q ≢ pos 0) ⊎ (mark_change to_right (toward_of c) e.a e.b p q ≢ pos 0)

-- the face's border from p to q crosses the edge at this place, strictly within the part, with these shares
pub record IsFound (c : Plane) {s : Part} (e : Edge s) (f : Face s) (part : Interval Frac) (p q : Point) (x : CrossingBorder) : Type 0 where
  pub crosses : CrossesAt c f e x.at.num x.at.den
  pub after : IsEarlier part.from x.at
  pub before : IsEarlier x.at part.to
  pub changes : ChangesMark c e p q
  pub on_left : IsShareOf to_left c e f p q x.left
  pub on_right : IsShareOf to_right c e f p q x.right

-- it does so and changes a mark; or it does not
abbrev pub IsFoundOr : Plane → {s : Part} → Edge s → Face s → Interval Frac → Point → Point → Option CrossingBorder → Type 0
IsFoundOr c e f part p q None = (n m : ℤ) → pos 0 <ℤ m → IsBetween part.from part.to n m → ChangesMark c e p q → ¬ CrossesAt c f e n m
IsFoundOr c e f part p q (Some x) = IsFound c e f part p q x
