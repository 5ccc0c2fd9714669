-- Which borders cross an edge's line after a place, and where that differs from being to the right of the place.
use Rattle.std.specs.Prelude.{◌≡◌, Bool, true, false, cond, ℤ, pos, ◌+ℤ◌, ◌*ℤ◌, ◌<ℤ◌, ◌≤ℤ◌}
use Rattle.std.specs.Int.Signed.{lt_z}
use Rattle.lattice.specs.declared.points.Corner.{Corner}
use Rattle.lattice.specs.declared.soup.Tri.{Tri}
use Rattle.lattice.specs.Points.{point_of}
use Rattle.lattice.specs.Cuts.{Plane, toward_of}
use Rattle.geometry.specs.Faces.{share_point}
use Rattle.geometry.specs.Parts.{Part, Edge}
use Rattle.geometry.specs.Counts.{Side, to_left, to_right}
use Rattle.cut_plane.proofs.Sights.{Sight, sight_of, right_by, above_by, turn_of, counts, crossing_sight, is_before, corner_at}

-- ---- after a place
-- whether the mark on that side is 1
abbrev pub is_marked : Side → ℤ → Bool
is_marked to_left z = lt_z (pos 0) z
is_marked to_right z = cond (lt_z z (pos 0)) false true

-- whether the marks of a and b differ and the way between them crosses the line from p to q after t, which is on that line
abbrev pub is_ahead : Side → Sight → Sight → Sight → Sight → Sight → Bool
is_ahead k p q t a b = counts (is_marked k (turn_of p q a)) (is_marked k (turn_of p q b)) (turn_of a b t)

-- a test of the ends of a border, by which corners are before the plane and where the three sides cross it
abbrev pub by_border : (Sight → Sight → Bool) → Bool → Bool → Bool → Sight → Sight → Sight → Bool
by_border test false false false x y z = false
by_border test true true true x y z = false
by_border test true false false x y z = test x z
by_border test false true true x y z = test x z
by_border test false true false x y z = test y x
by_border test true false true x y z = test y x
by_border test false false true x y z = test z y
by_border test true true false x y z = test z y

abbrev pub of_border : (Sight → Sight → Bool) → Plane → Corner → Corner → Corner → Bool
of_border test c k l m = by_border test (is_before c k) (is_before c l) (is_before c m) (crossing_sight c k l) (crossing_sight c l m) (crossing_sight c m k)

-- whether the triangle's border crosses the edge's line after its place n / m
abbrev pub border_ahead : Side → Plane → (s : Part) → Corner → Edge s → ℤ → ℤ → Tri → Bool
border_ahead k c s o e n m t =
    let sight = sight_of (toward_of c) in
    of_border (is_ahead k (sight (point_of e.a)) (sight (point_of e.b)) (sight (share_point e.a e.b n m))) c (corner_at s o t.a) (corner_at s o t.b) (corner_at s o t.c)

-- ---- between the two half-lines from a place
-- the same where the edge is level: it goes to the right or to the left, and x is above the place and to the right of it by so much
abbrev pub in_level_wedge : Side → Bool → ℤ → ℤ → Bool
in_level_wedge to_left true above right = false
in_level_wedge to_right true above right = cond (lt_z (pos 0) above) false (cond (lt_z above (pos 0)) false (lt_z (pos 0) right))
in_level_wedge to_left false above right = cond (lt_z (pos 0) above) true (cond (lt_z above (pos 0)) false (lt_z right (pos 0)))
in_level_wedge to_right false above right = lt_z (pos 0) above

-- whether x is between the half-line of greater U from t, just above it, and the line from p to q after t, just on that side of it
abbrev pub in_wedge : Side → Sight → Sight → Sight → Sight → Bool
in_wedge k p q t x =
    let above = lt_z (pos 0) (above_by t x) in
    let marked = is_marked k (turn_of p q x) in
    cond (lt_z (pos 0) (above_by p q)) (cond marked false above)
    (cond (lt_z (above_by p q) (pos 0)) (cond above false marked) (in_level_wedge k (lt_z (pos 0) (right_by p q)) (above_by t x) (right_by t x)))

-- t is seen on the closed way from a to b
pub record IsOnWay (a b t : Sight) : Type 0 where
  pub i : ℤ
  pub j : ℤ
  pub i_least : pos 0 ≤ℤ i
  pub j_least : pos 0 ≤ℤ j
  pub some : pos 0 <ℤ (i +ℤ j)
  pub same_u : ((i *ℤ a.u) +ℤ (j *ℤ b.u)) *ℤ t.w ≡ t.u *ℤ ((i *ℤ a.w) +ℤ (j *ℤ b.w))
  pub same_v : ((i *ℤ a.v) +ℤ (j *ℤ b.v)) *ℤ t.w ≡ t.v *ℤ ((i *ℤ a.w) +ℤ (j *ℤ b.w))
