-- The divisors of the ends of borders are small.
use Rattle.std.proofs.Common.{ℕ, ◌+◌, ◌≤◌, ◌^◌, Bool, true, false, subst, sym, arith}
use Rattle.std.specs.Prelude.{ℤ, pos, neg_ℤ, ◌+ℤ◌, ◌-ℤ◌, ◌*ℤ◌, unsigned_abs, if◌then◌else◌}
use Rattle.std.proofs.lemmas.Int.{ints}
use Rattle.lattice.specs.declared.points.Axis.{Axis}
use Rattle.lattice.specs.declared.points.Axis.TheVariants.{X, Y, Z}
use Rattle.lattice.specs.declared.points.Corner.{Corner}
use Rattle.lattice.specs.declared.cuts.Cut.{Cut}
use Rattle.lattice.specs.Triple.{dot}
use Rattle.lattice.specs.Points.{Point, point_of, scaled, of_spot}
use Rattle.lattice.specs.Cuts.{plane_of, side_of}
use Rattle.geometry.specs.Cuts.{start_corner, end_corner, over_of, crossing_of, IsBorderOf}
use Rattle.geometry.specs.Parts.{Part, Face}
use Rattle.cut_plane.specs.declared.segments.Segment.{Segment}
use Rattle.cut_plane.specs.Loops.{IsSegmentOf}
use Rattle.cut_count.specs.inner.Borders.{IsSmallEnd}

height : (axis : Axis) (high : Bool) (k : Corner) → unsigned_abs (dot (side_of axis high) (scaled (point_of k))) ≤ 2 ^ 20
height X true k = go k.x k.y k.z k.x_in_range
  where
    go : (x y z : ℤ) → unsigned_abs x ≤ 2 ^ 20 → unsigned_abs (((pos 1 *ℤ x) +ℤ (pos 0 *ℤ y)) +ℤ (pos 0 *ℤ z)) ≤ 2 ^ 20
    go x y z h = omega (arith, ints)
height X false k = go k.x k.y k.z k.x_in_range
  where
    go : (x y z : ℤ) → unsigned_abs x ≤ 2 ^ 20 → unsigned_abs (((neg_ℤ (pos 1) *ℤ x) +ℤ (neg_ℤ (pos 0) *ℤ y)) +ℤ (neg_ℤ (pos 0) *ℤ z)) ≤ 2 ^ 20
    go x y z h = omega (arith, ints)
height Y true k = go k.x k.y k.z k.y_in_range
  where
    go : (x y z : ℤ) → unsigned_abs y ≤ 2 ^ 20 → unsigned_abs (((pos 0 *ℤ x) +ℤ (pos 1 *ℤ y)) +ℤ (pos 0 *ℤ z)) ≤ 2 ^ 20
    go x y z h = omega (arith, ints)
height Y false k = go k.x k.y k.z k.y_in_range
  where
    go : (x y z : ℤ) → unsigned_abs y ≤ 2 ^ 20 → unsigned_abs (((neg_ℤ (pos 0) *ℤ x) +ℤ (neg_ℤ (pos 1) *ℤ y)) +ℤ (neg_ℤ (pos 0) *ℤ z)) ≤ 2 ^ 20
    go x y z h = omega (arith, ints)
height Z true k = go k.x k.y k.z k.z_in_range
  where
    go : (x y z : ℤ) → unsigned_abs z ≤ 2 ^ 20 → unsigned_abs (((pos 0 *ℤ x) +ℤ (pos 0 *ℤ y)) +ℤ (pos 1 *ℤ z)) ≤ 2 ^ 20
    go x y z h = omega (arith, ints)
height Z false k = go k.x k.y k.z k.z_in_range
  where
    go : (x y z : ℤ) → unsigned_abs z ≤ 2 ^ 20 → unsigned_abs (((neg_ℤ (pos 0) *ℤ x) +ℤ (neg_ℤ (pos 0) *ℤ y)) +ℤ (neg_ℤ (pos 1) *ℤ z)) ≤ 2 ^ 20
    go x y z h = omega (arith, ints)

level : (high : Bool) (at : ℤ) → unsigned_abs at ≤ 2 ^ 20 → unsigned_abs (if high then at else neg_ℤ at) ≤ 2 ^ 20
level true at h = h
level false at h = omega (arith, ints)

twice_over : (h l : ℤ) → unsigned_abs h ≤ 2 ^ 20 → unsigned_abs l ≤ 2 ^ 20 → unsigned_abs ((pos 2 *ℤ h) -ℤ ((pos 2 *ℤ l) -ℤ pos 1)) ≤ 2 ^ 23
twice_over h l hh hl = omega (arith, ints)

module _ (cut : Cut) where
  over : (k : Corner) → unsigned_abs (over_of (plane_of cut) k) ≤ 2 ^ 23
  over k = twice_over (dot (side_of cut.axis cut.from_high) (scaled (point_of k))) (if cut.from_high then cut.at else neg_ℤ cut.at) (height cut.axis cut.from_high k) (level cut.from_high cut.at cut.in_range)

  crossing : (k l : Corner) → unsigned_abs (crossing_of (plane_of cut) k l).w ≤ 2 ^ 24
  crossing k l = go (unsigned_abs (over_of (plane_of cut) l)) (unsigned_abs (over_of (plane_of cut) k)) (over l) (over k)
    where
      go : (i j : ℕ) → i ≤ 2 ^ 23 → j ≤ 2 ^ 23 → i + j ≤ 2 ^ 24
      go i j h g = omega arith

  pub small_border : {s : Part} (f : Face s) (p q : Point) → IsBorderOf (plane_of cut) f p q → (unsigned_abs p.w ≤ 2 ^ 24) × (unsigned_abs q.w ≤ 2 ^ 24)
  small_border f p q h = (
    subst (λ (r : Point). unsigned_abs r.w ≤ 2 ^ 24) (sym h.from) (crossing (start_corner f h.first) (end_corner f h.first)),
    subst (λ (r : Point). unsigned_abs r.w ≤ 2 ^ 24) (sym h.to) (crossing (end_corner f h.second) (start_corner f h.second)),
  )

  pub small_ends : (s : Part) (x : Segment) → IsSegmentOf (plane_of cut) s x → IsSmallEnd x.a × IsSmallEnd x.b
  small_ends s x h = small_border h.face (of_spot x.a) (of_spot x.b) h.border
