-- The ends of what the plane leaves of an edge, and the sides of another edge's line on which they are seen.
use Rattle.std.specs.Prelude.{ℤ, pos, ◌-ℤ◌, ◌*ℤ◌, ◌<ℤ◌, cond}
use Rattle.std.specs.Int.Signed.{lt_z}
use Rattle.lattice.specs.declared.points.Corner.{Corner}
use Rattle.lattice.specs.Triple.{Triple}
use Rattle.lattice.specs.Points.{Point, point_of}
use Rattle.lattice.specs.Cuts.{Plane, toward_of, IsBeyond}
use Rattle.geometry.specs.Cuts.{over_of, crossing_of}
use Rattle.geometry.specs.Faces.{share_point}
use Rattle.geometry.specs.Parts.{Part, Edge}
use Rattle.hiding_laws.specs.Values.{side_of}
use Rattle.geometry.specs.Counts.{Side, to_left, to_right}
use Rattle.geometry.specs.Shares.{mark, denominator_of, numerator_of}

-- The corner k of the edge to l if it is beyond the plane, else where the edge meets the plane. With both corners before the plane
-- this is one point for k and for l, so that an edge of which nothing is left changes no mark.
abbrev pub cut_end : Plane → Corner → Corner → Point
cut_end c k l = cond (lt_z (over_of c k) (pos 0)) (point_of k) (crossing_of c k l)

-- the point is seen strictly on that side of the line from a to b
abbrev pub PointStandsOn : Side → Triple → Corner → Corner → Point → Type 0
PointStandsOn to_left d a b p = pos 0 <ℤ side_of d a b p
PointStandsOn to_right d a b p = side_of d a b p <ℤ pos 0

-- by how much the mark of x is greater than that of y, seen from the line from a to b
abbrev pub mark_change : Side → Triple → Corner → Corner → Point → Point → ℤ
mark_change k d a b x y = mark k (side_of d a b x) -ℤ mark k (side_of d a b y)

-- the same of the ends of what the plane leaves of an edge from x to y
abbrev pub part_change : Side → Plane → Corner → Corner → Corner → Corner → ℤ
part_change k c a b x y = mark_change k (toward_of c) a b (cut_end c x y) (cut_end c y x)

-- the lines of the two edges are seen to cross at a point of e's line that is beyond the plane
abbrev pub IsCrossedBeyond : Plane → {s : Part} → Edge s → Edge s → Type 0
IsCrossedBeyond c e o =
    let numerator = numerator_of (toward_of c) e o in
    let denominator = denominator_of (toward_of c) e o in
    IsBeyond c (share_point e.a e.b (numerator *ℤ denominator) (denominator *ℤ denominator))
