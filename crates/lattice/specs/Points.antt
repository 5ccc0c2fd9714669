-- What the crate's points, vectors and directions stand for, and lines of sight.
use Rattle.std.specs.Prelude.{◌≡◌, ℤ, pos, ◌-ℤ◌, ◌*ℤ◌, ◌<ℤ◌}
use Rattle.exact_frac.specs.declared.Frac.{Frac}
use Rattle.lattice.specs.declared.points.Corner.{Corner}
use Rattle.lattice.specs.declared.points.Vector.{Vector}
use Rattle.lattice.specs.declared.normals.Normal.{Normal}
use Rattle.lattice.specs.declared.points.Spot.{Spot}
use Rattle.lattice.specs.declared.points.Dir.{Dir}
use Rattle.lattice.specs.Triple.{Triple, dot, right_axis, up_axis}

-- a point of space in homogeneous whole coordinates without a bound: (x / w, y / w, z / w)
pub record Point : Type 0 where
  pub x : ℤ
  pub y : ℤ
  pub z : ℤ
  pub w : ℤ

-- it stands for a point
abbrev pub IsPoint : Point → Type 0
IsPoint p = pos 0 <ℤ p.w

abbrev pub of_corner : Corner → Triple
of_corner p = record { x = p.x; y = p.y; z = p.z }

abbrev pub of_vector : Vector → Triple
of_vector s = record { x = s.x; y = s.y; z = s.z }

abbrev pub of_normal : Normal → Triple
of_normal n = record { x = n.x; y = n.y; z = n.z }

abbrev pub of_dir : Dir → Triple
of_dir d = record { x = d.x; y = d.y; z = d.z }

abbrev pub of_spot : Spot → Point
of_spot p = record { x = p.x; y = p.y; z = p.z; w = p.w }

abbrev pub point_of : Corner → Point
point_of c = record { x = c.x; y = c.y; z = c.z; w = pos 1 }

-- from one corner to another
abbrev pub difference : Corner → Corner → Triple
difference a b = record { x = b.x -ℤ a.x; y = b.y -ℤ a.y; z = b.z -ℤ a.z }

-- the point's coordinates, each times w
abbrev pub scaled : Point → Triple
scaled p = record { x = p.x; y = p.y; z = p.z }

-- U, V and height of a point, each times w
abbrev pub across_of : Triple → Point → ℤ
across_of d p = dot (right_axis d) (scaled p)

abbrev pub upward_of : Triple → Point → ℤ
upward_of d p = dot (up_axis d) (scaled p)

abbrev pub height_of : Triple → Point → ℤ
height_of d p = dot d (scaled p)

-- two points stand for one point
pub record AreOnePoint (p q : Point) : Type 0 where
  pub x : p.x *ℤ q.w ≡ q.x *ℤ p.w
  pub y : p.y *ℤ q.w ≡ q.y *ℤ p.w
  pub z : p.z *ℤ q.w ≡ q.z *ℤ p.w

-- two points are on one line of sight: their U and their V agree
pub record OnOneSight (d : Triple) (p q : Point) : Type 0 where
  pub across : across_of d p *ℤ q.w ≡ across_of d q *ℤ p.w
  pub upward : upward_of d p *ℤ q.w ≡ upward_of d q *ℤ p.w

-- p is nearer the viewer than q: its height is greater
abbrev pub IsNearer : Triple → Point → Point → Type 0
IsNearer d p q = (height_of d q *ℤ p.w) <ℤ (height_of d p *ℤ q.w)

-- the difference of two points is a multiple of the direction: times p.w and q.w it is n / m times the direction
pub record DifferAlong (d : Triple) (p q : Point) : Type 0 where
  pub n : ℤ
  pub m : ℤ
  pub positive : pos 0 <ℤ m
  pub x : m *ℤ (p.x *ℤ q.w -ℤ q.x *ℤ p.w) ≡ n *ℤ d.x
  pub y : m *ℤ (p.y *ℤ q.w -ℤ q.y *ℤ p.w) ≡ n *ℤ d.y
  pub z : m *ℤ (p.z *ℤ q.w -ℤ q.z *ℤ p.w) ≡ n *ℤ d.z

-- the fraction n / d, in these very terms
pub record IsRatio (f : Frac) (n d : ℤ) : Type 0 where
  pub num : f.num ≡ n
  pub den : f.den ≡ d
