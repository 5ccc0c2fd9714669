-- How a point lies to a face and to a side of it, by determinants, and what is linear along an edge.
use Rattle.std.specs.Prelude.{◌≡◌, ◌⊎◌, ℤ, pos, ◌+ℤ◌, ◌-ℤ◌, ◌*ℤ◌, ◌<ℤ◌, ◌≤ℤ◌}
use Rattle.lattice.specs.declared.points.Corner.{Corner}
use Rattle.lattice.specs.Triple.{Triple, dot, det}
use Rattle.lattice.specs.Points.{Point, OnOneSight, IsNearer, difference, point_of}
use Rattle.geometry.specs.Faces.{normal, IsPointOfEdge}
use Rattle.geometry.specs.Parts.{Part, Face}

-- from a corner to a point, times the point's w
abbrev pub offset : Corner → Point → Triple
offset a p = record { x = p.x -ℤ p.w *ℤ a.x; y = p.y -ℤ p.w *ℤ a.y; z = p.z -ℤ p.w *ℤ a.z }

-- times m, the value at the share n / m of what is linear, f at 0 and g at 1
abbrev pub value_at : ℤ → ℤ → ℤ → ℤ → ℤ
value_at f g n m = ((m -ℤ n) *ℤ f) +ℤ (n *ℤ g)

-- ---- faces that are not edge-on
-- positive where the point is seen to the left of the line from a to b, 0 where it is seen on the line
abbrev pub side_of : Triple → Corner → Corner → Point → ℤ
side_of d a b p = det d (difference a b) (offset a p)

-- positive where the point is behind the plane of a, b and c, 0 where it is in the plane; the normal points to the front
abbrev pub depth_of : Corner → Corner → Corner → Point → ℤ
depth_of a b c p = pos 0 -ℤ dot (offset a p) (normal a b c)

-- seen within the closed triangle of a, b and c, which run counterclockwise, and behind its plane
pub record IsBehind (d : Triple) (a b c : Corner) (p : Point) : Type 0 where
  pub ab : pos 0 ≤ℤ side_of d a b p
  pub bc : pos 0 ≤ℤ side_of d b c p
  pub ca : pos 0 ≤ℤ side_of d c a p
  pub depth : pos 0 <ℤ depth_of a b c p

-- the three corners of the face, in its order or in the other
abbrev pub AreCornersOf : {s : Part} → Face s → Corner → Corner → Corner → Type 0
AreCornersOf f a b c = ((f.a ≡ a) × (f.b ≡ b) × (f.c ≡ c)) ⊎ ((f.a ≡ a) × (f.b ≡ c) × (f.c ≡ b))

-- ---- sides
-- some point of the side is on the line of sight of p and strictly nearer
pub record SideHides (d : Triple) (k l : Corner) (p : Point) : Type 0 where
  pub point : Point
  pub on_side : IsPointOfEdge k l point
  pub same_sight : OnOneSight d point p
  pub nearer : IsNearer d point p

-- a side that is not seen end-on, and hides p
abbrev pub WideSideHides : Triple → Corner → Corner → Point → Type 0
WideSideHides d k l p = (¬ OnOneSight d (point_of k) (point_of l)) × SideHides d k l p

-- k and l are two of the face's corners
abbrev pub IsSideOf : {s : Part} → Face s → Corner → Corner → Type 0
IsSideOf f k l =
    let is = λ (m n : Corner). ((k ≡ m) × (l ≡ n)) ⊎ ((k ≡ n) × (l ≡ m)) in
    is f.a f.b ⊎ is f.b f.c ⊎ is f.c f.a

-- an axis at right angles to the direction, along which the way from p to q goes forward
pub record IsAhead (d axis : Triple) (p q : Corner) : Type 0 where
  pub level : dot axis d ≡ pos 0
  pub forward : pos 0 <ℤ dot axis (difference p q)

-- how far the point is past the corner along the axis
abbrev pub past_of : Triple → Corner → Point → ℤ
past_of axis k p = dot axis (offset k p)

-- and how far short of it
abbrev pub short_of : Triple → Corner → Point → ℤ
short_of axis l p = pos 0 -ℤ dot axis (offset l p)

-- positive where the line from k to l, which goes forward along the axis, passes nearer than the point
abbrev pub behind_of : Triple → Triple → Corner → Corner → Point → ℤ
behind_of d axis k l p = (dot d (difference k l) *ℤ dot axis (offset k p)) -ℤ (dot axis (difference k l) *ℤ dot d (offset k p))

-- between k and l along the axis, and behind the line
pub record IsBehindSide (d axis : Triple) (k l : Corner) (p : Point) : Type 0 where
  pub past : pos 0 ≤ℤ past_of axis k p
  pub short : pos 0 ≤ℤ short_of axis l p
  pub behind : pos 0 <ℤ behind_of d axis k l p

-- both ends of the side are seen on the line from p to q
abbrev pub IsInLine : Triple → Corner → Corner → Corner → Corner → Type 0
IsInLine d p q k l = (side_of d p q (point_of k) ≡ pos 0) × (side_of d p q (point_of l) ≡ pos 0)
