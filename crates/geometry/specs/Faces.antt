-- The points of faces and of edges, by whole weights, and what hides a point.
use Rattle.std.specs.Prelude.{◌≡◌, ℕ, ◌+◌, ◌<◌, ℤ, pos, ◌+ℤ◌, ◌-ℤ◌, ◌*ℤ◌}
use Rattle.lattice.specs.declared.points.Corner.{Corner}
use Rattle.lattice.specs.Triple.{Triple, dot, cross, IsZero}
use Rattle.lattice.specs.Points.{Point, OnOneSight, IsNearer}
pub use Rattle.lattice.specs.Points.{difference}

-- the normal of the triangle with these corners; its length is twice the area
abbrev pub normal : Corner → Corner → Corner → Triple
normal a b c = cross (difference a b) (difference a c)

-- the three corners are in one line
abbrev pub IsFlat : Corner → Corner → Corner → Type 0
IsFlat a b c = IsZero (normal a b c)

-- the normal's product with the direction, whose sign is the face's
abbrev pub facing_of : Triple → Corner → Corner → Corner → ℤ
facing_of d a b c = dot d (normal a b c)

-- the sum of three corners with whole weights
abbrev pub face_sum : Corner → Corner → Corner → ℕ → ℕ → ℕ → Point
face_sum a b c i j k = record {
  x = ((pos i *ℤ a.x) +ℤ (pos j *ℤ b.x)) +ℤ (pos k *ℤ c.x);
  y = ((pos i *ℤ a.y) +ℤ (pos j *ℤ b.y)) +ℤ (pos k *ℤ c.y);
  z = ((pos i *ℤ a.z) +ℤ (pos j *ℤ b.z)) +ℤ (pos k *ℤ c.z);
  w = pos (i + j + k);
}

-- the sum of two corners with whole weights
abbrev pub edge_sum : Corner → Corner → ℕ → ℕ → Point
edge_sum a b i j = record {
  x = (pos i *ℤ a.x) +ℤ (pos j *ℤ b.x);
  y = (pos i *ℤ a.y) +ℤ (pos j *ℤ b.y);
  z = (pos i *ℤ a.z) +ℤ (pos j *ℤ b.z);
  w = pos (i + j);
}

-- the point at the share n / m of the way from a to b
abbrev pub share_point : Corner → Corner → ℤ → ℤ → Point
share_point a b n m = record {
  x = ((m -ℤ n) *ℤ a.x) +ℤ (n *ℤ b.x);
  y = ((m -ℤ n) *ℤ a.y) +ℤ (n *ℤ b.y);
  z = ((m -ℤ n) *ℤ a.z) +ℤ (n *ℤ b.z);
  w = m;
}

-- a point of a closed face: a sum of its corners with whole weights that are not all 0
abbrev pub IsPointOfFace : Corner → Corner → Corner → Point → Type 0
IsPointOfFace a b c p = (i : ℕ) × (j : ℕ) × (k : ℕ) × (0 < i + j + k) × (p ≡ face_sum a b c i j k)

-- a point of an edge: the same over its two corners
abbrev pub IsPointOfEdge : Corner → Corner → Point → Type 0
IsPointOfEdge a b p = (i : ℕ) × (j : ℕ) × (0 < i + j) × (p ≡ edge_sum a b i j)

-- some point of the closed face is on the line of sight of p and strictly nearer
pub record FaceHides (d : Triple) (a b c : Corner) (p : Point) : Type 0 where
  pub point : Point
  pub on_face : IsPointOfFace a b c point
  pub same_sight : OnOneSight d point p
  pub nearer : IsNearer d point p
