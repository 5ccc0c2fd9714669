-- The two counts at a point of an edge: how many faces are strictly nearer, by the side of the edge's line to which they reach (Appel 1967).
use Rattle.std.specs.Prelude.{◌≡◌, ◌≢◌, ◌⊎◌, ℕ, ℤ, pos, ◌<ℤ◌}
use Rattle.lattice.specs.declared.points.Corner.{Corner}
use Rattle.lattice.specs.declared.soup.Tri.{Tri}
use Rattle.lattice.specs.Triple.{Triple, det}
use Rattle.lattice.specs.Points.{Point}
use Rattle.geometry.specs.Cuts.{IsCount}
use Rattle.geometry.specs.Faces.{difference, facing_of, FaceHides}
use Rattle.geometry.specs.Parts.{Part, Face, Edge}

-- the two sides of the line on which an edge is seen, from its first corner to its second
pub data Side : Type 0 where
  to_left : Side
  to_right : Side

-- positive where c is seen to the left of the line from a to b, 0 where it is seen on the line
abbrev pub orientation_of : Triple → Corner → Corner → Corner → ℤ
orientation_of d a b c = det d (difference a b) (difference a c)

-- c is seen strictly on that side of the line from a to b
abbrev pub StandsOn : Side → Triple → Corner → Corner → Corner → Type 0
StandsOn to_left d a b c = pos 0 <ℤ orientation_of d a b c
StandsOn to_right d a b c = orientation_of d a b c <ℤ pos 0

-- the face has a corner strictly on that side of the edge's line
abbrev pub ReachesTo : Side → Triple → {s : Part} → Edge s → Face s → Type 0
ReachesTo k d e f = StandsOn k d e.a e.b f.a ⊎ StandsOn k d e.a e.b f.b ⊎ StandsOn k d e.a e.b f.c

-- the face is counted on that side at p: it is not edge-on, is strictly nearer over p, and reaches to that side
pub record IsCounted (k : Side) (d : Triple) {s : Part} (e : Edge s) (p : Point) (f : Face s) : Type 0 where
  pub turned : facing_of d f.a f.b f.c ≢ pos 0
  pub hides : FaceHides d f.a f.b f.c p
  pub reaches : ReachesTo k d e f

abbrev pub HasCounted : Side → Triple → {s : Part} → Edge s → Point → Tri → Type 0
HasCounted k d {s = s} e p t = (f : Face s) × (f.tri ≡ t) × IsCounted k d e p f

-- so many faces are counted on that side at p
abbrev pub AreCounted : Side → Triple → {s : Part} → Edge s → Point → ℕ → Type 0
AreCounted k d {s = s} e p n = IsCount Tri (HasCounted k d e p) s.triangles n
