-- The two counts at a point of an edge in a cut view: how many faces are strictly nearer there by what the plane leaves of them, and the section.
use Rattle.std.specs.Prelude.{◌≡◌, ◌≢◌, ◌↔◌, ℕ, ◌+◌, pos}
use Rattle.lattice.specs.declared.soup.Tri.{Tri}
use Rattle.lattice.specs.Points.{Point}
use Rattle.lattice.specs.Cuts.{Plane, toward_of}
use Rattle.geometry.specs.Cuts.{IsCount, IsInSection, FaceHidesInCut, IsHiddenInCut}
use Rattle.geometry.specs.Faces.{facing_of}
use Rattle.geometry.specs.Parts.{Part, Face, Edge}
use Rattle.geometry.specs.Counts.{Side, to_left, to_right, ReachesTo}
use Rattle.geometry.specs.Covers.{IsOneWhere}

-- the face is counted on that side at p: it is not edge-on, has a point beyond the plane that is strictly nearer over p, and reaches to that side
pub record IsCutCounted (k : Side) (c : Plane) {s : Part} (e : Edge s) (p : Point) (f : Face s) : Type 0 where
  pub turned : facing_of (toward_of c) f.a f.b f.c ≢ pos 0
  pub hides : FaceHidesInCut c f p
  pub reaches : ReachesTo k (toward_of c) e f

abbrev pub HasCutCounted : Side → Plane → {s : Part} → Edge s → Point → Tri → Type 0
HasCutCounted k c {s = s} e p t = (f : Face s) × (f.tri ≡ t) × IsCutCounted k c e p f

-- so many faces are counted on that side at p, and one more where p is in the section
pub record AreCutCounted (k : Side) (c : Plane) {s : Part} (e : Edge s) (p : Point) (n : ℕ) : Type 0 where
  pub faces : ℕ
  pub section : ℕ
  pub counted : IsCount Tri (HasCutCounted k c e p) s.triangles faces
  pub inside : IsOneWhere (IsInSection c s p) section
  pub together : n ≡ faces + section

-- these are the two counts at p, and p is hidden exactly where they are not both 0
pub record AreCutCountsAt (c : Plane) {s : Part} (e : Edge s) (p : Point) (left right : ℕ) : Type 0 where
  pub on_left : AreCutCounted to_left c e p left
  pub on_right : AreCutCounted to_right c e p right
  pub hidden : IsHiddenInCut c s p ↔ (left + right ≢ 0)
