-- The faces that are counted next to an end of an edge.
use Rattle.std.specs.Prelude.{◌≡◌, ◌≢◌, ◌⊎◌, ℕ, ℤ, pos, ◌*ℤ◌, ◌<ℤ◌, ◌≤ℤ◌, Bool, true, false}
use Rattle.lattice.specs.Triple.{Triple}
use Rattle.lattice.specs.Points.{Point}
use Rattle.geometry.specs.Faces.{facing_of, share_point, FaceHides}
use Rattle.geometry.specs.Parts.{Part, Face, Edge}
use Rattle.geometry.specs.Counts.{Side, ReachesTo}

-- the point at the share n / m of the way from the edge's first corner to its second, or from the second to the first
abbrev pub share_from : {s : Part} → Edge s → Bool → ℤ → ℤ → Point
share_from e false n m = share_point e.a e.b n m
share_from e true n m = share_point e.b e.a n m

-- the face is strictly nearer over each inner point of some stretch of the edge from that end
pub record HidesNext (d : Triple) {s : Part} (e : Edge s) (at_b : Bool) (f : Face s) : Type 0 where
  pub n : ℤ
  pub m : ℤ
  pub some : pos 0 <ℤ n
  pub within : n ≤ℤ m
  pub over : (k l : ℤ) → pos 0 <ℤ k → pos 0 <ℤ l → (k *ℤ m) <ℤ (n *ℤ l) → FaceHides d f.a f.b f.c (share_from e at_b k l)

-- the face is counted on that side next to that end of the edge
pub record IsCountedNext (k : Side) (d : Triple) {s : Part} (e : Edge s) (at_b : Bool) (f : Face s) : Type 0 where
  pub turned : facing_of d f.a f.b f.c ≢ pos 0
  pub hides : HidesNext d e at_b f
  pub reaches : ReachesTo k d e f

-- 1 where P holds, else 0
abbrev pub IsOneWhere : Type 0 → ℕ → Type 0
IsOneWhere P n = ((n ≡ 1) × P) ⊎ ((n ≡ 0) × ¬ P)
