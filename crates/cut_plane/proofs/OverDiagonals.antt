-- The borders that cross the line of a view along which U - V stays the same.
use Rattle.std.specs.Prelude.{◌≡◌, ◌⊎◌, ℕ, ◌%◌, pos, ◌*ℤ◌, ◌<ℤ◌, ◌≤ℤ◌}
use Rattle.lattice.specs.declared.soup.Tri.{Tri}
use Rattle.lattice.specs.Triple.{Triple}
use Rattle.lattice.specs.Points.{Point}
use Rattle.lattice.specs.Cuts.{Plane, toward_of}
use Rattle.geometry.specs.Parts.{Part, Face}
use Rattle.geometry.specs.Cuts.{IsBorderOf, IsCount}
use Rattle.cut_plane.proofs.Sights.{sight_of, turn_of}
use Rattle.cut_plane.specs.Diagonals.{diagonal_of}

-- the way from k to l goes over the diagonal of p to the side of greater U - V, to the left of p
pub record GoesOver (d : Triple) (k l p : Point) : Type 0 where
  pub from : (diagonal_of d k *ℤ p.w) ≤ℤ (diagonal_of d p *ℤ k.w)
  pub to : (diagonal_of d p *ℤ l.w) <ℤ (diagonal_of d l *ℤ p.w)
  pub left : pos 0 <ℤ turn_of (sight_of d k) (sight_of d l) (sight_of d p)

-- one way or the other
abbrev pub CrossesLeftOf : Triple → Point → Point → Point → Type 0
CrossesLeftOf d k l p = GoesOver d k l p ⊎ GoesOver d l k p

-- the triangle's border crosses the diagonal of p to its left
abbrev pub HasCrossingLeftOf : Plane → (s : Part) → Point → Tri → Type 0
HasCrossingLeftOf c s p t = (f : Face s) × (f.tri ≡ t) × ((k : Point) × (l : Point) × IsBorderOf c f k l × CrossesLeftOf (toward_of c) k l p)

-- an odd number of borders cross the diagonal of p to its left
abbrev pub HasOddLeft : Plane → Part → Point → Type 0
HasOddLeft c s p = (n : ℕ) × IsCount Tri (HasCrossingLeftOf c s p) s.triangles n × (n % 2 ≡ 1)
