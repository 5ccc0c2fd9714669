-- Where the border of a section crosses an edge, as they are seen.
use Rattle.std.specs.Prelude.{◌≡◌, ◌≢◌, ◌≤◌, ◌^◌, ℤ, pos, ◌*ℤ◌, ◌<ℤ◌, ◌≤ℤ◌, unsigned_abs, List, All, Contains, Option, Some, IfSome}
use Rattle.exact_frac.specs.declared.Frac.{Frac}
use Rattle.lattice.specs.Triple.{det}
use Rattle.lattice.specs.Cuts.{Plane, toward_of}
use Rattle.geometry.specs.Faces.{share_point}
use Rattle.geometry.specs.Parts.{Part, Face, Edge}
use Rattle.geometry.specs.Cuts.{edge, border, step_of, IsSeenOverInCut}

-- the face's border has a point on the line of sight of the place n / m of the edge, and the projections of the two are not parallel
pub record CrossesAt (c : Plane) {s : Part} (f : Face s) (e : Edge s) (n m : ℤ) : Type 0 where
  pub passes : IsSeenOverInCut c (border f) (share_point e.a e.b n m)
  pub turns : det (toward_of c) (step_of c (edge e)) (step_of c (border f)) ≢ pos 0

-- a place of the edge, with a short divisor
pub record IsShort (r : Frac) : Type 0 where
  pub least : pos 0 ≤ℤ r.num
  pub most : r.num ≤ℤ r.den
  pub small : unsigned_abs r.den ≤ 2 ^ 66

-- each of the places is a crossing, and each crossing between the edge's corners is at one of them
pub record AreCrossings (c : Plane) {s : Part} (e : Edge s) (places : List Frac) : Type 0 where
  pub each : All (λ r. IsShort r × ((f : Face s) × CrossesAt c f e r.num r.den)) places
  pub all : (f : Face s) (n m : ℤ) → pos 0 <ℤ m → pos 0 ≤ℤ n → n ≤ℤ m → CrossesAt c f e n m → (r : Frac) × Contains places r × (n *ℤ r.den ≡ r.num *ℤ m)

-- where the face's border crosses the edge, if it does between its corners
pub record IsCrossingOf (c : Plane) {s : Part} (f : Face s) (e : Edge s) (found : Option Frac) : Type 0 where
  pub found_is : IfSome found (λ r. IsShort r × CrossesAt c f e r.num r.den)
  pub all : (n m : ℤ) → pos 0 <ℤ m → pos 0 ≤ℤ n → n ≤ℤ m → CrossesAt c f e n m → (r : Frac) × (found ≡ Some r) × (n *ℤ r.den ≡ r.num *ℤ m)
