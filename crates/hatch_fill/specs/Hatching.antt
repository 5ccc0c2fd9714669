-- Hatch lines, and when a list of them fills a section.
use Rattle.std.specs.Prelude.{◌≡◌, ◌⊎◌, ◌↔◌, ℕ, ℤ, pos, ◌*ℤ◌, ◌<ℤ◌, List, All, AllPairs, Contains}
use Rattle.lattice.specs.declared.pieces.HatchLine.{HatchLine}
use Rattle.lattice.specs.Triple.{Triple}
use Rattle.lattice.specs.Points.{Point, IsPoint, of_spot, across_of, OnOneSight}
use Rattle.lattice.specs.Cuts.{Plane, toward_of, IsOnPlane}
use Rattle.geometry.specs.Parts.{Part, Face}
use Rattle.geometry.specs.Cuts.{IsInSection, border, IsSeenOverInCut}
use Rattle.geometry.specs.Pieces.{LiesBetween}
use Rattle.cut_plane.specs.Diagonals.{diagonal_of, IsUnderBorder}

-- the point is seen where U - V is this number of spacings
abbrev pub IsOnHatch : Triple → ℕ → ℤ → Point → Type 0
IsOnHatch d spacing number p = diagonal_of d p ≡ (number *ℤ pos spacing) *ℤ p.w

-- p is seen further left than q
abbrev pub IsLeftOf : Triple → Point → Point → Type 0
IsLeftOf d p q = (across_of d p *ℤ q.w) <ℤ (across_of d q *ℤ p.w)

-- both ends are in the plane and where U - V is this number of spacings, the left one first
pub record IsHatchLine (c : Plane) (spacing : ℕ) (number : ℤ) (x : HatchLine) : Type 0 where
  pub first : IsOnHatch (toward_of c) spacing number (of_spot x.a)
  pub second : IsOnHatch (toward_of c) spacing number (of_spot x.b)
  pub first_in_plane : IsOnPlane c (of_spot x.a)
  pub second_in_plane : IsOnPlane c (of_spot x.b)
  pub forward : IsLeftOf (toward_of c) (of_spot x.a) (of_spot x.b)

abbrev pub LiesOnHatch : Triple → HatchLine → Point → Type 0
LiesOnHatch d x p = LiesBetween d x.a x.b p

-- the line does not run along the face's border: any two of its points under that are seen at one place
abbrev pub IsOffBorder : Plane → {s : Part} → Face s → HatchLine → Type 0
IsOffBorder c f x = (p q : Point) → IsPoint p → IsPoint q → LiesOnHatch (toward_of c) x p → LiesOnHatch (toward_of c) x q → IsSeenOverInCut c (border f) p → IsSeenOverInCut c (border f) q → OnOneSight (toward_of c) p q

-- no point lies on both
abbrev pub AreApart : Triple → HatchLine → HatchLine → Type 0
AreApart d x y = (p : Point) → IsPoint p → LiesOnHatch d x p → LiesOnHatch d y p → ⊥

-- by the number of the line, and then from left to right
abbrev pub HatchStandsBefore : Plane → ℕ → HatchLine → HatchLine → Type 0
HatchStandsBefore c spacing x y =
    (m n : ℤ) → IsHatchLine c spacing m x → IsHatchLine c spacing n y → (m <ℤ n) ⊎ ((m ≡ n) × IsLeftOf (toward_of c) (of_spot x.a) (of_spot y.a))

-- the lines fill the section of the part: where U - V is a whole number of spacings, and off the borders, exactly the points in the section are on them
pub record IsHatching (c : Plane) (s : Part) (spacing : ℕ) (lines : List HatchLine) : Type 0 where
  pub each : All (λ x. (number : ℤ) × IsHatchLine c spacing number x) lines
  pub exactly : (number : ℤ) (p : Point) → IsPoint p → IsOnHatch (toward_of c) spacing number p → ¬ IsUnderBorder c s p
      → ((x : HatchLine) × Contains lines x × LiesOnHatch (toward_of c) x p) ↔ IsInSection c s p
  pub off_borders : (f : Face s) → All (IsOffBorder c f) lines
  pub apart : AllPairs (AreApart (toward_of c)) lines
  pub order : AllPairs (HatchStandsBefore c spacing) lines
