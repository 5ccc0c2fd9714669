-- How corners are numbered in the order of their first use, while a part is welded.
use Rattle.std.specs.Prelude.{◌≡◌, ℕ, ◌⊎◌, Bool, ◌&&◌, List, [], ◌∷◌, ◌++◌, length, map, slice_get, Some}
use Rattle.std.specs.List.{IsDistinct}
use Rattle.std.specs.Ordering.{int_eq}
use Rattle.lattice.specs.declared.points.Corner.{Corner}
use Rattle.lattice.specs.declared.soup.Tri.{Tri}
use Rattle.lattice.specs.Points.{of_corner}
use Rattle.lattice.specs.Triple.{Triple}
use Rattle.weld.specs.declared.welding.UnitPlace.{UnitPlace}

abbrev pub of_place : UnitPlace → Triple
of_place p = record { x = p.x; y = p.y; z = p.z }

-- the test of two places, coordinate by coordinate
abbrev pub same_place : UnitPlace → UnitPlace → Bool
same_place p q = int_eq p.x q.x && (int_eq p.y q.y && int_eq p.z q.z)

-- the places are those of the corners, in order, and no two are equal
pub record IsTied (places : List UnitPlace) (corners : List Corner) : Type 0 where
  pub same : map of_place places ≡ map of_corner corners
  pub distinct : IsDistinct same_place places

-- p has the number n in the new list, which is the old one, or has p behind it
pub record Numbers (old new : List Triple) (p : Triple) (n : ℕ) : Type 0 where
  pub at : slice_get new n ≡ Some p
  pub grown : (new ≡ old) ⊎ ((new ≡ old ++ p ∷ []) × (n ≡ length old))

-- the triangle has the numbers of the three places, which were numbered one after the other
pub record NumbersAll (old new : List Triple) (t : Triple × Triple × Triple) (numbers : Tri) : Type 0 where
  pub first : List Triple
  pub second : List Triple
  pub a : Numbers old first t.0 numbers.a
  pub b : Numbers first second t.1 numbers.b
  pub c : Numbers second new t.2 numbers.c
