-- The least height of a triangle, which is that on a longest side: its square as a fraction.
use Rattle.std.specs.Prelude.{◌≡◌, ◌⊎◌, ℕ, ◌*◌, ◌<◌, ◌≤◌, ℤ, pos, ◌*ℤ◌, ◌<ℤ◌, ◌≤ℤ◌, List, Some, slice_get}
use Rattle.geometry.specs.Faces.{normal}
use Rattle.lattice.specs.declared.points.Corner.{Corner}
use Rattle.lattice.specs.declared.soup.Tri.{Tri}
use Rattle.lattice.specs.Points.{difference}
use Rattle.flip_slivers.specs.Near.{square}

-- the three corners of a triangle
pub record Placed (corners : List Corner) (t : Tri) : Type 0 where
  pub a : Corner
  pub b : Corner
  pub c : Corner
  pub at_a : slice_get corners t.a ≡ Some a
  pub at_b : slice_get corners t.b ≡ Some b
  pub at_c : slice_get corners t.c ≡ Some c

-- the squares of a side, and of twice the area
abbrev pub side_square : Corner → Corner → ℤ
side_square a b = square (difference a b)

abbrev pub area_square : Corner → Corner → Corner → ℤ
area_square a b c = square (normal a b c)

-- the square of a longest side
pub record IsLongest (a b c : Corner) (l : ℤ) : Type 0 where
  pub one : (l ≡ side_square a b) ⊎ (l ≡ side_square b c) ⊎ (l ≡ side_square c a)
  pub first : side_square a b ≤ℤ l
  pub second : side_square b c ≤ℤ l
  pub third : side_square c a ≤ℤ l

-- the square of the least height is area / side, where side isn't 0
pub record HasHeight (corners : List Corner) (t : Tri) (area side : ℤ) : Type 0 where
  pub placed : Placed corners t
  pub is_area : area ≡ area_square placed.a placed.b placed.c
  pub is_side : IsLongest placed.a placed.b placed.c side

-- the least height of the first triangle is less than that of the second
pub record IsLower (corners : List Corner) (t u : Tri) : Type 0 where
  pub area : ℤ
  pub side : ℤ
  pub other_area : ℤ
  pub other_side : ℤ
  pub height : HasHeight corners t area side
  pub other_height : HasHeight corners u other_area other_side
  pub less : (area *ℤ other_side) <ℤ (other_area *ℤ side)

-- a height whose square is area / side, in 1024ths of a unit, rounded up: the least whole number that isn't below it
pub record IsRoundedUp (n : ℕ) (area side : ℤ) : Type 0 where
  pub enough : (area *ℤ pos 1048576) ≤ℤ ((pos n *ℤ pos n) *ℤ side)
  pub least : (m : ℕ) → m < n → ((pos m *ℤ pos m) *ℤ side) <ℤ (area *ℤ pos 1048576)
