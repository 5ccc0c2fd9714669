-- Flips of slivers: a triangle that is nearly flat, and the neighbour at its longest side, exchange that side for the other diagonal.
use Rattle.std.specs.Prelude.{◌≡◌, ◌≢◌, ◌⊎◌, ℕ, zero, suc, ◌+◌, ◌≤◌, max, ℤ, pos, ◌*ℤ◌, ◌<ℤ◌, ◌≤ℤ◌, List, Contains, Some, slice_get, slice_set}
use Rattle.lattice.specs.declared.points.Corner.{Corner}
use Rattle.lattice.specs.declared.soup.Tri.{Tri}
use Rattle.flip_slivers.specs.declared.bounded.Bounded.{Bounded}
use Rattle.flip_slivers.specs.Heights.{HasHeight, IsLower, IsRoundedUp, side_square}

-- the triangle by its corners' numbers
abbrev pub tri : ℕ → ℕ → ℕ → Tri
tri a b c = record { a = a; b = b; c = c }

-- the triangle's corners in their order, from any one of them on
abbrev pub IsRound : Tri → Tri → Type 0
IsRound t u = (u ≡ tri t.a t.b t.c) ⊎ (u ≡ tri t.b t.c t.a) ⊎ (u ≡ tri t.c t.a t.b)

-- the triangle has the directed side from m to n
abbrev pub HasSide : Tri → ℕ → ℕ → Type 0
HasSide t m n = ((t.a ≡ m) × (t.b ≡ n)) ⊎ ((t.b ≡ m) × (t.c ≡ n)) ⊎ ((t.c ≡ m) × (t.a ≡ n))

abbrev pub IsSideOf : List Bounded → ℕ → ℕ → Type 0
IsSideOf surface m n = (x : Bounded) × Contains surface x × HasSide x.tri m n

-- A sliver with corners a, b and c, and its neighbour with corners b, a and d. The side from a to b is a longest one of the sliver,
-- whose height there is at most 2 units.
pub record IsSliverBeside (corners : List Corner) (sliver neighbour : Tri) (a b c d : ℕ) (area side : ℤ) : Type 0 where
  pub turned : IsRound sliver (tri a b c)
  pub beside : IsRound neighbour (tri b a d)
  pub height : HasHeight corners (tri a b c) area side
  pub on_longest : side ≡ side_square height.placed.a height.placed.b
  pub long : pos 0 <ℤ side
  pub low : area ≤ℤ (pos 4 *ℤ side)

-- the two triangles on the other diagonal
abbrev pub first_of : ℕ → ℕ → ℕ → ℕ → Tri
first_of a b c d = tri a d c

abbrev pub second_of : ℕ → ℕ → ℕ → ℕ → Tri
second_of a b c d = tri d b c

-- the lesser height of the two rises
abbrev pub IsRise : List Corner → Tri → Tri → Tri → Tri → Type 0
IsRise corners s t u v = (IsLower corners s u × IsLower corners s v) ⊎ (IsLower corners t u × IsLower corners t v)

-- One flip. The new side was no side before, in either direction; and the bound that both triangles get, the greater of the old two
-- and the sliver's height more, is at most `most`.
pub record IsFlip (corners : List Corner) (most : ℕ) (old new : List Bounded) : Type 0 where
  pub i : ℕ
  pub j : ℕ
  pub different : i ≢ j
  pub sliver : Bounded
  pub neighbour : Bounded
  pub at_sliver : slice_get old i ≡ Some sliver
  pub at_neighbour : slice_get old j ≡ Some neighbour
  pub a : ℕ
  pub b : ℕ
  pub c : ℕ
  pub d : ℕ
  pub area : ℤ
  pub side : ℤ
  pub is_sliver : IsSliverBeside corners sliver.tri neighbour.tri a b c d area side
  pub no_side : ¬ IsSideOf old c d
  pub no_side_back : ¬ IsSideOf old d c
  pub rises : IsRise corners sliver.tri neighbour.tri (first_of a b c d) (second_of a b c d)
  pub rise : ℕ
  pub is_rise : IsRoundedUp rise area side
  pub bound : ℕ
  pub is_bound : bound ≡ max sliver.bound neighbour.bound + rise
  pub within : bound ≤ most
  pub changed : new ≡ slice_set (slice_set old i (record { tri = first_of a b c d; bound = bound })) j (record { tri = second_of a b c d; bound = bound })

-- so many flips lead from the one surface to the other
pub data AreFlips (corners : List Corner) (most : ℕ) : ℕ → List Bounded → List Bounded → Type 0 where
  none : (s : List Bounded) → AreFlips corners most zero s s
  more : (n : ℕ) (s t u : List Bounded) → AreFlips corners most n s t → IsFlip corners most t u → AreFlips corners most (suc n) s u

-- triangles that nothing has moved
abbrev pub unmoved : Tri → Bounded
unmoved t = record { tri = t; bound = 0 }

-- no bound is greater
abbrev pub IsGreatestBound : List Bounded → ℕ → Type 0
IsGreatestBound surface n = ((x : Bounded) → Contains surface x → x.bound ≤ n) × ((n ≡ 0) ⊎ ((x : Bounded) × Contains surface x × (x.bound ≡ n)))
