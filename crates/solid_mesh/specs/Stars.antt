-- The triangles at each corner, by their numbers.
use Rattle.std.specs.Prelude.{◌≡◌, ℕ, ◌==◌, ◌||◌, Bool, List, [], filter, map, length, slice_index_or}
use Rattle.std.proofs.Common.{Vec, Global}
use Rattle.std.specs.List.{range_with_len}
use Rattle.lattice.specs.declared.soup.Tri.{Tri}

-- one of the triangle's three corner numbers, by a test
abbrev pub has_corner : Tri → ℕ → Bool
has_corner t n = ((n == t.a) || (n == t.b)) || (n == t.c)

-- the triangle with this number has the corner; that of a number that is none has corner 0
abbrev pub is_at : List Tri → ℕ → ℕ → Bool
is_at triangles corner i = has_corner (slice_index_or triangles i (record { a = 0; b = 0; c = 0 })) corner

-- those of the first triangles that have the corner, in order
abbrev pub first_at : List Tri → ℕ → ℕ → List ℕ
first_at triangles count corner = filter (is_at triangles corner) (range_with_len 0 count)

-- what the vectors hold
abbrev pub lists_of : List (Vec ℕ Global) → List (List ℕ)
lists_of stars = map (λ star. star.items) stars

-- for each of the corners, those of the first triangles that have it
pub record AreStars (corners : ℕ) (triangles : List Tri) (count : ℕ) (stars : List (List ℕ)) : Type 0 where
  pub for_each : length stars ≡ corners
  pub right : (corner : ℕ) → slice_index_or stars corner [] ≡ first_at triangles count corner
