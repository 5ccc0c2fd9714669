-- Where the halves of a part begin and end, in numbers, and the tables of twins and of edges.
use Rattle.std.specs.Prelude.{◌≡◌, ℕ, ◌*◌, ◌/◌, ◌%◌, ◌<◌, Bool, List, filter, map, length, nat_lt, slice_index, slice_index_or}
use Rattle.std.specs.List.{range_with_len}
use Rattle.lattice.specs.declared.soup.Tri.{Tri}
use Rattle.geometry.specs.Parts.{start_of, end_of}
use Rattle.solid_mesh.specs.declared.sides.DirectedSide.{DirectedSide}

-- the triangle that a half is a side of; of a number that no half has, three zeros
abbrev pub triangle_at : List Tri → ℕ → Tri
triangle_at triangles half = slice_index_or triangles (half / 3) (record { a = 0; b = 0; c = 0 })

abbrev pub start_at : List Tri → ℕ → ℕ
start_at triangles half = start_of (triangle_at triangles half) (half % 3)

abbrev pub end_at : List Tri → ℕ → ℕ
end_at triangles half = end_of (triangle_at triangles half) (half % 3)

-- the side along a half
abbrev pub side_at : List Tri → ℕ → DirectedSide
side_at triangles half = record { from = start_at triangles half; to = end_at triangles half }

-- the sides along the first halves, in order
abbrev pub first_sides : List Tri → ℕ → List DirectedSide
first_sides triangles count = map (side_at triangles) (range_with_len 0 count)

-- the sides along all halves, in order
abbrev pub sides_of : List Tri → List DirectedSide
sides_of triangles = first_sides triangles (3 * length triangles)

-- the other number is that of a half which goes back
pub record GoesBack (triangles : List Tri) (half other : ℕ) : Type 0 where
  pub within : other < 3 * length triangles
  pub start : start_at triangles other ≡ end_at triangles half
  pub end : end_at triangles other ≡ start_at triangles half

-- the table gives each half one that goes back
pub record AreTwins (triangles : List Tri) (twins : List ℕ) : Type 0 where
  pub for_each : length twins ≡ 3 * length triangles
  pub back : (half : ℕ) → half < length twins → GoesBack triangles half (slice_index twins half)

-- the half is lower than its twin
abbrev pub is_lower : List ℕ → ℕ → Bool
is_lower twins half = nat_lt half (slice_index twins half)

-- the halves that are lower than their twins, in order
abbrev pub lower_halves_of : List ℕ → List ℕ
lower_halves_of twins = filter (is_lower twins) (range_with_len 0 (length twins))
