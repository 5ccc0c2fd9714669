-- Sides in chunks.
use Rattle.std.specs.Prelude.{ℕ, ◌+◌, ◌-◌, min, max, nat_lt, Bool, ◌||◌, List}
use Rattle.std.specs.List.{flat_map}
use Rattle.near_lines.specs.declared.chunk.Chunk.{Chunk}
use Rattle.near_lines.specs.declared.extent.Extent.{Extent}
use Rattle.near_lines.specs.declared.sides.Side.{Side}

-- the sides of all chunks, one after the other
abbrev pub sides_of : List Chunk → List Side
sides_of chunks = flat_map (λ c. c.sides.items) chunks

-- the side is farther than this outside the box
abbrev pub is_missed : ℕ → Side → Extent → Bool
is_missed d p e = (nat_lt (max p.x1 p.x2 + d) e.left || nat_lt e.right (min p.x1 p.x2 - d)) || (nat_lt (max p.y1 p.y2 + d) e.top || nat_lt e.bottom (min p.y1 p.y2 - d))
