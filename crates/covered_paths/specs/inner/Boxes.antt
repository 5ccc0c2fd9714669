-- Boxes around legs.
use Rattle.std.specs.Prelude.{Bool, ◌||◌, ℤ, pos, ◌+ℤ◌, ◌-ℤ◌, List, fold}
use Rattle.std.specs.Int.Signed.{lt_z}
use Rattle.covered_paths.specs.Covering.{lower, upper}
use Rattle.covered_paths.specs.declared.extent.Extent.{Extent}
use Rattle.covered_paths.specs.declared.legs.Leg.{Leg}

-- the box of no leg
abbrev pub no_extent : Extent
no_extent = record { left = pos 131072; right = pos 0; top = pos 131072; bottom = pos 0 }

-- the box with one more leg
abbrev pub widened : Extent → Leg → Extent
widened e s = record { left = lower e.left (lower s.x1 s.x2); right = upper e.right (upper s.x1 s.x2); top = lower e.top (lower s.y1 s.y2); bottom = upper e.bottom (upper s.y1 s.y2) }

abbrev pub extent_of : List Leg → Extent
extent_of legs = fold widened no_extent legs

-- a number is farther than this below or above two others; a point is so far outside the box
unfoldable pub is_outside : ℤ → ℤ → ℤ → ℤ → Bool
is_outside far z low high = lt_z (z +ℤ far) low || lt_z high (z -ℤ far)

unfoldable pub is_missed : ℤ → ℤ → ℤ → Extent → Bool
is_missed far x y e = is_outside far x e.left e.right || is_outside far y e.top e.bottom
