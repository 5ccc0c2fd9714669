-- How far a corner is above a plane.
use Rattle.std.specs.Prelude.{◌⊎◌, ℤ, pos, ◌<ℤ◌}
use Rattle.lattice.specs.declared.points.Corner.{Corner}
use Rattle.lattice.specs.Triple.{dot}
use Rattle.geometry.specs.Faces.{difference, normal}

-- positive where the corner p is above the plane of a, b and c, 0 where it is in the plane; the normal points up
abbrev pub height_of : Corner → Corner → Corner → Corner → ℤ
height_of a b c p = dot (difference a p) (normal a b c)

-- two corners, by how far they are above a plane, are both above it, or both below it
abbrev pub AreOnOneSide : ℤ → ℤ → Type 0
AreOnOneSide start end = ((start <ℤ pos 0) × (end <ℤ pos 0)) ⊎ ((pos 0 <ℤ start) × (pos 0 <ℤ end))
