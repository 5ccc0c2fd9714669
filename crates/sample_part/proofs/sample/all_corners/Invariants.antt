use Rattle.std.proofs.Common.{◌≡◌, map, flat_map}
use Rattle.lattice.specs.Points.{of_corner}
use Rattle.sample_part.specs.Boxes.{below, cube_corners}
use Rattle.sample_part.specs.inner.Cubes.{cube_at}
use Rattle.sample_part.proofs.sample.all_corners.Given as goal

-- the corners of the first cubes
abbrev pub invariant-loop-number : goal.invariant-loop-number
invariant-loop-number l = map of_corner l.corners.items ≡ flat_map (λ c. cube_corners (cube_at l.fn.n c)) (below l.number)
