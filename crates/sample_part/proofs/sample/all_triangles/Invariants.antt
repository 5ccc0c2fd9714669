use Rattle.std.proofs.Common.{◌≡◌, flat_map}
use Rattle.sample_part.specs.Boxes.{below, cube_triangles}
use Rattle.sample_part.proofs.sample.all_triangles.Given as goal

-- the triangles of the first cubes
abbrev pub invariant-loop-number : goal.invariant-loop-number
invariant-loop-number l = l.all.items ≡ flat_map cube_triangles (below l.number)
