-- The cubes of a sample by their numbers.
use Rattle.std.specs.Prelude.{ℕ, ◌*◌, ◌/◌, ◌%◌}
use Rattle.sample_part.specs.declared.cubes.Cube.{Cube}
use Rattle.sample_part.specs.Boxes.{CubePlace}

abbrev pub place_of : Cube → CubePlace
place_of c = record { i = c.i; j = c.j; h = c.h }

-- the cube of this number in `cubes n`, the first of which has the number 0
abbrev pub cube_at : ℕ → ℕ → CubePlace
cube_at n number = record { i = number / (n * n); j = number / n % n; h = number % n }
