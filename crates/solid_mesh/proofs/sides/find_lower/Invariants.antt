use Rattle.std.proofs.Common.{◌≡◌, filter}
use Rattle.std.specs.List.{range_with_len}
use Rattle.solid_mesh.specs.inner.Halves.{is_lower}
use Rattle.solid_mesh.proofs.sides.find_lower.Given as goal

abbrev pub invariant-loop-half : goal.invariant-loop-half
invariant-loop-half l = l.halves.items ≡ filter (is_lower l.twins) (range_with_len 0 l.half)
