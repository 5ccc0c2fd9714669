use Rattle.std.proofs.Common.{◌<◌, ◌^◌, ◌≤ℤ◌, unsigned_abs}
use Rattle.lattice.specs.Points.{of_vector, point_of, scaled}
use Rattle.lattice.specs.Triple.{dot}
use Rattle.solid_mesh.specs.Solids.{solid_part}
use Rattle.sheet_plan.proofs.Extremes.{IsExtreme, AtMost, AtLeast}
use Rattle.sheet_plan.proofs.extents.reach_along.Given as goal

-- they are the least and the greatest of the corners so far
abbrev pub invariant-loop-i : goal.invariant-loop-i
invariant-loop-i l = record {
  least : IsExtreme AtMost (λ c. dot (of_vector l.axis) (scaled (point_of c))) (solid_part l.solid).corners l.i l.least;
  greatest : IsExtreme AtLeast (λ c. dot (of_vector l.axis) (scaled (point_of c))) (solid_part l.solid).corners l.i l.greatest;
  ordered : l.least ≤ℤ l.greatest;
  least_size : unsigned_abs l.least < 2 ^ 29;
  greatest_size : unsigned_abs l.greatest < 2 ^ 29;
}
