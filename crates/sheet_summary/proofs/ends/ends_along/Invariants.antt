use Rattle.std.proofs.Common.{◌≡◌, ◌≤◌, ◌^◌, ◌≤ℤ◌, drop, map, unsigned_abs}
use Rattle.std.specs.Prelude.{fold}
use Rattle.std.specs.Int.{int_min, int_max}
use Rattle.solid_mesh.specs.Solids.{solid_part}
use Rattle.sheet_summary.specs.Ends.{coordinate, greatest_along, least_along}
use Rattle.sheet_summary.proofs.ends.ends_along.Given as goal

-- with the corners that are left they are the ends
abbrev pub invariant-loop-i : goal.invariant-loop-i
invariant-loop-i l = record {
  least : fold int_min l.least (map (coordinate l.axis) (drop l.i (solid_part l.solid).corners)) ≡ least_along l.axis (solid_part l.solid).corners;
  greatest : fold int_max l.greatest (map (coordinate l.axis) (drop l.i (solid_part l.solid).corners)) ≡ greatest_along l.axis (solid_part l.solid).corners;
  ordered : l.least ≤ℤ l.greatest;
  least_size : unsigned_abs l.least ≤ 2 ^ 20;
  greatest_size : unsigned_abs l.greatest ≤ 2 ^ 20;
}
