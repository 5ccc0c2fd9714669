use Rattle.std.proofs.Common.{◌≡◌, ◌≤◌, ◌^◌, rules, arith, FitsSigned, to_z, of_z}
use Rattle.std.specs.Prelude.{ℤ, unsigned_abs}
use Rattle.std.specs.Int.{w64, w128}
use Rattle.std.proofs.lemmas.Int.{ints, to_z-of_z}
use Rattle.integers.specs.Floors.{IsFloor}
use Rattle.integers.proofs.Floors.{floor_of_quotient}
use Rattle.integers.proofs.FloorSizes.{IsFloor-size}
use Rattle.hatch_fill.proofs.numbers.floored.Goals as goal

floor_is : (c : goal.After-div_euclid) → IsFloor c.div_euclid.result c.args.n c.args.d
floor_is c =
    let num_fits = c.ranges.n in
    let den_fits = c.ranges.d in
    let result_fits : FitsSigned w128 c.div_euclid.result = search rules in
    floor_of_quotient c.div_euclid.result _ _ c.requires.positive (simp to_z-of_z at c.div_euclid.ensures)

small : (c : goal.After-div_euclid) → unsigned_abs c.div_euclid.result ≤ 2 ^ 31
small c = IsFloor-size c.div_euclid.result c.args.n c.args.d (2 ^ 31) c.requires.positive c.requires.near (floor_is c)

narrow : (x : ℤ) → unsigned_abs x ≤ 2 ^ 31 → to_z w64 (of_z w64 (to_z w128 (of_z w128 x))) ≡ x
narrow x h = omega (arith, ints)

fits : (x : ℤ) → unsigned_abs x ≤ 2 ^ 31 → FitsSigned w64 (to_z w128 (of_z w128 x))
fits x h = omega (arith, ints)

pub overflow_cast-result : goal.overflow_cast-result
overflow_cast-result c = fits c.div_euclid.result (small c)

pub returns-clause-floor : goal.returns-clause-floor
returns-clause-floor c = rw (narrow c.div_euclid.result (small c)) (floor_is c)

pub returns-clause-size : goal.returns-clause-size
returns-clause-size c = rw (narrow c.div_euclid.result (small c)) (small c)
