-- Products of numbers that are no larger than a sheet is wide, in 64 bits.
use Rattle.std.proofs.Common.{ℤ, ◌*ℤ◌, ◌*◌, ◌≤◌, FitsSigned, to_z, of_z, unsigned_abs}
use Rattle.std.specs.Int.{w64}
use Rattle.integers.proofs.Worth.{Reads, known, fits, pass, times}

input : (x : ℤ) → unsigned_abs x ≤ 118900 → Reads (to_z w64 (of_z w64 x)) x 118900
input x h = pass w64 (known x 118900 h) tt

pub product : (x y : ℤ) → unsigned_abs x ≤ 118900 → unsigned_abs y ≤ 118900
    → Reads (to_z w64 (of_z w64 (to_z w64 (of_z w64 x) *ℤ to_z w64 (of_z w64 y)))) (x *ℤ y) (118900 * 118900)
product x y h k = pass w64 (times (input x h) (input y k)) tt

pub product_fits : (x y : ℤ) → unsigned_abs x ≤ 118900 → unsigned_abs y ≤ 118900 → FitsSigned w64 (to_z w64 (of_z w64 x) *ℤ to_z w64 (of_z w64 y))
product_fits x y h k = fits w64 (times (input x h) (input y k)) tt
