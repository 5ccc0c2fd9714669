-- Lengths on a sheet of up to 3 mm are less than 2^32 units.
use Rattle.std.proofs.Common.{ℕ, zero, suc, ◌*◌, ◌/◌, ◌<◌, ◌≤◌, ◌^◌, max, mul-le-mul, arith}
use Rattle.std.proofs.Math.Nat.{div-le_self}
use Rattle.job_file.specs.declared.job.Scale.{Scale}
use Rattle.sheet_plan.proofs.Scales.{scale_bounds}

power_small : (k : ℕ) → k ≤ 6 → 10 ^ k ≤ 10 ^ 6
power_small zero h = omega arith
power_small (suc zero) h = omega arith
power_small (suc (suc zero)) h = omega arith
power_small (suc (suc (suc zero))) h = omega arith
power_small (suc (suc (suc (suc zero)))) h = omega arith
power_small (suc (suc (suc (suc (suc zero))))) h = omega arith
power_small (suc (suc (suc (suc (suc (suc zero)))))) h = omega arith
power_small (suc (suc (suc (suc (suc (suc (suc k))))))) h = absurd (omega arith)

pub spacing_fits : (s : Scale) (k tenths : ℕ) → k ≤ 6 → tenths ≤ 30 → max (tenths * 10 ^ k * s.den / (10 * s.num)) 1 < 2 ^ 32
spacing_fits s k tenths few short =
    let b = scale_bounds s.num s.den s.listed in
    let product = mul-le-mul (mul-le-mul short (power_small k few)) b.den_greatest in
    let quotient = div-le_self (tenths * 10 ^ k * s.den) (10 * s.num) in
    omega arith
