use Rattle.std.proofs.Common.{◌*◌, ◌^◌, ◌≡◌, to_z, of_z, ◌*ℤ◌}
use Rattle.std.specs.Int.{w64}
use Rattle.std.proofs.lemmas.Int.{to_z-of_z}
use Rattle.integers.proofs.Worth.{Reads, fits, times, pass, known, via, size_of}
use Rattle.sheet_plan.proofs.extents.summand.Goals as goal

product : (c : goal.After-from) → Reads (to_z w64 (of_z w64 c.args.a) *ℤ to_z w64 (of_z w64 c.from.result)) (c.args.a *ℤ c.args.b) (162 * 2 ^ 20)
product c =
    let b_fits = c.ranges.b in
    let e : c.from.result ≡ c.args.b = simp to_z-of_z at c.from.ensures in
    times (pass w64 (known c.args.a 162 c.requires.first) tt) (pass w64 (via e (known c.args.b (2 ^ 20) c.requires.second)) tt)

pub overflow_mul-result : goal.overflow_mul-result
overflow_mul-result c = fits w64 (product c) tt

pub returns-clause-value : goal.returns-clause-value
returns-clause-value c = (pass w64 (product c) tt).is

pub returns-clause-size : goal.returns-clause-size
returns-clause-size c = size_of (162 * 2 ^ 20) (pass w64 (product c) tt) tt
