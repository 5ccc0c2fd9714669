use Rattle.std.proofs.Common.{◌≡◌, ◌+◌, ◌*◌, ◌<◌, ◌≤◌, ◌^◌, ◌∙◌, arith, to_z, of_z}
use Rattle.std.specs.Prelude.{ℤ, ◌-ℤ◌, unsigned_abs}
use Rattle.std.specs.Int.{w128}
use Rattle.std.proofs.lemmas.Int.{ints}
use Rattle.integers.proofs.Worth.{Reads, known, fits, pass, minus, below_of}
use Rattle.hatch_fill.proofs.numbers.diagonal.Goals as goal

-- a part of a spot near others is no larger than this
size : (n w : ℤ) → unsigned_abs n ≤ 2 ^ 30 * unsigned_abs w → unsigned_abs w < 2 ^ 70 → unsigned_abs n ≤ 2 ^ 100
size n w near short = omega (arith, near, short)

both : (a b w : ℤ) → unsigned_abs a ≤ 2 ^ 30 * unsigned_abs w → unsigned_abs b ≤ 2 ^ 30 * unsigned_abs w → unsigned_abs (a -ℤ b) ≤ 2 ^ 31 * unsigned_abs w
both a b w h k = omega (arith, ints, h, k)

gap : (a b w : ℤ) → unsigned_abs a ≤ 2 ^ 30 * unsigned_abs w → unsigned_abs b ≤ 2 ^ 30 * unsigned_abs w → unsigned_abs w < 2 ^ 70 → Reads (to_z w128 (of_z w128 a) -ℤ to_z w128 (of_z w128 b)) (a -ℤ b) (2 ^ 100 + 2 ^ 100)
gap a b w h k short = minus (pass w128 (known a (2 ^ 100) (size a w h short)) tt) (pass w128 (known b (2 ^ 100) (size b w k short)) tt)

short : (w : ℤ) → unsigned_abs w < 2 ^ 70 → to_z w128 (of_z w128 w) ≡ w
short w h = omega (arith, ints, h)

pub overflow_sub-result : goal.overflow_sub-result
overflow_sub-result c = let p = c.args.p.now in fits w128 (gap c.across.result.num c.upward.result.num p.w c.across.ensures.near c.upward.ensures.near p.w_in_range) tt

pub invariant_of-result-clause-not_least : goal.invariant_of-result-clause-not_least
invariant_of-result-clause-not_least c =
    let p = c.args.p.now in below_of (2 ^ 127) (pass w128 (gap c.across.result.num c.upward.result.num p.w c.across.ensures.near c.upward.ensures.near p.w_in_range) tt) tt

pub returns-clause-ratio : goal.returns-clause-ratio
returns-clause-ratio c =
    let p = c.args.p.now in
    let u = c.across.ensures in
    let v = c.upward.ensures in
    record { num = (pass w128 (gap c.across.result.num c.upward.result.num p.w u.near v.near p.w_in_range) tt).is ∙ (λ i. u.ratio.num i -ℤ v.ratio.num i); den = short p.w p.w_in_range }

pub returns-clause-near : goal.returns-clause-near
returns-clause-near c =
    let p = c.args.p.now in
    let u = c.across.ensures in
    let v = c.upward.ensures in
    let is = (pass w128 (gap c.across.result.num c.upward.result.num p.w u.near v.near p.w_in_range) tt).is in
    rw is (both c.across.result.num c.upward.result.num p.w u.near v.near)
