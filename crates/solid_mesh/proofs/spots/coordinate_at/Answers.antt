use Rattle.std.proofs.Common.{◌≡◌, ◌*◌, ◌<◌, ◌≤◌, ◌^◌, subst, sym, arith}
use Rattle.std.specs.Prelude.{ℤ, pos, ◌+ℤ◌, ◌-ℤ◌, ◌*ℤ◌, ◌≤ℤ◌, unsigned_abs}
use Rattle.std.specs.Int.{w32, w128}
use Rattle.std.proofs.lemmas.Int.{ints}
use Rattle.integers.proofs.Sizes.{abs_mix}
use Rattle.integers.proofs.Worth.{known, below, via, fits, pass, plus, minus, times}
use Rattle.solid_mesh.proofs.spots.coordinate_at.Goals as goal

pub overflow_add-result : goal.overflow_add-result
overflow_add-result c =
    let t = c.args.t.now in
    let num : unsigned_abs t.num < 2 ^ 69 = omega (arith, ints) in
    let share = pass w128 (below t.num (2 ^ 69) num) tt in
    let rest = pass w128 (minus (pass w128 (below t.den (2 ^ 69) c.requires.small) tt) share) tt in
    let first = pass w128 (times rest (pass w128 (via c.from.ensures (pass w32 (known c.args.a (2 ^ 20) c.requires.first) tt)) tt)) tt in
    let second = pass w128 (times share (pass w128 (via c.from-2.ensures (pass w32 (known c.args.b (2 ^ 20) c.requires.second) tt)) tt)) tt in
    fits w128 (plus first second) tt

pub returns-clause-value : goal.returns-clause-value
returns-clause-value c =
    let t = c.args.t.now in
    let num : unsigned_abs t.num < 2 ^ 69 = omega (arith, ints) in
    let share = pass w128 (below t.num (2 ^ 69) num) tt in
    let rest = pass w128 (minus (pass w128 (below t.den (2 ^ 69) c.requires.small) tt) share) tt in
    let first = pass w128 (times rest (pass w128 (via c.from.ensures (pass w32 (known c.args.a (2 ^ 20) c.requires.first) tt)) tt)) tt in
    let second = pass w128 (times share (pass w128 (via c.from-2.ensures (pass w32 (known c.args.b (2 ^ 20) c.requires.second) tt)) tt)) tt in
    (pass w128 (plus first second) tt).is

pub returns-clause-near : goal.returns-clause-near
returns-clause-near c =
    let t = c.args.t.now in
    let rest : pos 0 ≤ℤ (t.den -ℤ t.num) = omega (arith, ints) in
    let whole : (t.den -ℤ t.num) +ℤ t.num ≡ t.den = omega (arith, ints) in
    let mix = abs_mix (t.den -ℤ t.num) t.num c.args.a c.args.b (2 ^ 20) rest c.requires.from_start c.requires.first c.requires.second in
    let Near : ℤ → ℤ → Type 0 = λ r d. unsigned_abs r ≤ 2 ^ 20 * unsigned_abs d in
    subst (λ (r : ℤ). Near r t.den) (sym (returns-clause-value c)) (subst (Near (((t.den -ℤ t.num) *ℤ c.args.a) +ℤ (t.num *ℤ c.args.b))) whole mix)

pub returns-clause-size : goal.returns-clause-size
returns-clause-size c = let near = returns-clause-near c in omega (arith, c.requires.small, near)
