use Rattle.std.proofs.Common.{◌≡◌, ◌+◌, ◌*◌, ◌<◌, ◌≤◌, ◌^◌, ℕ, subst, sym, arith}
use Rattle.std.specs.Prelude.{ℤ, pos, ◌+ℤ◌, ◌*ℤ◌, unsigned_abs}
use Rattle.std.specs.Int.{w32, w128}
use Rattle.std.proofs.lemmas.Int.{ints}
use Rattle.integers.proofs.Sizes.{abs_mix}
use Rattle.integers.proofs.Worth.{known, via, fits, pass, plus, times}
use Rattle.cut_plane.proofs.side_crossings.mixed.Goals as goal

weight : (i : ℕ) → i < 2 ^ 23 → unsigned_abs (pos i) ≤ 2 ^ 23
weight i h = omega arith

pub overflow_add-result : goal.overflow_add-result
overflow_add-result c =
    let first = times (pass w128 (via c.from.ensures (known (pos c.args.i) (2 ^ 23) (weight c.args.i c.requires.first))) tt) (pass w128 (via c.from-2.ensures (pass w32 (known c.args.a (2 ^ 20) c.requires.third) tt)) tt) in
    let second = times (pass w128 (via c.from-3.ensures (known (pos c.args.j) (2 ^ 23) (weight c.args.j c.requires.second))) tt) (pass w128 (via c.from-4.ensures (pass w32 (known c.args.b (2 ^ 20) c.requires.fourth) tt)) tt) in
    fits w128 (plus (pass w128 first tt) (pass w128 second tt)) tt

pub returns-clause-value : goal.returns-clause-value
returns-clause-value c =
    let first = times (pass w128 (via c.from.ensures (known (pos c.args.i) (2 ^ 23) (weight c.args.i c.requires.first))) tt) (pass w128 (via c.from-2.ensures (pass w32 (known c.args.a (2 ^ 20) c.requires.third) tt)) tt) in
    let second = times (pass w128 (via c.from-3.ensures (known (pos c.args.j) (2 ^ 23) (weight c.args.j c.requires.second))) tt) (pass w128 (via c.from-4.ensures (pass w32 (known c.args.b (2 ^ 20) c.requires.fourth) tt)) tt) in
    (pass w128 (plus (pass w128 first tt) (pass w128 second tt)) tt).is

near : (i j : ℕ) (a b : ℤ) → unsigned_abs a ≤ 2 ^ 20 → unsigned_abs b ≤ 2 ^ 20 → unsigned_abs ((pos i *ℤ a) +ℤ (pos j *ℤ b)) ≤ 2 ^ 20 * (i + j)
near i j a b h k =
    let P : ℕ → Type 0 = λ n. unsigned_abs ((pos i *ℤ a) +ℤ (pos j *ℤ b)) ≤ 2 ^ 20 * n in
    let sum : unsigned_abs (pos i +ℤ pos j) ≡ i + j = omega (arith, ints) in
    subst P sum (abs_mix (pos i) (pos j) a b (2 ^ 20) (omega (arith, ints)) (omega (arith, ints)) h k)

pub returns-clause-near : goal.returns-clause-near
returns-clause-near c =
    let Near : ℤ → Type 0 = λ r. unsigned_abs r ≤ 2 ^ 20 * (c.args.i + c.args.j) in
    subst Near (sym (returns-clause-value c)) (near c.args.i c.args.j c.args.a c.args.b c.requires.third c.requires.fourth)
