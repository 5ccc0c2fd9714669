use Rattle.std.proofs.Common.{◌≡◌, ◌<◌, ◌≤◌, ◌^◌, ℕ, arith, ap, to_z, of_z}
use Rattle.std.specs.Prelude.{ℤ, pos, unsigned_abs}
use Rattle.std.specs.Int.{w64, w128}
use Rattle.std.proofs.lemmas.Int.{ints}
use Rattle.integers.proofs.Worth.{Reads, below, via, fits, pass, plus, times, below_of}
use Rattle.cut_count.proofs.rests.weighed.Goals as goal

-- the size of a number that passed through the machine's
weight : (n : ℕ) (r i : ℤ) → unsigned_abs i < 2 ^ 23 → n ≡ unsigned_abs (to_z w64 (of_z w64 i)) → r ≡ pos n → Reads r (pos (unsigned_abs i)) 8388607
weight n r i h e f = via f (record { is = ap pos (same n i h e); size = small i h })
  where
    same : (n : ℕ) (i : ℤ) → unsigned_abs i < 2 ^ 23 → n ≡ unsigned_abs (to_z w64 (of_z w64 i)) → n ≡ unsigned_abs i
    same n i h e = omega (arith, ints)

    small : (i : ℤ) → unsigned_abs i < 2 ^ 23 → unsigned_abs (pos (unsigned_abs i)) ≤ 8388607
    small i h = omega (arith, ints)

pub overflow_add-result : goal.overflow_add-result
overflow_add-result c =
    let first = times (pass w128 (weight c.unsigned_abs.result c.from.result c.args.i c.requires.first c.unsigned_abs.ensures.value c.from.ensures) tt) (pass w128 (below c.args.x (2 ^ 48) c.requires.second) tt) in
    let second = times (pass w128 (weight c.unsigned_abs-2.result c.from-2.result c.args.j c.requires.third c.unsigned_abs-2.ensures.value c.from-2.ensures) tt) (pass w128 (below c.args.y (2 ^ 48) c.requires.fourth) tt) in
    fits w128 (plus (pass w128 first tt) (pass w128 second tt)) tt

pub returns-clause-value : goal.returns-clause-value
returns-clause-value c =
    let first = times (pass w128 (weight c.unsigned_abs.result c.from.result c.args.i c.requires.first c.unsigned_abs.ensures.value c.from.ensures) tt) (pass w128 (below c.args.x (2 ^ 48) c.requires.second) tt) in
    let second = times (pass w128 (weight c.unsigned_abs-2.result c.from-2.result c.args.j c.requires.third c.unsigned_abs-2.ensures.value c.from-2.ensures) tt) (pass w128 (below c.args.y (2 ^ 48) c.requires.fourth) tt) in
    (pass w128 (plus (pass w128 first tt) (pass w128 second tt)) tt).is

pub returns-clause-size : goal.returns-clause-size
returns-clause-size c =
    let first = times (pass w128 (weight c.unsigned_abs.result c.from.result c.args.i c.requires.first c.unsigned_abs.ensures.value c.from.ensures) tt) (pass w128 (below c.args.x (2 ^ 48) c.requires.second) tt) in
    let second = times (pass w128 (weight c.unsigned_abs-2.result c.from-2.result c.args.j c.requires.third c.unsigned_abs-2.ensures.value c.from-2.ensures) tt) (pass w128 (below c.args.y (2 ^ 48) c.requires.fourth) tt) in
    below_of (2 ^ 72) (pass w128 (plus (pass w128 first tt) (pass w128 second tt)) tt) tt
