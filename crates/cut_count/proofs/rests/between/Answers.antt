use Rattle.std.proofs.Common.{◌<◌, ◌≤◌, ◌^◌, arith}
use Rattle.std.specs.Prelude.{ℤ, pos, ◌≤ℤ◌, unsigned_abs}
use Rattle.std.specs.Int.{w128}
use Rattle.std.proofs.lemmas.Int.{ints}
use Rattle.integers.proofs.Worth.{below, known, wide, fits, pass, plus, minus, times, below_of}
use Rattle.cut_count.proofs.rests.between.Goals as goal

height : (z : ℤ) → unsigned_abs z < 2 ^ 23 → unsigned_abs z ≤ 2 ^ 23
height z h = omega arith

-- the numerator is at most as large as the denominator
numerator : (n m : ℤ) → pos 0 ≤ℤ n → n ≤ℤ m → unsigned_abs m < 2 ^ 69 → unsigned_abs n ≤ 2 ^ 69
numerator n m least most small = omega (arith, ints)

pub overflow_add-result : goal.overflow_add-result
overflow_add-result c =
    let r = c.args.at.now in
    let p = c.requires.place in
    let n = pass w128 (known r.num (2 ^ 69) (numerator r.num r.den p.least p.most p.small)) tt in
    let rest = pass w128 (minus (pass w128 (below r.den (2 ^ 69) p.small) tt) n) tt in
    let first = times rest (wide c.args.from (2 ^ 23) c.from.ensures (height c.args.from c.requires.first) tt) in
    let second = times n (wide c.args.to (2 ^ 23) c.from-2.ensures (height c.args.to c.requires.second) tt) in
    fits w128 (plus (pass w128 first tt) (pass w128 second tt)) tt

pub returns-clause-value : goal.returns-clause-value
returns-clause-value c =
    let r = c.args.at.now in
    let p = c.requires.place in
    let n = pass w128 (known r.num (2 ^ 69) (numerator r.num r.den p.least p.most p.small)) tt in
    let rest = pass w128 (minus (pass w128 (below r.den (2 ^ 69) p.small) tt) n) tt in
    let first = times rest (wide c.args.from (2 ^ 23) c.from.ensures (height c.args.from c.requires.first) tt) in
    let second = times n (wide c.args.to (2 ^ 23) c.from-2.ensures (height c.args.to c.requires.second) tt) in
    (pass w128 (plus (pass w128 first tt) (pass w128 second tt)) tt).is

pub returns-clause-size : goal.returns-clause-size
returns-clause-size c =
    let r = c.args.at.now in
    let p = c.requires.place in
    let n = pass w128 (known r.num (2 ^ 69) (numerator r.num r.den p.least p.most p.small)) tt in
    let rest = pass w128 (minus (pass w128 (below r.den (2 ^ 69) p.small) tt) n) tt in
    let first = times rest (wide c.args.from (2 ^ 23) c.from.ensures (height c.args.from c.requires.first) tt) in
    let second = times n (wide c.args.to (2 ^ 23) c.from-2.ensures (height c.args.to c.requires.second) tt) in
    below_of (2 ^ 94) (pass w128 (plus (pass w128 first tt) (pass w128 second tt)) tt) tt
