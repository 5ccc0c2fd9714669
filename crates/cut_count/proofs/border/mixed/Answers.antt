use Rattle.std.proofs.Common.{◌*◌, ◌≤◌, ◌^◌, sym, subst}
use Rattle.std.specs.Prelude.{ℤ, pos, ◌*ℤ◌, unsigned_abs}
use Rattle.std.specs.Int.{w128}
use Rattle.integers.proofs.Worth.{known, fits, pass, plus, times, size_of}
use Rattle.cut_count.proofs.MiddleSizes.{coordinate, near}
use Rattle.cut_count.proofs.border.mixed.Goals as goal

pub overflow_add-result : goal.overflow_add-result
overflow_add-result c =
    let x = pass w128 (known c.args.x (2 ^ 45) (coordinate c.args.x c.args.w c.requires.first c.requires.fourth)) tt in
    let y = pass w128 (known c.args.y (2 ^ 45) (coordinate c.args.y c.args.v c.requires.second c.requires.third)) tt in
    let v = pass w128 (known c.args.v (2 ^ 24) c.requires.third) tt in
    let w = pass w128 (known c.args.w (2 ^ 24) c.requires.fourth) tt in
    fits w128 (plus (pass w128 (times x v) tt) (pass w128 (times y w) tt)) tt

pub returns-clause-value : goal.returns-clause-value
returns-clause-value c =
    let x = pass w128 (known c.args.x (2 ^ 45) (coordinate c.args.x c.args.w c.requires.first c.requires.fourth)) tt in
    let y = pass w128 (known c.args.y (2 ^ 45) (coordinate c.args.y c.args.v c.requires.second c.requires.third)) tt in
    let v = pass w128 (known c.args.v (2 ^ 24) c.requires.third) tt in
    let w = pass w128 (known c.args.w (2 ^ 24) c.requires.fourth) tt in
    (pass w128 (plus (pass w128 (times x v) tt) (pass w128 (times y w) tt)) tt).is

pub returns-clause-near : goal.returns-clause-near
returns-clause-near c =
    let Near : ℤ → Type 0 = λ r. unsigned_abs r ≤ 2 ^ 21 * unsigned_abs (pos 2 *ℤ (c.args.w *ℤ c.args.v)) in
    subst Near (sym (returns-clause-value c)) (near c.args.x c.args.v c.args.y c.args.w c.requires.first c.requires.second)

pub returns-clause-size : goal.returns-clause-size
returns-clause-size c =
    let x = pass w128 (known c.args.x (2 ^ 45) (coordinate c.args.x c.args.w c.requires.first c.requires.fourth)) tt in
    let y = pass w128 (known c.args.y (2 ^ 45) (coordinate c.args.y c.args.v c.requires.second c.requires.third)) tt in
    let v = pass w128 (known c.args.v (2 ^ 24) c.requires.third) tt in
    let w = pass w128 (known c.args.w (2 ^ 24) c.requires.fourth) tt in
    size_of (2 ^ 70) (pass w128 (plus (pass w128 (times x v) tt) (pass w128 (times y w) tt)) tt) tt
