use Rattle.std.proofs.Common.{◌^◌}
use Rattle.std.specs.Int.{w128}
use Rattle.integers.proofs.Worth.{wide, fits, pass, minus, times, size_of}
use Rattle.cut_count.proofs.sights.turn.Goals as goal

pub overflow_sub-result : goal.overflow_sub-result
overflow_sub-result c =
    let x = c.args.x.now in
    let y = c.args.y.now in
    let first = times (wide x.across (2 ^ 46) c.from.ensures x.across_small tt) (wide y.upward (2 ^ 46) c.from-2.ensures y.upward_small tt) in
    let second = times (wide x.upward (2 ^ 46) c.from-3.ensures x.upward_small tt) (wide y.across (2 ^ 46) c.from-4.ensures y.across_small tt) in
    fits w128 (minus (pass w128 first tt) (pass w128 second tt)) tt

pub returns-clause-value : goal.returns-clause-value
returns-clause-value c =
    let x = c.args.x.now in
    let y = c.args.y.now in
    let first = times (wide x.across (2 ^ 46) c.from.ensures x.across_small tt) (wide y.upward (2 ^ 46) c.from-2.ensures y.upward_small tt) in
    let second = times (wide x.upward (2 ^ 46) c.from-3.ensures x.upward_small tt) (wide y.across (2 ^ 46) c.from-4.ensures y.across_small tt) in
    (pass w128 (minus (pass w128 first tt) (pass w128 second tt)) tt).is

pub returns-clause-size : goal.returns-clause-size
returns-clause-size c =
    let x = c.args.x.now in
    let y = c.args.y.now in
    let first = times (wide x.across (2 ^ 46) c.from.ensures x.across_small tt) (wide y.upward (2 ^ 46) c.from-2.ensures y.upward_small tt) in
    let second = times (wide x.upward (2 ^ 46) c.from-3.ensures x.upward_small tt) (wide y.across (2 ^ 46) c.from-4.ensures y.across_small tt) in
    size_of (2 ^ 93) (pass w128 (minus (pass w128 first tt) (pass w128 second tt)) tt) tt
