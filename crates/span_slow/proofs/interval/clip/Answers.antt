use Rattle.std.proofs.Common.{ℤ, ◌≡◌, ◌<◌, ◌^◌, to_z, of_z, unsigned_abs}
use Rattle.std.specs.Int.{w128}
use Rattle.integers.proofs.Worth.{pass, below}
use Rattle.span_slow.proofs.Clips.{all_kept, none_kept, tested_below, tested_least}
use Rattle.span_slow.proofs.interval.clip.Goals as goal

-- a small number as the machine reads it
read : (v : ℤ) → unsigned_abs v < 2 ^ 68 → to_z w128 (of_z w128 v) ≡ v
read v h = (pass w128 (below v (2 ^ 68) h) tt).is

pub returns-then-linear-lt0-2 : goal.returns-then-linear-lt0-2
returns-then-linear-lt0-2 c =
    let v = c.args.linear in
    none_kept c.args.x v c.requires.from c.requires.to c.nowhere.result
    (tested_below _ v.start (read v.start v.start_small) c.if-linear-lt0.true) (tested_below _ v.end (read v.end v.end_small) c.if-linear-lt0-2.true)
    c.nowhere.ensures.from c.nowhere.ensures.to c.nowhere.ensures.from_place c.nowhere.ensures.to_place

pub returns : goal.returns
returns c =
    let v = c.args.linear in
    all_kept c.args.x v c.requires.from c.requires.to (tested_least _ v.start (read v.start v.start_small) c.if-linear-lt0.false) (tested_least _ v.end (read v.end v.end_small) c.if-linear-lt0-3.false)
