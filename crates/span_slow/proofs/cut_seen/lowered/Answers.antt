use Rattle.std.proofs.Common.{◌+◌, ◌*◌, ◌^◌, ◌≤◌, ◌<◌, ℤ, pos, to_z, of_z, arith}
use Rattle.std.specs.Prelude.{◌≡◌, ◌-ℤ◌, ◌*ℤ◌, unsigned_abs}
use Rattle.std.specs.Int.{w64, w128}
use Rattle.integers.proofs.Worth.{Reads, known, below, fits, pass, times, minus, below_of, wide}
use Rattle.span_slow.proofs.cut_seen.lowered.Goals as goal

-- the machine's difference of the two products
lowered_reads : (f r b d : ℤ) → r ≡ to_z w64 (of_z w64 f) → unsigned_abs f ≤ 2 ^ 43 → unsigned_abs b ≤ 2 ^ 23 → unsigned_abs d < 2 ^ 66
    → Reads (to_z w128 (of_z w128 (to_z w128 (of_z w128 r) *ℤ to_z w128 (of_z w128 b))) -ℤ to_z w128 (of_z w128 (pos 2 *ℤ to_z w128 (of_z w128 d))))
    ((f *ℤ b) -ℤ (pos 2 *ℤ d)) (2 ^ 43 * 2 ^ 23 + 2 * 2 ^ 66)
lowered_reads f r b d e hf hb hd =
    minus (pass w128 (times (wide f (2 ^ 43) e hf tt) (pass w128 (known b (2 ^ 23) hb) tt)) tt) (pass w128 (times (known (pos 2) 2 (omega arith)) (pass w128 (below d (2 ^ 66) hd) tt)) tt)

pub overflow_sub-result : goal.overflow_sub-result
overflow_sub-result c = fits w128 (lowered_reads c.args.facing c.from.result c.args.below c.args.depth c.from.ensures c.requires.first c.requires.second c.requires.third) tt

pub returns-clause-value : goal.returns-clause-value
returns-clause-value c = (pass w128 (lowered_reads c.args.facing c.from.result c.args.below c.args.depth c.from.ensures c.requires.first c.requires.second c.requires.third) tt).is

pub returns-clause-small : goal.returns-clause-small
returns-clause-small c = below_of (2 ^ 68) (pass w128 (lowered_reads c.args.facing c.from.result c.args.below c.args.depth c.from.ensures c.requires.first c.requires.second c.requires.third) tt) tt
