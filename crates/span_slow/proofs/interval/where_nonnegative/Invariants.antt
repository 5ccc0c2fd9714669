use Rattle.std.proofs.Common.{take}
use Rattle.span_slow.specs.inner.Hidden.{IsWhereNonnegative}
use Rattle.span_slow.proofs.interval.where_nonnegative.Given as goal

-- the interval is right for the linears so far
abbrev pub invariant-loop-linear : goal.invariant-loop-linear
invariant-loop-linear l = IsWhereNonnegative (take l.linear-index l.linears) l.x
