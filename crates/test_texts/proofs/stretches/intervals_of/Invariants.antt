use Rattle.std.proofs.Common.{All}
use Rattle.std.specs.Ordering.{nat_cmp}
use Rattle.intervals.specs.Cuts.{IsProper}
use Rattle.test_texts.proofs.stretches.intervals_of.Given as goal

abbrev pub invariant-loop-from : goal.invariant-loop-from
invariant-loop-from g l = All (IsProper nat_cmp) l.given.items
