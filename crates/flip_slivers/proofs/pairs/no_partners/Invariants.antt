use Rattle.std.proofs.Common.{◌≡◌, replicate, None}
use Rattle.flip_slivers.proofs.pairs.no_partners.Given as goal

abbrev pub invariant-loop : goal.invariant-loop
invariant-loop l = l.partners.items ≡ replicate l.counter None
