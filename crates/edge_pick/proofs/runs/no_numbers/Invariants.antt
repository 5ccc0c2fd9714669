use Rattle.std.proofs.Common.{◌≡◌, length}
use Rattle.edge_pick.proofs.runs.no_numbers.Given as goal

abbrev pub invariant-loop : goal.invariant-loop
invariant-loop l = length l.runs.items ≡ l.counter
