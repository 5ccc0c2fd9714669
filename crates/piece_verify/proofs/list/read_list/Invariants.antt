use Rattle.std.proofs.Common.{◌+◌, ◌≤◌, length}
use Rattle.piece_verify.proofs.Reading.{IsReadTo}
use Rattle.piece_verify.proofs.list.read_list.Given as goal

abbrev pub invariant-loop-rest : goal.invariant-loop-rest
invariant-loop-rest l = record {
  read : IsReadTo l.bytes l.entries.items l.least l.rest;
  room : length l.entries.items + length l.rest ≤ 16777216;
}

abbrev pub decreases-loop-rest : goal.decreases-loop-rest
decreases-loop-rest l = length l.rest
