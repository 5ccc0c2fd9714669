use Rattle.std.proofs.Common.{◌≡◌, ◌+◌, ◌≤◌, List, length}
use Rattle.piece_verify.specs.declared.line.Entry.{Entry}
use Rattle.piece_verify.proofs.Reading.{IsReadTo}
use Rattle.piece_verify.proofs.list.list_fault.Given as goal

-- so many lines are read, which are those of a list
abbrev pub invariant-loop-rest : goal.invariant-loop-rest
invariant-loop-rest l = record {
  read : (entries : List Entry) × IsReadTo l.bytes entries l.least l.rest × (l.line ≡ length entries + 2);
  room : l.line + length l.rest ≤ 16777218;
}

abbrev pub decreases-loop-rest : goal.decreases-loop-rest
decreases-loop-rest l = length l.rest
