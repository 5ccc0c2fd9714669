use Rattle.std.proofs.Common.{◌≤◌, ◌+◌, take}
use Rattle.job_text.specs.Places.{IsTextPlaceAfter}
use Rattle.job_text.proofs.place.text_place.Given as goal

-- the place behind the bytes so far
abbrev pub invariant-loop-byte : goal.invariant-loop-byte
invariant-loop-byte l = record {
  behind : IsTextPlaceAfter (take l.byte-index l.byte-items) l.place;
  few_lines : l.place.line ≤ l.byte-index + 1;
  few_columns : l.place.column ≤ l.byte-index + 1;
}
