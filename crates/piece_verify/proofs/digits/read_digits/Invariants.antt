use Rattle.std.proofs.Common.{◌≡◌, ◌<◌, ◌^◌, drop}
use Rattle.piece_verify.specs.inner.Digits.{read_on}
use Rattle.piece_verify.proofs.digits.read_digits.Given as goal

abbrev pub invariant-loop-byte : goal.invariant-loop-byte
invariant-loop-byte l = record {
  size : l.value < 2 ^ 104;
  left : read_on l.bytes 0 ≡ read_on (drop l.byte-index l.bytes) l.value;
}
