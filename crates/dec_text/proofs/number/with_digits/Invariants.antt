use Rattle.std.proofs.Common.{◌≡◌, ◌+◌, ◌-◌, ◌*◌, ◌<◌, ◌^◌, take, fold}
use Rattle.dec_text.proofs.number.with_digits.Given as goal

abbrev pub invariant-loop-digit : goal.invariant-loop-digit
invariant-loop-digit l = record {
  value : l.value ≡ fold (λ n digit. 10 * n + (digit - 48)) l.before (take l.digit-index l.digits);
  size : l.value < 10 ^ 8;
}
