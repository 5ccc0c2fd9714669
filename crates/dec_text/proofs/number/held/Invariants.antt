use Rattle.std.proofs.Common.{◌<◌, ◌^◌, take}
use Rattle.dec_text.specs.Numbers.{value_of}
use Rattle.dec_text.specs.inner.Reading.{IsHeld}
use Rattle.dec_text.proofs.number.held.Given as goal

abbrev pub invariant-loop-digit : goal.invariant-loop-digit
invariant-loop-digit l = record {
  value : IsHeld (value_of (take l.digit-index l.digits)) l.value;
  size : l.value < 2 ^ 30;
}
