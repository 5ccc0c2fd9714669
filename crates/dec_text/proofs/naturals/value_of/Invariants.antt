use Rattle.std.proofs.Common.{◌≡◌, take}
use Rattle.dec_text.specs.Numbers.{value_of}
use Rattle.dec_text.proofs.naturals.value_of.Given as goal

abbrev pub invariant-loop-digit : goal.invariant-loop-digit
invariant-loop-digit l = record {
  value : l.value ≡ value_of (take l.digit-index l.digits);
}
