use Rattle.std.proofs.Common.{◌≡◌, ◌+◌, ◌*◌, ◌/◌, ◌<◌, ◌≤◌, ◌^◌, drop, length}
use Rattle.dec_text.specs.Numbers.{value_of}
use Rattle.dec_text.proofs.number.carried.Given as goal

abbrev pub decreases-loop-at : goal.decreases-loop-at
decreases-loop-at l = l.at

abbrev pub invariant-loop-at : goal.invariant-loop-at
invariant-loop-at l = record {
  within : l.at ≤ length l.digits;
  value : l.carry ≡ (l.factor * value_of (drop l.at l.digits) + l.behind) / 10 ^ length (drop l.at l.digits);
  size : l.carry < l.factor;
}
