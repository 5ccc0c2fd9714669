use Rattle.std.proofs.Common.{◌≡◌, take}
use Rattle.std.specs.Prelude.{Some}
use Rattle.dec_text.proofs.States.{state_after}
use Rattle.dec_text.proofs.number.fault_place.Given as goal

abbrev pub invariant-loop-at : goal.invariant-loop-at
invariant-loop-at l = state_after (take l.at l.bytes) ≡ Some l.state
