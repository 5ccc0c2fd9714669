use Rattle.std.proofs.Common.{◌≡◌, take}
use Rattle.piece_verify.specs.Stands.{pieces_in}
use Rattle.piece_verify.proofs.check.given_in.Given as goal

-- the entries of the view's pieces so far
abbrev pub invariant-loop-entry : goal.invariant-loop-entry
invariant-loop-entry l = l.given.items ≡ pieces_in l.view (take l.entry-index l.entries)
