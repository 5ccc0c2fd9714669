use Rattle.std.proofs.Common.{take}
use Rattle.piece_verify.specs.Checked.{AreKnown}
use Rattle.piece_verify.proofs.check.first_stranger.Given as goal

-- so far each view is one of the job's
abbrev pub invariant-loop-place : goal.invariant-loop-place
invariant-loop-place l = AreKnown l.job (take l.place l.entries)
