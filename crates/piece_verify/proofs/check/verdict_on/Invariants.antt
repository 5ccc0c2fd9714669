use Rattle.std.proofs.Common.{ℕ, ◌<◌}
use Rattle.job_file.specs.declared.view.JobView.{JobView}
use Rattle.piece_verify.specs.Checked.{IsViewOf, IsGoodIn}
use Rattle.piece_verify.specs.Stands.{pieces_in}
use Rattle.piece_verify.proofs.check.verdict_on.Given as goal

-- the views so far are good
abbrev pub invariant-loop-view : goal.invariant-loop-view
invariant-loop-view l = (n : ℕ) (asked : JobView) → n < l.view → IsViewOf l.job n asked → IsGoodIn l.solid l.job asked.spec (pieces_in n l.entries)
