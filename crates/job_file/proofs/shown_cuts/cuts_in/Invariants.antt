use Rattle.std.proofs.Common.{◌≡◌, take}
use Rattle.job_file.specs.ShownCuts.{cuts_in}
use Rattle.job_file.proofs.shown_cuts.cuts_in.Given as goal

-- the cuts of the views so far
abbrev pub invariant-loop-view : goal.invariant-loop-view
invariant-loop-view l = l.cuts.items ≡ cuts_in (take l.view-index l.views)
