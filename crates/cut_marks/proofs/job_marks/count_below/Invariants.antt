use Rattle.std.proofs.Common.{◌≡◌, ◌≤◌, length, take}
use Rattle.job_file.specs.ShownCuts.{cuts_in}
use Rattle.cut_marks.proofs.job_marks.count_below.Given as goal

-- the cuts of the views so far are counted
abbrev pub invariant-loop-i : goal.invariant-loop-i
invariant-loop-i l = (l.count ≡ length (cuts_in (take l.i l.views))) × (l.count ≤ l.i)
