use Rattle.std.proofs.Common.{◌≡◌, ◌≤◌, ◌++◌, drop}
use Rattle.job_file.specs.ShownCuts.{cuts_in}
use Rattle.cut_marks.specs.AskedSides.{sides_for, sides_from}
use Rattle.cut_marks.proofs.asked_sides.sides_for.Given as goal

-- the sides so far, and those that are left; no view shows more than one cut
abbrev pub invariant-loop-view : goal.invariant-loop-view
invariant-loop-view l =
    (l.sides.items ++ sides_from l.job.decimals l.job.unit (cuts_in l.job.views.items) l.number (drop l.view-index l.job.views.items) ≡ sides_for l.job) × (l.number ≤ l.view-index)
