use Rattle.std.proofs.Common.{◌≡◌, take, length, map}
use Rattle.std.specs.List.{All, AllZip}
use Rattle.job_file.specs.Seen.{view_seen}
use Rattle.sheet_job.specs.JobsAt.{IsViewAt, IsTooFar}
use Rattle.sheet_job.specs.SheetSeen.{sheet_view_seen}
use Rattle.sheet_job.proofs.job_at.views_at.Given as goal

-- the views so far are made, and none is too far away
abbrev pub invariant-loop-view : goal.invariant-loop-view
invariant-loop-view l =
    (length l.found.items ≡ l.view-index) ×
    (AllZip (IsViewAt l.decimals l.unit) (map sheet_view_seen (take l.view-index l.views)) (map view_seen l.found.items)) ×
    (All (λ v. ¬ IsTooFar l.decimals l.unit (sheet_view_seen v)) (take l.view-index l.views))
