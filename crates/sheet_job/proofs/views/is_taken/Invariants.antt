use Rattle.std.proofs.Common.{◌≡◌, drop, map}
use Rattle.std.specs.List.{list_any}
use Rattle.sheet_job.specs.SheetSeen.{sheet_view_seen}
use Rattle.job_file.specs.ViewKeys.{is_named}
use Rattle.sheet_job.proofs.views.is_taken.Given as goal

-- the views that are left decide
abbrev pub invariant-loop-view : goal.invariant-loop-view
invariant-loop-view l =
    list_any (λ v. is_named l.name v.named) (map sheet_view_seen (drop l.view-index l.earlier)) ≡ list_any (λ v. is_named l.name v.named) (map sheet_view_seen l.earlier)
