use Rattle.std.proofs.Common.{◌≡◌, [], drop, length, map}
use Rattle.std.specs.List.{All, AllPairs}
use Rattle.job_file.specs.Views.{AreNamedApart}
use Rattle.job_tables.specs.Seen.{table_seen}
use Rattle.sheet_job.specs.SheetSeen.{sheet_view_seen, IsPlacedIn}
use Rattle.sheet_job.specs.SheetViews.{sheet_views_after}
use Rattle.sheet_job.proofs.views.views_in_order.Given as goal

-- the views so far, and then those of the tables that are left
abbrev pub invariant-loop-table : goal.invariant-loop-table
invariant-loop-table l =
    (length l.views.items ≡ l.table-index) ×
    (AllPairs (λ v w. AreNamedApart v.named w.named) l.views.items) ×
    (All (IsPlacedIn l.text) l.views.items) ×
    (sheet_views_after (map sheet_view_seen l.views.items) (map table_seen (drop l.table-index l.tables)) ≡ sheet_views_after [] (map table_seen l.tables))
