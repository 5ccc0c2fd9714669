-- The views of a job at a number of decimals.
use Rattle.std.specs.Prelude.{ℕ, List, map, Vec, Result, Ok, Err}
use Rattle.std.specs.declared.alloc.Global.{Global}
use Rattle.std.specs.List.{AllZip}
use Rattle.dec_text.specs.declared.number.Length.{Length}
use Rattle.job_file.specs.Seen.{view_seen}
use Rattle.job_file.specs.declared.view.JobView.{JobView}
use Rattle.sheet_job.specs.JobsAt.{IsViewAt, IsFirstTooFar}
use Rattle.sheet_job.specs.SheetSeen.{sheet_view_seen}
use Rattle.sheet_job.specs.declared.job_at.AtError.{AtError}
use Rattle.sheet_job.specs.declared.job_at.AtError.TheVariants.{Range, Memory}
use Rattle.sheet_job.specs.declared.view.SheetView.{SheetView}

-- the views, or the first that is too far away, unless memory ran out
abbrev pub GivesViewsAt : ℕ → Length → List SheetView → Result (Vec JobView Global) AtError → Type 0
GivesViewsAt decimals unit views (Ok found) = AllZip (IsViewAt decimals unit) (map sheet_view_seen views) (map view_seen found.items)
GivesViewsAt decimals unit views (Err (Range placed)) = IsFirstTooFar decimals unit views placed
GivesViewsAt decimals unit views (Err (Memory e)) = Unit {0}
