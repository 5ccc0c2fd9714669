use Rattle.std.proofs.Common.{◌≡◌, map, take}
use Rattle.sheet_job.specs.SheetSeen.{sheet_view_seen}
use Rattle.sheet_job.specs.SheetViews.{SheetViewValues}
use Rattle.sheet_input.proofs.look.own_titles.Given as goal

-- the titles of the views so far
abbrev pub invariant-loop-view : goal.invariant-loop-view
invariant-loop-view l = l.titles.items ≡ map (λ (v : SheetViewValues). v.title) (map sheet_view_seen (take l.view-index l.views))
