use Rattle.std.proofs.Common.{◌≡◌, map, take}
use Rattle.sheet_job.specs.SheetSeen.{sheet_view_seen}
use Rattle.sheet_job.specs.SheetViews.{SheetViewValues}
use Rattle.sheet_input.specs.Looks.{hidden_in, shows_along}
use Rattle.sheet_input.proofs.look.own_hidden.Given as goal

-- the flags of the views so far
abbrev pub invariant-loop-view : goal.invariant-loop-view
invariant-loop-view l = l.hidden.items ≡ map (λ (v : SheetViewValues). hidden_in l.words v.hidden l.job (shows_along v.shows)) (map sheet_view_seen (take l.view-index l.views))
