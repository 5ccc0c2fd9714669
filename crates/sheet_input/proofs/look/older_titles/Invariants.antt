use Rattle.std.proofs.Common.{◌≡◌, [], map, take}
use Rattle.job_file.specs.Seen.{view_seen}
use Rattle.job_file.specs.ViewValues.{ViewValues}
use Rattle.sheet_input.proofs.look.older_titles.Given as goal

-- the titles of the views so far
abbrev pub invariant-loop-view : goal.invariant-loop-view
invariant-loop-view l = l.titles.items ≡ map (λ (v : ViewValues). []) (map view_seen (take l._view-index l.views))
