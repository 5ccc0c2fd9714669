use Rattle.std.proofs.Common.{◌≡◌, None, map, take}
use Rattle.job_file.specs.Seen.{view_seen}
use Rattle.job_file.specs.ViewValues.{ViewValues}
use Rattle.sheet_job.specs.declared.hidden.Hidden.TheVariants.{Plain}
use Rattle.sheet_input.specs.Looks.{hidden_in, looks_along}
use Rattle.sheet_input.proofs.look.older_hidden.Given as goal

-- the flags of the views so far
abbrev pub invariant-loop-view : goal.invariant-loop-view
invariant-loop-view l = l.hidden.items ≡ map (λ (v : ViewValues). hidden_in l.words None Plain (looks_along v.shows)) (map view_seen (take l.view-index l.views))
