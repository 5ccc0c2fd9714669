use Rattle.std.proofs.Common.{◌≡◌, ◌++◌, drop, map, string_bytes}
use Rattle.std.specs.List.{flat_map}
use Rattle.job_file.specs.Seen.{view_seen}
use Rattle.job_writer.specs.PlainJobs.{view_block}
use Rattle.job_writer.proofs.views.push_views.Given as goal

-- what is written, and the views that are left
abbrev pub invariant-loop-view : goal.invariant-loop-view
invariant-loop-view l =
    string_bytes l.text ++ flat_map view_block (map view_seen (drop l.view-index l.views)) ≡ string_bytes l.fn.text ++ flat_map view_block (map view_seen l.views)
