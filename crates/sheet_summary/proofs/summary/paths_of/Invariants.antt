use Rattle.std.proofs.Common.{◌≡◌, take}
use Rattle.std.specs.Prelude.{count_by}
use Rattle.sheet_summary.specs.Summary.{is_path_of}
use Rattle.sheet_summary.proofs.summary.paths_of.Given as goal

-- the paths so far are counted
abbrev pub invariant-loop-item : goal.invariant-loop-item
invariant-loop-item l = l.count ≡ count_by (is_path_of l.mark) (take l.item-index l.items)
