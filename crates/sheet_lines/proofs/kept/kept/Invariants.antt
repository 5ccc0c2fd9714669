use Rattle.std.proofs.Common.{◌≡◌, ◌++◌}
use Rattle.std.specs.Vec.Iter.{into_iter_items}
use Rattle.sheet_lines.specs.Kept.{kept}
use Rattle.sheet_lines.proofs.kept.kept.Given as goal

-- the paths so far, and then those of the rest
abbrev pub invariant-loop-path : goal.invariant-loop-path
invariant-loop-path l = l.left.items ++ kept l.rest (into_iter_items l.path-iterator) ≡ kept l.flags l.fn.paths.items
