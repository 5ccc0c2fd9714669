use Rattle.std.proofs.Common.{◌≡◌, ◌++◌}
use Rattle.std.specs.Vec.Iter.{into_iter_items}
use Rattle.sheet_core.proofs.page.add_items.Given as goal

-- what is left to be added makes up the whole
abbrev pub invariant-loop-item : goal.invariant-loop-item
invariant-loop-item l = l.items.items ++ into_iter_items l.item-iterator ≡ l.initial.items.items ++ l.fn.more.items
