use Rattle.std.proofs.Common.{◌≡◌, ◌++◌, map}
use Rattle.std.specs.Vec.Iter.{into_iter_items}
use Rattle.sheet_page.specs.declared.page.Item.TheVariants.{Path}
use Rattle.sheet_core.proofs.page.add_paths.Given as goal

-- what is left to be added makes up the whole
abbrev pub invariant-loop-path : goal.invariant-loop-path
invariant-loop-path l =
    l.items.items ++ map Path (into_iter_items l.path-iterator) ≡ l.initial.items.items ++ map Path l.fn.paths.items
