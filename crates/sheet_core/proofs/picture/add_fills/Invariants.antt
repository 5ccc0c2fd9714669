use Rattle.std.proofs.Common.{◌≡◌, ◌++◌}
use Rattle.std.specs.List.{flat_map}
use Rattle.std.specs.Vec.Iter.{into_iter_items}
use Rattle.sheet_core.specs.Pages.{fills_of}
use Rattle.sheet_core.proofs.picture.add_fills.Given as goal

-- what is left to be added makes up the whole
abbrev pub invariant-loop-section : goal.invariant-loop-section
invariant-loop-section l = l.items.items ++ flat_map fills_of (into_iter_items l.section-iterator) ≡ l.initial.items.items ++ flat_map fills_of l.fn.sections.items
