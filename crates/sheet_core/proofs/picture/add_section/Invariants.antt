use Rattle.std.proofs.Common.{◌≡◌, ◌++◌, map}
use Rattle.std.specs.Vec.Iter.{into_iter_items}
use Rattle.sheet_page.specs.declared.page.Item.TheVariants as item
use Rattle.section_look.specs.declared.fills.Fill.{Fill}
use Rattle.sheet_core.specs.Pages.{fills_of}
use Rattle.sheet_core.proofs.picture.add_section.Given as goal

-- what is left to be added makes up the whole
abbrev pub invariant-loop-fill : goal.invariant-loop-fill
invariant-loop-fill l =
    l.items.items ++ map (λ (fill : Fill). item.Fill (record { view = l.view; loops = fill.loops })) (into_iter_items l.fill-iterator) ≡ l.initial.items.items ++ fills_of l.fn.section
