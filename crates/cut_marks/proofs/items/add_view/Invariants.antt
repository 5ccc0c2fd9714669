use Rattle.std.proofs.Common.{◌≡◌, ◌++◌, drop}
use Rattle.std.specs.List.{flat_map}
use Rattle.cut_marks.specs.Items.{heading_items, items_of_mark}
use Rattle.cut_marks.proofs.items.add_view.Given as goal

-- the items so far and those of the marks that are left are all items
abbrev pub invariant-loop-mark : goal.invariant-loop-mark
invariant-loop-mark l =
    l.items.items ++ flat_map items_of_mark (drop l.mark-index l.view.marks.items) ≡ (l.fn.items.items ++ heading_items l.fn.form.decimals l.fn.form.unit l.view.heading l.title) ++ flat_map items_of_mark l.view.marks.items
