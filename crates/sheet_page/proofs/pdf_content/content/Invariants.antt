use Rattle.std.proofs.Common.{◌≡◌, ◌++◌, drop}
use Rattle.std.specs.List.{flat_map}
use Rattle.sheet_page.specs.PdfContent.{beginning, item_lines}
use Rattle.sheet_page.proofs.pdf_content.content.Given as goal

-- the items so far and those that are left are all items
abbrev pub invariant-loop-item : goal.invariant-loop-item
invariant-loop-item l =
    l.text.items ++ flat_map (item_lines l.pens) (drop l.item-index l.page.items.items) ≡ beginning l.page.height ++ flat_map (item_lines l.pens) l.page.items.items
