use Rattle.sheet_page.proofs.AddedCells.{one_cell}
use Rattle.sheet_page.proofs.labels.add_cell.Goals as goal

pub returns : goal.returns
returns c =
    one_cell c.args.corner.now.at c.args.cell c.args.caption.now c.args.text.now c.args.items.now.items _ _ c.requires c.in_ok-add_text.ensures.items c.in_ok-add_text-2.ensures.items
    c.in_ok-add_text.ensures.inside c.in_ok-add_text-2.ensures.inside
