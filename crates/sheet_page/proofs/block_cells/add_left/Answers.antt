use Rattle.std.proofs.Common.{refl}
use Rattle.sheet_page.proofs.AddedCells.{same_cell, more_cells}
use Rattle.sheet_page.proofs.block_cells.add_left.Goals as goal

pub returns : goal.returns
returns c =
    let corner = c.args.corner.now.at in
    let first = same_cell corner _ _ _ _ _ _ _ c.low_cell-cell.ensures.value c.as_str-text.ensures.same c.in_ok-add_cell.ensures in
    let second = same_cell corner _ _ _ _ _ _ _ c.low_cell-cell-2.ensures.value c.as_str-text-2.ensures.same c.in_ok-add_cell-2.ensures in
    let third = same_cell corner _ _ _ _ _ _ _ c.low_cell-cell-3.ensures.value c.as_str-text-3.ensures.same c.in_ok-add_cell-3.ensures in
    let fourth = same_cell corner _ _ _ _ _ _ _ c.low_cell-cell-4.ensures.value c.as_str-text-4.ensures.same c.in_ok-add_cell-4.ensures in
    let fifth = same_cell corner _ _ _ _ _ _ _ c.low_cell-cell-5.ensures.value c.as_str-text-5.ensures.same c.in_ok-add_cell-5.ensures in
    let sixth = same_cell corner _ _ _ _ _ _ _ c.low_cell-cell-6.ensures.value refl c.in_ok-add_cell-6.ensures in
    let seventh = same_cell corner _ _ _ _ _ _ _ c.low_cell-cell-7.ensures.value c.as_str-text-6.ensures.same c.in_ok-add_cell-7.ensures in
    more_cells corner _ _ _ _ _ first (more_cells corner _ _ _ _ _ second (more_cells corner _ _ _ _ _ third (more_cells corner _ _ _ _ _ fourth (more_cells corner _ _ _ _ _ fifth (more_cells corner _ _ _ _ _ sixth seventh)))))
