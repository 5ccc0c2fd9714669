use Rattle.std.proofs.Common.{refl}
use Rattle.sheet_page.proofs.AddedCells.{same_cell, more_cells}
use Rattle.sheet_page.proofs.block_cells.add_lower.Goals as goal

pub returns : goal.returns
returns c =
    let corner = c.args.corner.now.at in
    let first = same_cell corner _ _ _ _ _ _ _ c.tall_cell-cell.ensures.value refl c.in_ok-add_cell.ensures in
    let second = same_cell corner _ _ _ _ _ _ _ c.tall_cell-cell-2.ensures.value refl c.in_ok-add_cell-2.ensures in
    let third = same_cell corner _ _ _ _ _ _ _ c.tall_cell-cell-3.ensures.value refl c.in_ok-add_cell-3.ensures in
    let fourth = same_cell corner _ _ _ _ _ _ _ c.tall_cell-cell-4.ensures.value c.as_str-text.ensures.same c.in_ok-add_cell-4.ensures in
    let fifth = same_cell corner _ _ _ _ _ _ _ c.tall_cell-cell-5.ensures.value c.as_str-text-2.ensures.same c.in_ok-add_cell-5.ensures in
    more_cells corner _ _ _ _ _ first (more_cells corner _ _ _ _ _ second (more_cells corner _ _ _ _ _ third (more_cells corner _ _ _ _ _ fourth fifth)))
