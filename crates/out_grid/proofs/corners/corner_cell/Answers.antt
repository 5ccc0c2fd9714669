use Rattle.out_grid.proofs.corners.corner_cell.Goals as goal

pub returns-clause-right : goal.returns-clause-right
returns-clause-right c corner at = record {
  u = c.place_of-place.result.u;
  v = c.place_of-place.result.v;
  at = c.place_of-place.ensures.at corner at;
  in_column = c.place_of-place.ensures.column;
  in_row = c.place_of-place.ensures.row;
  cell_is = c.cell_of.ensures.value;
}
