use Rattle.std.proofs.Common.{rules, w64, FitsSigned}
use Rattle.std.proofs.lemmas.Int.{to_z-of_z}
use Rattle.out_grid.proofs.places.raster_over.Goals as goal

pub returns : goal.returns
returns c =
    let reach = c.extent-reach.result in
    let fits_left : FitsSigned w64 reach.u_min = search rules in
    let fits_right : FitsSigned w64 reach.u_max = search rules in
    let fits_bottom : FitsSigned w64 reach.v_min = search rules in
    let fits_top : FitsSigned w64 reach.v_max = search rules in
    record {
      extent = reach;
      reaches = c.extent-reach.ensures;
      left = to_z-of_z w64 reach.u_min fits_left;
      bottom = to_z-of_z w64 reach.v_min fits_bottom;
      width = simp to_z-of_z at c.cell_size.ensures.value;
      height = simp to_z-of_z at c.cell_size-2.ensures.value;
    }
