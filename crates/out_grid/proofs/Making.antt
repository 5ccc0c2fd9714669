-- A grid of cells and lists that were made for a view holds what it should.
use Rattle.std.proofs.Common.{◌≡◌, ℕ, ◌+◌, ◌*◌, ◌/◌, ◌<◌, ◌≤◌, List, Vec, Global, [], Contains, Some, length, get_or, slice_get, refl, sym, ap, subst, ◌∙◌, arith}
use Rattle.std.proofs.lemmas.List.{get_or_past, length-map}
use Rattle.std.proofs.lemmas.Option.{slice_get_within, get_or_from_slice_get}
use Rattle.integers.proofs.Lists.{some_element}
use Rattle.lattice.specs.declared.points.Corner.{Corner}
use Rattle.lattice.specs.Triple.{Triple}
use Rattle.lattice.specs.Points.{point_of}
use Rattle.geometry.specs.Parts.{Part, Edge, IsNumbered}
use Rattle.edge_pick.specs.declared.Picked.{Picked}
use Rattle.solid_mesh.specs.Stars.{lists_of}
use Rattle.out_grid.specs.declared.grid.GridOutlines.{GridOutlines}
use Rattle.out_grid.specs.Cells.{Raster, IsRaster, HasPointIn, ShareCell}
use Rattle.out_grid.specs.Grids.{cell_list, along_list, over_list, IsCornerIn, HoldsThose, IsInCell, IsGridOf}
use Rattle.out_grid.specs.inner.Lists.{AreHeld}
use Rattle.out_grid.specs.inner.Places.{IsCellOf}
use Rattle.out_grid.proofs.Bridges.{corner_cell}
use Rattle.out_grid.proofs.Rasters.{wide, high}

module _ (d : Triple) (s : Part) (halves : List ℕ) (p : Picked) (g : GridOutlines) (r : Raster) (is : IsRaster d s.corners g.columns r)
    (held : AreHeld d r s halves p.outlines.items g.columns (lists_of g.cells.items)) (long : length g.corner_cells.items ≡ length s.corners)
    (right : (number cell : ℕ) (c : Corner) → slice_get g.corner_cells.items number ≡ Some cell → slice_get s.corners number ≡ Some c → IsCellOf d r g.columns c cell) where
  -- a corner in this column and this row, of which the raster has so many
  record IsPlaced (number column row : ℕ) : Type 0 where
    in_column : column < g.columns
    in_row : row < g.columns
    there : IsCornerIn g number column row

  placed : (number column row : ℕ) (c : Corner) → slice_get s.corners number ≡ Some c → IsInCell d r column row (point_of c) → IsPlaced number column row
  placed number column row c at inside =
      let (cell, there) = some_element g.corner_cells.items number (omega (arith, long, slice_get_within s.corners number c at)) in
      let h = right number cell c there at in
      let (u, v) = (corner_cell d r c h.u h.v h.at (wide d s.corners g.columns r is) (high d s.corners g.columns r is) column row).0 inside in
      record {
        in_column = subst (λ (k : ℕ). k < g.columns) (sym u) h.in_column;
        in_row = subst (λ (k : ℕ). k < g.columns) (sym v) h.in_row;
        there = there ∙ ap Some (same column row (h.u / r.width) (h.v / r.height) cell u v h.cell_is);
      }
    where
      same : (column row m k cell : ℕ) → column ≡ m → row ≡ k → cell ≡ (m * g.columns) + k → cell ≡ (column * g.columns) + row
      same column row m k cell e f h = h ∙ sym (λ i. (e i * g.columns) + f i)

  over_in : (number column row : ℕ) → IsCornerIn g number column row → over_list g number ≡ cell_list g column row
  over_in number column row there =
      ap (λ (k : ℕ). get_or (lists_of g.cells.items) k []) (get_or_from_slice_get g.corner_cells.items number ((column * g.columns) + row) (length g.cells.items) there)

  over_past : (number : ℕ) → length s.corners ≤ number → over_list g number ≡ []
  over_past number past =
      ap (λ (k : ℕ). get_or (lists_of g.cells.items) k []) (get_or_past g.corner_cells.items number (length g.cells.items) (omega (arith, long, past)))
      ∙ get_or_past (lists_of g.cells.items) (length g.cells.items) [] (omega (arith, long_lists))
    where
      long_lists : length (lists_of g.cells.items) ≡ length g.cells.items
      long_lists = length-map g.cells.items (λ (v : Vec ℕ Global). v.items)

  pub is_grid : ((i : ℕ) (e : Edge s) → Contains p.drawn.items i → IsNumbered halves i e → HoldsThose {s = s} halves p.outlines.items (ShareCell d r e) (along_list g i))
      → ((i : ℕ) → (Contains p.drawn.items i → ⊥) → along_list g i ≡ []) → IsGridOf d s halves p g.columns g
  is_grid along others = record {
    raster = r;
    is_raster = is;
    columns_are = refl;
    cells = held;
    along = along;
    along_others = others;
    corners = λ number column row c at inside. (placed number column row c at inside).there;
    over = λ number column row c at inside.
        let h = placed number column row c at inside in
        subst (HoldsThose {s = s} halves p.outlines.items (λ o. HasPointIn d r o column row)) (sym (over_in number column row h.there)) (held column row h.in_column h.in_row);
    over_others = over_past;
    others_in_none = λ number column row past there. omega (arith, long, past, slice_get_within g.corner_cells.items number _ there);
  }
