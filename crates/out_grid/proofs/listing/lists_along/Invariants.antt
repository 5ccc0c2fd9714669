use Rattle.std.proofs.Common.{◌≡◌, ℕ, ◌+◌, ◌*◌, ◌<◌, ◌≤◌, List, [], All, Contains, length, get_or, take, sum}
use Rattle.std.specs.List.{AllZip}
use Rattle.lattice.specs.Points.{of_dir}
use Rattle.geometry.specs.Parts.{Edge, IsNumbered}
use Rattle.solid_mesh.specs.Solids.{solid_part, edge_halves}
use Rattle.solid_mesh.specs.Stars.{lists_of}
use Rattle.out_grid.specs.Cells.{ShareCell}
use Rattle.out_grid.specs.Bounds.{IsSpanAt}
use Rattle.out_grid.specs.Grids.{list_at, HoldsThose}
use Rattle.out_grid.specs.inner.Places.{raster_of}
use Rattle.out_grid.proofs.listing.lists_along.Given as goal

abbrev pub invariant-loop-edge : goal.invariant-loop-edge
invariant-loop-edge l = record {
  long : length l.lists.items ≡ length (edge_halves l.solid);
  stamps_long : length l.stamps.items ≡ length (edge_halves l.solid);
  stamps_below : (j : ℕ) → l.edge-index ≤ j → j < length l.picked.drawn.items → All (λ m. m < get_or l.picked.drawn.items j 0 + 1) l.stamps.items;
  along : (i : ℕ) (e : Edge (solid_part l.solid)) → Contains (take l.edge-index l.picked.drawn.items) i → IsNumbered (edge_halves l.solid) i e →
      HoldsThose {s = solid_part l.solid} (edge_halves l.solid) l.picked.outlines.items (ShareCell (of_dir l.d) (raster_of l.raster) e) (list_at (lists_of l.lists.items) i);
  others : (i : ℕ) → (Contains (take l.edge-index l.picked.drawn.items) i → ⊥) → list_at (lists_of l.lists.items) i ≡ [];
  counted_on : l.initial.meter.cells ≤ l.meter.cells;
  counted : (spans : List ℕ) → AllZip (IsSpanAt (of_dir l.d) (raster_of l.raster) (solid_part l.solid) (edge_halves l.solid)) l.picked.drawn.items spans →
      l.meter.cells ≤ l.initial.meter.cells + sum (take l.edge-index spans);
  size : l.meter.cells ≤ l.initial.meter.cells + 512 * l.edge-index;
  each : l.initial.meter.cells + l.edge-index ≤ l.meter.cells;
}
