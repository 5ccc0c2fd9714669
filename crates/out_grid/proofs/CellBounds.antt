-- What is counted on the raster of a view is at most the view's cell bound.
use Rattle.std.proofs.Common.{◌≡◌, ℕ, ◌+◌, ◌≤◌, List, sum, subst, arith}
use Rattle.std.specs.List.{AllZip}
use Rattle.lattice.specs.Triple.{Triple}
use Rattle.geometry.specs.Parts.{Part}
use Rattle.edge_pick.specs.declared.Picked.{Picked}
use Rattle.out_grid.specs.Bounds.{IsSpanAt, IsCellBound}
use Rattle.out_grid.specs.Cells.{Raster, IsRaster}
use Rattle.out_grid.proofs.Rasters.{rasters_same}

module _ (d : Triple) (s : Part) (halves : List ℕ) (p : Picked) (columns : ℕ) (r : Raster) (is : IsRaster d s.corners columns r) where
  -- at most the spans of these edges were counted
  abbrev pub IsCounted : List ℕ → ℕ → ℕ → Type 0
  IsCounted edges old new = (spans : List ℕ) → AllZip (IsSpanAt d r s halves) edges spans → new ≤ old + sum spans

  -- where these are the outlines, as a call was passed them
  module _ (outlines : List ℕ) (same : outlines ≡ p.outlines.items) (old put bound : ℕ) (counted : IsCounted outlines old put) (h : IsCellBound d s halves p columns bound) where
    here : (edges spans : List ℕ) → AllZip (IsSpanAt d h.raster s halves) edges spans → AllZip (IsSpanAt d r s halves) edges spans
    here edges spans are = subst (λ (x : Raster). AllZip (IsSpanAt d x s halves) edges spans) (rasters_same d s.corners columns h.raster r h.is_raster is) are

    put_first : put ≤ old + sum h.of_outlines
    put_first = subst (λ (edges : List ℕ). IsCounted edges old put) same counted h.of_outlines (here p.outlines.items h.of_outlines h.are_outlines)

    pub put_within : put ≤ old + bound
    put_within = omega (arith, put_first, h.bound_is)

    pub all_within : (new : ℕ) → IsCounted p.drawn.items put new → new ≤ old + bound
    all_within new more = omega (arith, put_first, more h.of_drawn (here p.drawn.items h.of_drawn h.are_drawn), h.bound_is)
