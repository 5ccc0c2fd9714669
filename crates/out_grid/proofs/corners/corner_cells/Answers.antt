use Rattle.std.proofs.Common.{◌≡◌, ◌⊎◌, inl, inr, ℕ, ◌*◌, ◌<◌, List, [], ◌∷◌, ◌++◌, All, Some, length, slice_get, sym, ap, subst, arith}
use Rattle.std.proofs.lemmas.List.{length_push}
use Rattle.std.proofs.lemmas.List.Elements.{All-push}
use Rattle.integers.proofs.Lists.{slice_get_push}
use Rattle.lattice.specs.declared.points.Corner.{Corner}
use Rattle.lattice.specs.Points.{of_dir}
use Rattle.solid_mesh.specs.Solids.{solid_part}
use Rattle.out_grid.specs.inner.Places.{raster_of, IsCellOf}
use Rattle.out_grid.proofs.corners.corner_cells.Goals as goal

-- a fact of each number and its place in turn
pushed : (P : ℕ → ℕ → Type 0) (xs : List ℕ) (x : ℕ) → ((i y : ℕ) → slice_get xs i ≡ Some y → P i y) → P (length xs) x → (i y : ℕ) → slice_get (xs ++ x ∷ []) i ≡ Some y → P i y
pushed P xs x each this i y at = by (slice_get_push xs x i y at)
  where
    by : (slice_get xs i ≡ Some y) ⊎ ((i ≡ length xs) × (x ≡ y)) → P i y
    by (inl h) = each i y h
    by (inr (e, same)) = subst (λ (n : ℕ). P n y) (sym e) (subst (P (length xs)) same this)

pub loop-corner-preserved : goal.loop-corner-preserved
loop-corner-preserved c =
    let columns = c.args.columns in
    let cells = c.loop-corner.cells.items in
    let cell = c.corner_cell.result in
    let items : c.push.new.self.items ≡ cells ++ cell ∷ [] = c.in_ok-push.ensures.items in
    let IsOf = λ (number : ℕ) (cell : ℕ). (corner : Corner) → slice_get (solid_part c.args.solid.now).corners number ≡ Some corner →
    IsCellOf (of_dir c.args.d.now) (raster_of c.args.raster.now) columns corner cell in
    record {
      long = omega (arith, ap length items, length_push cells cell);
      within = subst (All (λ (n : ℕ). n < columns * columns)) (sym items) (All-push (λ (n : ℕ). n < columns * columns) cells cell c.loop-corner.invariant.within c.corner_cell.ensures.within);
      right = λ number n corner at there. pushed IsOf cells cell (λ i y at z. c.loop-corner.invariant.right i y z at)
          (subst (λ (i : ℕ). IsOf i cell) (sym c.loop-corner.invariant.long) c.corner_cell.ensures.right) number n (subst (λ (xs : List ℕ). slice_get xs number ≡ Some n) items at) corner there;
    }
