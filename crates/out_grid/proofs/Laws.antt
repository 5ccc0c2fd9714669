-- What a grid lists of a view meets the law of a finder.
use Rattle.std.proofs.Common.{◌≡◌, ◌≢◌, ◌⊎◌, inl, inr, ℕ, zero, suc, ◌<◌, List, [], ◌∷◌, All, AllPairs, Contains, Some, length, slice_get, sym, subst, arith}
use Rattle.std.proofs.lemmas.Bool.{cases_eq}
use Rattle.integers.proofs.Absolutes.{natural_positive}
use Rattle.integers.proofs.Lists.{some_element}
use Rattle.lattice.specs.declared.points.Corner.{Corner}
use Rattle.lattice.specs.Triple.{Triple}
use Rattle.lattice.specs.Points.{IsPoint, point_of}
use Rattle.geometry.specs.Parts.{Part, Edge, IsNumbered}
use Rattle.geometry.proofs.Sights.{sight_back}
use Rattle.solid_mesh.specs.Solids.{solid_part, edge_halves}
use Rattle.solid_mesh.specs.declared.solid.Solid.{Solid}
use Rattle.solid_mesh.proofs.Facts.{edge_there}
use Rattle.geometry.specs.Shares.{Changes}
use Rattle.geometry.specs.Turns.{IsNearerOver}
use Rattle.edge_pick.specs.declared.Picked.{Picked}
use Rattle.span_count.specs.Finders.{IsFinder}
use Rattle.out_grid.specs.declared.grid.GridOutlines.{GridOutlines}
use Rattle.out_grid.specs.Grids.{along_list, over_list, is_listed_near, IsGridOf}
use Rattle.out_grid.specs.Near.{AreNear}
use Rattle.out_grid.proofs.Bridges.{same_cell}
use Rattle.out_grid.proofs.Crossings.{seen_over}
use Rattle.out_grid.proofs.PointCells.{is_point, edge_cell, corner_has_cell}

-- a number is in a list or not
listed_or_not : (xs : List ℕ) (k : ℕ) → Contains xs k ⊎ (Contains xs k → ⊥)
listed_or_not [] k = inr none
  where
    none : Contains [] k → ⊥
    none (i, within, is) = omega (arith, within)
listed_or_not (x ∷ xs) k = by (cases_eq x k) (listed_or_not xs k)
  where
    neither : (x ≡ k → ⊥) → (Contains xs k → ⊥) → Contains (x ∷ xs) k → ⊥
    neither apart off (zero, within, is) = apart is
    neither apart off (suc i, within, is) = off (i, omega arith, is)

    by : (x ≡ k) ⊎ (x ≡ k → ⊥) → Contains xs k ⊎ (Contains xs k → ⊥) → Contains (x ∷ xs) k ⊎ (Contains (x ∷ xs) k → ⊥)
    by (inl e) h = inl (zero, omega arith, e)
    by (inr apart) (inl (i, within, is)) = inl (suc i, omega arith, is)
    by (inr apart) (inr off) = inr (neither apart off)

-- a list holds some of these numbers, each once
record HoldsSome (outlines list : List ℕ) : Type 0 where
  within : All (Contains outlines) list
  once : AllPairs ◌≢◌ list

holds_none : (outlines list : List ℕ) → list ≡ [] → HoldsSome outlines list
holds_none outlines list e = subst (HoldsSome outlines) (sym e) (record {
  within = λ i d h. absurd (omega (arith, h));
  once = λ i j d h l. absurd (omega (arith, l));
})

-- each number up to that of the halves is that of an edge, as those of a solid are
module _ (d : Triple) (s : Part) (halves : List ℕ) (p : Picked) (columns : ℕ) (g : GridOutlines)
    (each : (i : ℕ) → i < length halves → (e : Edge s) × IsNumbered halves i e) (grid : IsGridOf d s halves p columns g) where
  along_some : (i : ℕ) → i < length halves → HoldsSome p.outlines.items (along_list g i)
  along_some i l = by (listed_or_not p.drawn.items i)
    where
      by : Contains p.drawn.items i ⊎ (Contains p.drawn.items i → ⊥) → HoldsSome p.outlines.items (along_list g i)
      by (inl drawn) = let (e, at) = each i l in let h = grid.along i e drawn at in record { within = h.within; once = h.once }
      by (inr other) = holds_none p.outlines.items (along_list g i) (grid.along_others i other)

  over_some : (number : ℕ) → number < length s.corners → HoldsSome p.outlines.items (over_list g number)
  over_some number l =
      let (c, there) = some_element s.corners number l in
      let (column, row, in_cell) = corner_has_cell d s columns grid.raster grid.is_raster number c there in
      let h = grid.over number column row c there in_cell in
      record { within = h.within; once = h.once }

  -- what crosses a drawn edge in the view has a point in the cell of the crossing, as the edge has
  changing : (i k : ℕ) (e o : Edge s) → Contains p.drawn.items i → Contains p.outlines.items k → IsNumbered halves i e → IsNumbered halves k o → Changes d e o
      → Contains (along_list g i) k
  changing i k e o drawn listed at_i at_k changes =
      let (x, y, on_e, on_o, sight) = seen_over d e o changes in
      let (column, row, here) = edge_cell d s columns grid.raster grid.is_raster e x on_e in
      let there = same_cell d grid.raster column row x y (sight_back d y x sight) (is_point e.a e.b x on_e) (is_point o.a o.b y on_o) here in
      ((grid.along i e drawn at_i).exactly k o listed at_k).1 (column, row, (x, on_e, here.in_column, here.in_row), (y, on_o, there.in_column, there.in_row))

  -- what passes over a corner has a point in its cell
  passing : (number k : ℕ) (c : Corner) (o : Edge s) → slice_get s.corners number ≡ Some c → Contains p.outlines.items k → IsNumbered halves k o → IsNearerOver d number c o
      → Contains (over_list g number) k
  passing number k c o at listed at_k nearer =
      let (column, row, here) = corner_has_cell d s columns grid.raster grid.is_raster number c at in
      let there = same_cell d grid.raster column row (point_of c) nearer.point (sight_back d nearer.point (point_of c) nearer.same_sight) one (is_point o.a o.b nearer.point nearer.on_outline) here in
      ((grid.over number column row c at here).exactly k o listed at_k).1 (nearer.point, nearer.on_outline, there.in_column, there.in_row)
    where
      one : IsPoint (point_of c)
      one = natural_positive 1 (omega arith)

  pub law : AreNear d s g.triangles → (tests : ℕ) → IsFinder (record { part = s; halves = halves; direction = d; tests = tests }) p (along_list g) (over_list g) (is_listed_near g)
  law near tests = record {
    outlines = λ i l. (along_some i l).within;
    once = λ i l. (along_some i l).once;
    outlines_over = λ number l. (over_some number l).within;
    once_over = λ number l. (over_some number l).once;
    changing = changing;
    passing = passing;
    covering = near;
  }

-- of a solid
pub law_of_solid : (d : Triple) (solid : Solid) (p : Picked) (columns : ℕ) (g : GridOutlines) → IsGridOf d (solid_part solid) (edge_halves solid) p columns g
    → AreNear d (solid_part solid) g.triangles → (tests : ℕ)
    → IsFinder (record { part = solid_part solid; halves = edge_halves solid; direction = d; tests = tests }) p (along_list g) (over_list g) (is_listed_near g)
law_of_solid d solid p columns g grid near tests = law d (solid_part solid) (edge_halves solid) p columns g (edge_there solid) grid near tests
