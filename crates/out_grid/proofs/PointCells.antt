-- Each point of an edge, and each corner, is in a cell.
use Rattle.std.proofs.Common.{◌≡◌, ℕ, ◌+◌, ◌*◌, ◌/◌, ◌<◌, ◌≤◌, [], ◌∷◌, Some, slice_get, refl, sym, subst, arith}
use Rattle.std.specs.Prelude.{ℤ, pos, ◌+ℤ◌, ◌-ℤ◌, ◌*ℤ◌, ◌≤ℤ◌, ◌<ℤ◌}
use Rattle.std.proofs.lemmas.Int.{ints}
use Rattle.integers.proofs.Absolutes.{natural_positive, natural_not_negative}
use Rattle.integers.proofs.Comparisons.{gap_of_at_most, at_most_by, sum_not_negative}
use Rattle.integers.proofs.Ring.{var, ◌⊕◌, ◌⊖◌, ◌⊗◌, ring}
use Rattle.integers.proofs.Signs.{mul_nonneg}
use Rattle.lattice.specs.declared.points.Corner.{Corner}
use Rattle.lattice.specs.Triple.{Triple, dot, right_axis, up_axis}
use Rattle.lattice.specs.Points.{Point, IsPoint, point_of, scaled, across_of, upward_of}
use Rattle.geometry.specs.Faces.{IsPointOfEdge, edge_sum}
use Rattle.geometry.specs.Parts.{Part, Edge}
use Rattle.geometry.proofs.FacePoints.{dot-edge_sum}
use Rattle.hiding_laws.proofs.SidePoints.{natural}
use Rattle.out_grid.specs.Cells.{Raster, IsRaster, IsInStep}
use Rattle.out_grid.specs.Grids.{IsInCell}
use Rattle.out_grid.proofs.Bridges.{corner_cell}
use Rattle.out_grid.proofs.CourseNumbers.{positive, under_quotient, over_quotient}
use Rattle.out_grid.proofs.Rasters.{place_from, wide, high}

pub is_point : (a b : Corner) (p : Point) → IsPointOfEdge a b p → IsPoint p
is_point a b p (i, j, some, is) = subst (λ (q : Point). pos 0 <ℤ q.w) (sym is) (natural_positive (i + j) some)

-- ---- the step that a value is in
module _ (least x : ℤ) (size w n : ℕ) (is : pos n ≡ x -ℤ (least *ℤ pos w)) where
  border : (m : ℕ) → (least +ℤ pos m) *ℤ pos w ≡ (least *ℤ pos w) +ℤ pos (m * w)
  border m = ring (least ∷ pos m ∷ pos w ∷ []) ((var 0 ⊕ var 1) ⊗ var 2) ((var 0 ⊗ var 2) ⊕ (var 1 ⊗ var 2)) refl

  from : (m : ℕ) → m * w ≤ n → ((least +ℤ pos m) *ℤ pos w) ≤ℤ x
  from m h = by (least *ℤ pos w) ((least +ℤ pos m) *ℤ pos w) (m * w) (border m) is h
    where
      by : (l y : ℤ) (p : ℕ) → y ≡ l +ℤ pos p → pos n ≡ x -ℤ l → p ≤ n → y ≤ℤ x
      by l y p e f h = omega (arith, ints)

  below : (m : ℕ) → n < m * w → x <ℤ ((least +ℤ pos m) *ℤ pos w)
  below m h = by (least *ℤ pos w) ((least +ℤ pos m) *ℤ pos w) (m * w) (border m) is h
    where
      by : (l y : ℤ) (p : ℕ) → y ≡ l +ℤ pos p → pos n ≡ x -ℤ l → n < p → x <ℤ y
      by l y p e f h = omega (arith, ints)

-- a value that is not below the least is in a step
step_there : (least x : ℤ) (size w : ℕ) → 0 < size → 0 < w → (least *ℤ pos w) ≤ℤ x → (k : ℕ) × IsInStep least size k x (pos w)
step_there least x size w long some h = at (natural (x -ℤ (least *ℤ pos w)) (gap_of_at_most (least *ℤ pos w) x h))
  where
    at : ((n : ℕ) × (pos n ≡ x -ℤ (least *ℤ pos w))) → (k : ℕ) × IsInStep least size k x (pos w)
    at (n, is) =
        let k = n / (size * w) in
        let l = under_quotient n (size * w) k (positive size w long some) (omega arith) in
        let m = over_quotient n (size * w) (k + 1) (positive size w long some) (omega arith) in
        (k, record { from = from least x size w n is (k * size) (omega (arith, l)); below = below least x size w n is ((k + 1) * size) (omega (arith, m)) })

-- a sum of two values with weights is not below the least
sum_above : (least a b : ℤ) (i j : ℕ) → least ≤ℤ a → least ≤ℤ b → (least *ℤ pos (i + j)) ≤ℤ ((pos i *ℤ a) +ℤ (pos j *ℤ b))
sum_above least a b i j h k =
    at_most_by _ _ ((pos i *ℤ (a -ℤ least)) +ℤ (pos j *ℤ (b -ℤ least)))
    (ring (least ∷ a ∷ b ∷ pos i ∷ pos j ∷ []) (((var 3 ⊗ var 1) ⊕ (var 4 ⊗ var 2)) ⊖ (var 0 ⊗ (var 3 ⊕ var 4))) ((var 3 ⊗ (var 1 ⊖ var 0)) ⊕ (var 4 ⊗ (var 2 ⊖ var 0))) refl)
    (sum_not_negative _ _ (mul_nonneg (pos i) (a -ℤ least) (natural_not_negative i) (gap_of_at_most least a h)) (mul_nonneg (pos j) (b -ℤ least) (natural_not_negative j) (gap_of_at_most least b k)))

-- along an axis, for a point between two corners
axis_step : (s : Triple) (a b : Corner) (least : ℤ) (size i j : ℕ) → 0 < size → 0 < i + j → least ≤ℤ dot s (scaled (point_of a)) → least ≤ℤ dot s (scaled (point_of b))
    → (k : ℕ) × IsInStep least size k (dot s (scaled (edge_sum a b i j))) (pos (i + j))
axis_step s a b least size i j long some h k =
    step_there least (dot s (scaled (edge_sum a b i j))) size (i + j) long some
    (subst (λ (z : ℤ). (least *ℤ pos (i + j)) ≤ℤ z) (sym (dot-edge_sum s a b i j)) (sum_above least (dot s (scaled (point_of a))) (dot s (scaled (point_of b))) i j h k))

-- ---- cells
module _ (d : Triple) (s : Part) (columns : ℕ) (r : Raster) (is_raster : IsRaster d s.corners columns r) where
  -- a cell that the point is in
  abbrev pub HasCell : Point → Type 0
  HasCell p = (column : ℕ) × (row : ℕ) × IsInCell d r column row p

  pub edge_cell : (e : Edge s) (p : Point) → IsPointOfEdge e.a e.b p → HasCell p
  edge_cell e p (i, j, some, is) = subst HasCell (sym is) at
    where
      first : (r.left ≤ℤ across_of d (point_of e.a)) × (r.bottom ≤ℤ upward_of d (point_of e.a))
      first = place_from d s.corners columns r is_raster e.m e.a e.at_m

      second : (r.left ≤ℤ across_of d (point_of e.b)) × (r.bottom ≤ℤ upward_of d (point_of e.b))
      second = place_from d s.corners columns r is_raster e.n e.b e.at_n

      at : HasCell (edge_sum e.a e.b i j)
      at =
          let (column, in_column) = axis_step (right_axis d) e.a e.b r.left r.width i j (wide d s.corners columns r is_raster) some first.0 second.0 in
          let (row, in_row) = axis_step (up_axis d) e.a e.b r.bottom r.height i j (high d s.corners columns r is_raster) some first.1 second.1 in
          (column, row, record { in_column = in_column; in_row = in_row })

  pub corner_has_cell : (number : ℕ) (c : Corner) → slice_get s.corners number ≡ Some c → HasCell (point_of c)
  corner_has_cell number c there =
      let least = place_from d s.corners columns r is_raster number c there in
      at (natural (across_of d (point_of c) -ℤ r.left) (gap_of_at_most _ _ least.0)) (natural (upward_of d (point_of c) -ℤ r.bottom) (gap_of_at_most _ _ least.1))
    where
      at : ((u : ℕ) × (pos u ≡ across_of d (point_of c) -ℤ r.left)) → ((v : ℕ) × (pos v ≡ upward_of d (point_of c) -ℤ r.bottom)) → HasCell (point_of c)
      at (u, across) (v, upward) = (
        u / r.width,
        v / r.height,
        (corner_cell d r c u v (record { across = across; upward = upward }) (wide d s.corners columns r is_raster) (high d s.corners columns r is_raster) (u / r.width) (v / r.height)).1 (refl, refl),
      )
