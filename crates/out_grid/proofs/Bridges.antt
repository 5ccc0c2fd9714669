-- From points of edges and corners to whole numbers: an edge has a point in a cell where its course meets it.
use Rattle.std.proofs.Common.{◌≡◌, ◌↔◌, ◌⊎◌, inl, inr, ℕ, ◌+◌, ◌*◌, ◌/◌, ◌≤◌, ◌<◌, [], ◌∷◌, refl, sym, subst, ◌∙◌, arith}
use Rattle.std.specs.Prelude.{ℤ, pos, negsuc, ◌+ℤ◌, ◌-ℤ◌, ◌*ℤ◌, ◌≤ℤ◌, ◌<ℤ◌}
use Rattle.std.proofs.lemmas.Int.{ints}
use Rattle.integers.proofs.Ring.{var, con, ◌⊕◌, ◌⊖◌, ◌⊗◌, ring, by_one, by_two, gap_of_less}
use Rattle.integers.proofs.Comparisons.{gap_of_at_most, at_most_of_gap, less_of_gap}
use Rattle.integers.proofs.Signs.{mul_pos, mul_nonneg, pos_of_mul, nonneg_of_mul}
use Rattle.lattice.specs.declared.points.Corner.{Corner}
use Rattle.lattice.specs.Triple.{Triple, dot, right_axis, up_axis}
use Rattle.lattice.specs.Points.{Point, IsPoint, point_of, scaled, across_of, upward_of, OnOneSight}
use Rattle.geometry.specs.Faces.{edge_sum, IsPointOfEdge}
use Rattle.geometry.specs.Parts.{Part, Edge}
use Rattle.geometry.proofs.FacePoints.{edge_point-turned, dot-edge_sum}
use Rattle.out_grid.specs.Cells.{Raster, IsInStep, IsInColumn, IsInRow, HasPointInColumn, HasPointInRow, HasPointIn}
use Rattle.out_grid.specs.Grids.{IsInCell}
use Rattle.out_grid.specs.inner.Courses.{Course, IsSumIn, MeetsColumn, MeetsRow, Meets}
use Rattle.out_grid.specs.inner.Places.{IsAt, IsCourseOf}
use Rattle.out_grid.proofs.CourseSums.{sum_from, sum_to, at_first}

-- ---- a step of whole numbers
-- the sum of two values with the weights i and j, by how far the two are above the least
weighed : (least a b : ℤ) (u v i j : ℕ) → pos u ≡ a -ℤ least → pos v ≡ b -ℤ least
    → (pos i *ℤ a) +ℤ (pos j *ℤ b) ≡ (least *ℤ pos (i + j)) +ℤ pos ((i * u) + (j * v))
weighed least a b u v i j e f =
    by_two _ _ (a -ℤ least) (pos u) (pos i) (b -ℤ least) (pos v) (pos j)
    (ring (least ∷ a ∷ b ∷ pos u ∷ pos v ∷ pos i ∷ pos j ∷ [])
    (((var 5 ⊗ var 1) ⊕ (var 6 ⊗ var 2)) ⊖ ((var 0 ⊗ (var 5 ⊕ var 6)) ⊕ ((var 5 ⊗ var 3) ⊕ (var 6 ⊗ var 4))))
    ((((var 1 ⊖ var 0) ⊖ var 3) ⊗ var 5) ⊕ (((var 2 ⊖ var 0) ⊖ var 4) ⊗ var 6)) refl) (sym e) (sym f)

border : (least : ℤ) (m n : ℕ) → (least +ℤ pos m) *ℤ pos n ≡ (least *ℤ pos n) +ℤ pos (m * n)
border least m n = ring (least ∷ pos m ∷ pos n ∷ []) ((var 0 ⊕ var 1) ⊗ var 2) ((var 0 ⊗ var 2) ⊕ (var 1 ⊗ var 2)) refl

module _ (l x y : ℤ) (p q : ℕ) (x_is : x ≡ l +ℤ pos p) (y_is : y ≡ l +ℤ pos q) where
  at_most_back : x ≤ℤ y → p ≤ q
  at_most_back h = omega (arith, ints)

  at_most_on : p ≤ q → x ≤ℤ y
  at_most_on h = omega (arith, ints)

  less_back : x <ℤ y → p < q
  less_back h = omega (arith, ints)

  less_on : p < q → x <ℤ y
  less_on h = omega (arith, ints)

module _ (least x : ℤ) (size k i j from to : ℕ) (is : x ≡ (least *ℤ pos (i + j)) +ℤ pos ((i * from) + (j * to))) where
  sum_of_step : 0 < i + j → IsInStep least size k x (pos (i + j)) → IsSumIn from to size k i j
  sum_of_step some h = record {
    some = some;
    least = at_most_back (least *ℤ pos (i + j)) _ x ((k * size) * (i + j)) ((i * from) + (j * to)) (border least (k * size) (i + j)) is h.from;
    below = less_back (least *ℤ pos (i + j)) x _ ((i * from) + (j * to)) (((k + 1) * size) * (i + j)) is (border least ((k + 1) * size) (i + j)) h.below;
  }

  step_of_sum : IsSumIn from to size k i j → IsInStep least size k x (pos (i + j))
  step_of_sum h = record {
    from = at_most_on (least *ℤ pos (i + j)) _ x ((k * size) * (i + j)) ((i * from) + (j * to)) (border least (k * size) (i + j)) is h.least;
    below = less_on (least *ℤ pos (i + j)) x _ ((i * from) + (j * to)) (((k + 1) * size) * (i + j)) is (border least ((k + 1) * size) (i + j)) h.below;
  }

-- along an axis, where the two corners are so far above the least
module _ (s : Triple) (a b : Corner) (least : ℤ) (from to : ℕ) (at_a : pos from ≡ dot s (scaled (point_of a)) -ℤ least) (at_b : pos to ≡ dot s (scaled (point_of b)) -ℤ least)
    (size k i j : ℕ) where
  value : dot s (scaled (edge_sum a b i j)) ≡ (least *ℤ pos (i + j)) +ℤ pos ((i * from) + (j * to))
  value = dot-edge_sum s a b i j ∙ weighed least (dot s (scaled (point_of a))) (dot s (scaled (point_of b))) from to i j at_a at_b

  to_sum : 0 < i + j → IsInStep least size k (dot s (scaled (edge_sum a b i j))) (pos (i + j)) → IsSumIn from to size k i j
  to_sum = sum_of_step least (dot s (scaled (edge_sum a b i j))) size k i j from to value

  to_step : IsSumIn from to size k i j → IsInStep least size k (dot s (scaled (edge_sum a b i j))) (pos (i + j))
  to_step = step_of_sum least (dot s (scaled (edge_sum a b i j))) size k i j from to value

-- ---- an edge whose course goes from a to b
abbrev HasPointBetween : Triple → Raster → Corner → Corner → ℕ → ℕ → Type 0
HasPointBetween d r a b column row = (p : Point) × IsPointOfEdge a b p × IsInColumn d r column p × IsInRow d r row p

module _ (d : Triple) (r : Raster) (a b : Corner) (c : Course) (width : c.width ≡ r.width) (height : c.height ≡ r.height)
    (at_a : IsAt d r a c.from_u c.from_v) (at_b : IsAt d r b c.to_u c.to_v) where
  sum_across : (k i j : ℕ) → 0 < i + j → IsInColumn d r k (edge_sum a b i j) → IsSumIn c.from_u c.to_u c.width k i j
  sum_across k i j some h =
      subst (λ (w : ℕ). IsSumIn c.from_u c.to_u w k i j) (sym width) (to_sum (right_axis d) a b r.left c.from_u c.to_u at_a.across at_b.across r.width k i j some h)

  in_column : (k i j : ℕ) → IsSumIn c.from_u c.to_u c.width k i j → IsInColumn d r k (edge_sum a b i j)
  in_column k i j h =
      to_step (right_axis d) a b r.left c.from_u c.to_u at_a.across at_b.across r.width k i j (subst (λ (w : ℕ). IsSumIn c.from_u c.to_u w k i j) width h)

  sum_upward : (k i j : ℕ) → 0 < i + j → IsInRow d r k (edge_sum a b i j) → IsSumIn c.from_v c.to_v c.height k i j
  sum_upward k i j some h =
      subst (λ (w : ℕ). IsSumIn c.from_v c.to_v w k i j) (sym height) (to_sum (up_axis d) a b r.bottom c.from_v c.to_v at_a.upward at_b.upward r.height k i j some h)

  in_row : (k i j : ℕ) → IsSumIn c.from_v c.to_v c.height k i j → IsInRow d r k (edge_sum a b i j)
  in_row k i j h =
      to_step (up_axis d) a b r.bottom c.from_v c.to_v at_a.upward at_b.upward r.height k i j (subst (λ (w : ℕ). IsSumIn c.from_v c.to_v w k i j) height h)

  column_met : (k : ℕ) → HasPointInColumn d r a b k → MeetsColumn c k
  column_met k (p, (i, j, some, is), h) = (i, j, sum_across k i j some (subst (λ (q : Point). IsInColumn d r k q) is h))

  column_had : (k : ℕ) → MeetsColumn c k → HasPointInColumn d r a b k
  column_had k (i, j, h) = (edge_sum a b i j, (i, j, h.some, refl), in_column k i j h)

  row_met : (k : ℕ) → HasPointInRow d r a b k → MeetsRow c k
  row_met k (p, (i, j, some, is), h) = (i, j, sum_upward k i j some (subst (λ (q : Point). IsInRow d r k q) is h))

  row_had : (k : ℕ) → MeetsRow c k → HasPointInRow d r a b k
  row_had k (i, j, h) = (edge_sum a b i j, (i, j, h.some, refl), in_row k i j h)

  cell_met : (column row : ℕ) → HasPointBetween d r a b column row → Meets c column row
  cell_met column row (p, (i, j, some, is), g, h) = (
    i,
    j,
    sum_across column i j some (subst (λ (q : Point). IsInColumn d r column q) is g),
    sum_upward row i j some (subst (λ (q : Point). IsInRow d r row q) is h),
  )

  cell_had : (column row : ℕ) → Meets c column row → HasPointBetween d r a b column row
  cell_had column row (i, j, g, h) = (edge_sum a b i j, (i, j, g.some, refl), in_column column i j g, in_row row i j h)

-- ---- in either direction
turned : (Q : Point → Type 0) (a b : Corner) → ((p : Point) × IsPointOfEdge a b p × Q p) → (p : Point) × IsPointOfEdge b a p × Q p
turned Q a b (p, on_edge, h) = (p, edge_point-turned a b p on_edge, h)

cell_turned : (d : Triple) (r : Raster) (a b : Corner) (column row : ℕ) → HasPointBetween d r a b column row → HasPointBetween d r b a column row
cell_turned d r a b column row (p, on_edge, g, h) = (p, edge_point-turned a b p on_edge, g, h)

module _ (d : Triple) (r : Raster) (a b : Corner) (c : Course) (course : IsCourseOf d r a b c) where
  abbrev Ends : Type 0
  Ends = (IsAt d r a c.from_u c.from_v × IsAt d r b c.to_u c.to_v) ⊎ (IsAt d r b c.from_u c.from_v × IsAt d r a c.to_u c.to_v)

  pub meets_column : (k : ℕ) → HasPointInColumn d r a b k ↔ MeetsColumn c k
  meets_column k = by course.ends
    where
      by : Ends → HasPointInColumn d r a b k ↔ MeetsColumn c k
      by (inl (f, t)) = (column_met d r a b c course.width course.height f t k, column_had d r a b c course.width course.height f t k)
      by (inr (f, t)) = (
        (λ h. column_met d r b a c course.width course.height f t k (turned (IsInColumn d r k) a b h)),
        (λ m. turned (IsInColumn d r k) b a (column_had d r b a c course.width course.height f t k m)),
      )

  pub meets_row : (k : ℕ) → HasPointInRow d r a b k ↔ MeetsRow c k
  meets_row k = by course.ends
    where
      by : Ends → HasPointInRow d r a b k ↔ MeetsRow c k
      by (inl (f, t)) = (row_met d r a b c course.width course.height f t k, row_had d r a b c course.width course.height f t k)
      by (inr (f, t)) = (
        (λ h. row_met d r b a c course.width course.height f t k (turned (IsInRow d r k) a b h)),
        (λ m. turned (IsInRow d r k) b a (row_had d r b a c course.width course.height f t k m)),
      )

  meets_between : (column row : ℕ) → HasPointBetween d r a b column row ↔ Meets c column row
  meets_between column row = by course.ends
    where
      by : Ends → HasPointBetween d r a b column row ↔ Meets c column row
      by (inl (f, t)) = (cell_met d r a b c course.width course.height f t column row, cell_had d r a b c course.width course.height f t column row)
      by (inr (f, t)) = (
        (λ h. cell_met d r b a c course.width course.height f t column row (cell_turned d r a b column row h)),
        (λ m. cell_turned d r b a column row (cell_had d r b a c course.width course.height f t column row m)),
      )

pub meets : (d : Triple) (r : Raster) {s : Part} (e : Edge s) (c : Course) → IsCourseOf d r e.a e.b c → (column row : ℕ) → HasPointIn d r {s = s} e column row ↔ Meets c column row
meets d r e c course column row = meets_between d r e.a e.b c course column row

-- ---- corners
module _ (least x : ℤ) (size k u : ℕ) (wide : 0 < size) (at : pos u ≡ x -ℤ least) where
  apart_is : x ≡ (least *ℤ pos (1 + 0)) +ℤ pos ((1 * u) + (0 * u))
  apart_is = omega (arith, ints)

  step_is : IsInStep least size k x (pos 1) → k ≡ u / size
  step_is h =
      let sum = sum_of_step least x size k 1 0 u u apart_is (omega arith) h in
      let l = sum_from u u size k 1 0 wide (omega arith) sum in
      let m = sum_to u u size k 1 0 wide (omega arith) sum in
      omega (arith, l, m)

  in_its_step : k ≡ u / size → IsInStep least size k x (pos 1)
  in_its_step e = step_of_sum least x size k 1 0 u u apart_is (at_first u u size k wide e)

pub corner_cell : (d : Triple) (r : Raster) (c : Corner) (u v : ℕ) → IsAt d r c u v → 0 < r.width → 0 < r.height
    → (column row : ℕ) → IsInCell d r column row (point_of c) ↔ ((column ≡ u / r.width) × (row ≡ v / r.height))
corner_cell d r c u v at wide high column row = (is, within)
  where
    is : IsInCell d r column row (point_of c) → (column ≡ u / r.width) × (row ≡ v / r.height)
    is h = (step_is r.left (across_of d (point_of c)) r.width column u wide at.across h.in_column, step_is r.bottom (upward_of d (point_of c)) r.height row v high at.upward h.in_row)

    within : (column ≡ u / r.width) × (row ≡ v / r.height) → IsInCell d r column row (point_of c)
    within (e, f) = record {
      in_column = in_its_step r.left (across_of d (point_of c)) r.width column u wide at.across e;
      in_row = in_its_step r.bottom (upward_of d (point_of c)) r.height row v high at.upward f;
    }

-- ---- points on one line of sight
module _ (x w y v b : ℤ) (w_positive : pos 0 <ℤ w) (v_positive : pos 0 <ℤ v) (same : x *ℤ v ≡ y *ℤ w) where
  over : w *ℤ (y -ℤ (b *ℤ v)) ≡ v *ℤ (x -ℤ (b *ℤ w))
  over = by_one _ _ (x *ℤ v) (y *ℤ w) (negsuc 0)
      (ring (x ∷ w ∷ y ∷ v ∷ b ∷ [])
      ((var 1 ⊗ (var 2 ⊖ (var 4 ⊗ var 3))) ⊖ (var 3 ⊗ (var 0 ⊖ (var 4 ⊗ var 1))))
      (((var 0 ⊗ var 3) ⊖ (var 2 ⊗ var 1)) ⊗ con (negsuc 0)) refl) same

  under : w *ℤ ((b *ℤ v) -ℤ y) ≡ v *ℤ ((b *ℤ w) -ℤ x)
  under = by_one _ _ (x *ℤ v) (y *ℤ w) (pos 1)
      (ring (x ∷ w ∷ y ∷ v ∷ b ∷ [])
      ((var 1 ⊗ ((var 4 ⊗ var 3) ⊖ var 2)) ⊖ (var 3 ⊗ ((var 4 ⊗ var 1) ⊖ var 0)))
      (((var 0 ⊗ var 3) ⊖ (var 2 ⊗ var 1)) ⊗ con (pos 1)) refl) same

  still_from : (b *ℤ w) ≤ℤ x → (b *ℤ v) ≤ℤ y
  still_from h = at_most_of_gap (b *ℤ v) y (nonneg_of_mul w (y -ℤ (b *ℤ v)) w_positive
      (subst (λ (z : ℤ). pos 0 ≤ℤ z) (sym over) (mul_nonneg v (x -ℤ (b *ℤ w)) (not_negative v_positive) (gap_of_at_most (b *ℤ w) x h))))
    where
      not_negative : pos 0 <ℤ v → pos 0 ≤ℤ v
      not_negative h = omega (arith, ints)

  still_below : x <ℤ (b *ℤ w) → y <ℤ (b *ℤ v)
  still_below h = less_of_gap y (b *ℤ v) (pos_of_mul w ((b *ℤ v) -ℤ y) w_positive
      (subst (λ (z : ℤ). pos 0 <ℤ z) (sym under) (mul_pos v ((b *ℤ w) -ℤ x) v_positive (gap_of_less x (b *ℤ w) h))))

same_step : (least : ℤ) (size k : ℕ) (x w y v : ℤ) → pos 0 <ℤ w → pos 0 <ℤ v → x *ℤ v ≡ y *ℤ w → IsInStep least size k x w → IsInStep least size k y v
same_step least size k x w y v w_positive v_positive same h = record {
  from = still_from x w y v (least +ℤ pos (k * size)) w_positive v_positive same h.from;
  below = still_below x w y v (least +ℤ pos ((k + 1) * size)) w_positive v_positive same h.below;
}

pub same_cell : (d : Triple) (r : Raster) (column row : ℕ) (p q : Point) → OnOneSight d p q → IsPoint p → IsPoint q → IsInCell d r column row p → IsInCell d r column row q
same_cell d r column row p q same p_is q_is h = record {
  in_column = same_step r.left r.width column (across_of d p) p.w (across_of d q) q.w p_is q_is same.across h.in_column;
  in_row = same_step r.bottom r.height row (upward_of d p) p.w (upward_of d q) q.w p_is q_is same.upward h.in_row;
}
