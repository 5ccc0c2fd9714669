-- The span of an edge is that of its course.
use Rattle.std.proofs.Common.{◌≡◌, ◌↔◌, ◌⊎◌, inl, inr, ℕ, ◌+◌, ◌-◌, ◌/◌, ◌≤◌, ◌<◌, refl, arith}
use Rattle.std.proofs.lemmas.Bool.{cases_lt}
use Rattle.integers.proofs.Logic.{↔-trans}
use Rattle.lattice.specs.declared.points.Corner.{Corner}
use Rattle.lattice.specs.Triple.{Triple}
use Rattle.out_grid.specs.Cells.{Raster, HasPointInColumn, HasPointInRow}
use Rattle.out_grid.specs.Bounds.{AreInTurn, IsSpan}
use Rattle.out_grid.specs.inner.Courses.{Course, IsCourse, first_column, last_column, apart, span_of, AreInOrder}
use Rattle.out_grid.specs.inner.Places.{IsCourseOf}
use Rattle.out_grid.proofs.Bridges.{meets_column, meets_row}
use Rattle.out_grid.proofs.CourseNumbers.{under_quotient, quotient_least}
use Rattle.out_grid.proofs.CourseSums.{columns_exact, course_rows}
use Rattle.out_grid.proofs.CourseCounts.{in_order}

-- ---- those from one number to another
module _ (P : ℕ → Type 0) (low high : ℕ) (order : low ≤ high) (within : (k : ℕ) → P k ↔ ((low ≤ k) × (k ≤ high))) where
  in_turn : AreInTurn P ((high - low) + 1)
  in_turn = record { first = low; exactly = λ k. ↔-trans (within k) (counted k) }
    where
      counted : (k : ℕ) → ((low ≤ k) × (k ≤ high)) ↔ ((low ≤ k) × (k < low + ((high - low) + 1)))
      counted k = ((λ h. (h.0, to k h.1)), (λ h. (h.0, from k h.1)))
        where
          to : (k : ℕ) → k ≤ high → k < low + ((high - low) + 1)
          to k h = omega (arith, order)

          from : (k : ℕ) → k < low + ((high - low) + 1) → k ≤ high
          from k h = omega (arith, order)

  count_is : (count : ℕ) → AreInTurn P count → count ≡ (high - low) + 1
  count_is count turn =
      let at_low = (turn.exactly low).0 ((within low).1 (itself low, order)) in
      let at_high = (turn.exactly high).0 ((within high).1 (order, itself high)) in
      let first = (within turn.first).0 ((turn.exactly turn.first).1 (itself turn.first, some turn.first at_low.0 at_low.1)) in
      let last = (within (turn.first + (count - 1))).0
      ((turn.exactly (turn.first + (count - 1))).1 (more turn.first (count - 1), under turn.first at_low.0 at_low.1)) in
      by turn.first at_low.0 at_low.1 at_high.1 first.0 last.1
    where
      itself : (k : ℕ) → k ≤ k
      itself k = omega arith

      more : (k n : ℕ) → k ≤ k + n
      more k n = omega arith

      some : (first : ℕ) → first ≤ low → low < first + count → first < first + count
      some first h g = omega arith

      under : (first : ℕ) → first ≤ low → low < first + count → first + (count - 1) < first + count
      under first h g = omega arith

      by : (first : ℕ) → first ≤ low → low < first + count → high < first + count → low ≤ first → first + (count - 1) ≤ high → count ≡ (high - low) + 1
      by first a b e f g = omega arith

-- ---- the rows of all columns
ordered : (a b : ℕ) → (low : ℕ) × (high : ℕ) × AreInOrder a b low high
ordered a b = by (cases_lt a b)
  where
    by : (a < b) ⊎ (b ≤ a) → (low : ℕ) × (high : ℕ) × AreInOrder a b low high
    by (inl h) = (a, b, inl (omega arith, refl, refl))
    by (inr h) = (b, a, inr (h, refl, refl))

apart_is : (a b low high : ℕ) → AreInOrder a b low high → high - low ≡ apart a b
apart_is a b low high (inl (h, l, g)) = omega arith
apart_is a b low high (inr (h, l, g)) = omega arith

columns_in_order : (c : Course) → IsCourse c → first_column c ≤ last_column c
columns_in_order c course =
    let p = under_quotient c.from_u c.width (first_column c) course.wide (itself (first_column c)) in
    let o = course.ordered in
    quotient_least c.to_u c.width (first_column c) course.wide (omega (arith, p, o))
  where
    itself : (k : ℕ) → k ≤ k
    itself k = omega arith

-- ---- the span
module _ (d : Triple) (r : Raster) (a b : Corner) (c : Course) (course : IsCourse c) (course_is : IsCourseOf d r a b c) where
  columns_within : (k : ℕ) → HasPointInColumn d r a b k ↔ ((first_column c ≤ k) × (k ≤ last_column c))
  columns_within k = ↔-trans (meets_column d r a b c course_is k) (columns_exact c course k)

  module _ (low high : ℕ) (order : AreInOrder (c.from_v / c.height) (c.to_v / c.height) low high) where
    rows_within : (k : ℕ) → HasPointInRow d r a b k ↔ ((low ≤ k) × (k ≤ high))
    rows_within k = ↔-trans (meets_row d r a b c course_is k) (course_rows c course low high order k)

    span_by : (span : ℕ) → IsSpan d r a b span → span ≡ span_of c
    span_by span h =
        let columns = count_is (HasPointInColumn d r a b) (first_column c) (last_column c) (columns_in_order c course) columns_within h.columns h.are_columns in
        let rows = count_is (HasPointInRow d r a b) low high (in_order _ _ low high order) rows_within h.rows h.are_rows in
        sum span h.columns h.rows (last_column c - first_column c) (high - low) (apart (c.from_v / c.height) (c.to_v / c.height)) columns rows
        (apart_is _ _ low high order) h.span_is
      where
        sum : (span columns rows m n k : ℕ) → columns ≡ m + 1 → rows ≡ n + 1 → n ≡ k → span + 1 ≡ columns + rows → span ≡ m + k + 1
        sum span columns rows m n k e f g h = omega arith

    has_span_by : IsSpan d r a b (span_of c)
    has_span_by = record {
      columns = (last_column c - first_column c) + 1;
      rows = (high - low) + 1;
      are_columns = in_turn (HasPointInColumn d r a b) (first_column c) (last_column c) (columns_in_order c course) columns_within;
      are_rows = in_turn (HasPointInRow d r a b) low high (in_order _ _ low high order) rows_within;
      span_is = sum (last_column c - first_column c) (high - low) (apart (c.from_v / c.height) (c.to_v / c.height)) (apart_is _ _ low high order);
    }
      where
        sum : (m n k : ℕ) → n ≡ k → (m + k + 1) + 1 ≡ (m + 1) + (n + 1)
        sum m n k e = omega arith

  pub span_is : (span : ℕ) → IsSpan d r a b span → span ≡ span_of c
  span_is span h = let o = ordered (c.from_v / c.height) (c.to_v / c.height) in span_by o.0 o.1 o.2 span h

  pub has_span : IsSpan d r a b (span_of c)
  has_span = let o = ordered (c.from_v / c.height) (c.to_v / c.height) in has_span_by o.0 o.1 o.2
