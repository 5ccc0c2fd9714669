-- The walk over a course's columns: that the cells it comes to are in the grid, and how often it has counted.
use Rattle.std.proofs.Common.{◌⊎◌, inl, inr, ℕ, ◌+◌, ◌-◌, ◌<◌, ◌≤◌, refl, arith}
use Rattle.std.proofs.lemmas.Bool.{cases_lt}
use Rattle.out_grid.specs.declared.course.Course as walked
use Rattle.out_grid.specs.inner.Courses.{Course, IsCourse, Meets, MeetsRow, first_column, last_column, AreRows, AreBefore, span_of}
use Rattle.out_grid.specs.inner.Places.{course_of, IsInside}
use Rattle.out_grid.proofs.CourseCells.{rows_exact}
use Rattle.out_grid.proofs.CourseCounts.{low_below_high, few_before, few_in_all}
use Rattle.out_grid.proofs.CourseMixes.{in_row}
use Rattle.out_grid.proofs.CourseSums.{at_first, columns_exact, rising_rows, falling_rows}

abbrev pub is_course : (c : walked.Course) → IsCourse (course_of c)
is_course c = record { ordered = c.ordered; wide = c.wide; high = c.high }

-- ---- cells of the grid
module _ (c : Course) (course : IsCourse c) (n : ℕ) (inside : IsInside n c) where
  row_inside : (row : ℕ) → MeetsRow c row → row < n
  row_inside row m = by (cases_lt c.from_v c.to_v)
    where
      by : (c.from_v < c.to_v) ⊎ (c.to_v ≤ c.from_v) → row < n
      by (inl rising) = let h = (rising_rows c course (omega arith) row m).1 in let g = inside.to in omega (arith, h, g)
      by (inr falling) = let h = (falling_rows c course falling row m).1 in let g = inside.from in omega (arith, h, g)

  pub met_inside : (column row : ℕ) → Meets c column row → (column < n) × (row < n)
  met_inside column row m = (by ((columns_exact c course column).0 (m.0, m.1, m.2)).1, row_inside row (in_row c column row m))
    where
      by : column ≤ last_column c → column < n
      by h = let g = inside.last in omega (arith, h, g)

-- ---- one column
pub columns_in_order : (c : Course) → IsCourse c → first_column c ≤ last_column c
columns_in_order c course = let h = (columns_exact c course (first_column c)).0 (1, 0, at_first c.from_u c.to_u c.width (first_column c) course.wide refl) in h.1

module _ (c : Course) (course : IsCourse c) (k low high : ℕ) (first : first_column c ≤ k) (last : k ≤ last_column c) (rows : AreRows c k low high) where
  pub high_inside : (n : ℕ) → IsInside n c → high < n
  high_inside n inside = (met_inside c course n inside k high ((rows_exact c course k low high first last rows high).1 (low_below_high c k low high rows, itself high))).1
    where
      itself : (m : ℕ) → m ≤ m
      itself m = omega arith

  -- the count began at start, and was now when the walk came to the column, and then after it
  module _ (start now after : ℕ) (before : AreBefore c k (now - start)) (on : start ≤ now) (counted : after ≤ now + ((high - low) + 1)) where
    pub counts_before : k < last_column c → AreBefore c (k + 1) (after - start)
    counts_before earlier row enter =
        let h = few_before c course k low high (now - start) first earlier rows before row enter in
        fewer _ h
      where
        fewer : (x : ℕ) → ((now - start) + ((high - low) + 1)) ≤ x → after - start ≤ x
        fewer x h = omega (arith, h, on, counted)

    pub counts_in_all : after ≤ start + span_of c
    counts_in_all =
        let h = few_in_all c course k low high (now - start) first last rows before in
        by (span_of c) h
      where
        by : (x : ℕ) → ((now - start) + ((high - low) + 1)) ≤ x → after ≤ start + x
        by x h = omega (arith, h, on, counted)
