-- The rows that an edge meets in a column are those from the row in which it comes into it to the last before it leaves it.
use Rattle.std.proofs.Common.{◌≡◌, inl, inr, ℕ, ◌+◌, ◌-◌, ◌*◌, ◌≤◌, ◌<◌, sym, subst, ap, ◌∙◌, arith}
use Rattle.out_grid.specs.inner.Courses.{Course, IsCourse, IsSumIn, Meets, first_column, last_column, rise_at, step_of, IsEnterRow, IsLeaveRow}
use Rattle.out_grid.proofs.CourseBorders.{at_or_after, at_or_before, before, higher, lower, strictly_lower, fallen, not_fallen, below_by, at_most_by, strictly_below_by}
use Rattle.out_grid.proofs.CourseNumbers.{positive, quotient_below, quotient_least}
use Rattle.out_grid.proofs.CourseSums.{sum_from, sum_to, turned, gaps_are, border_within}

-- rows of a height, times a difference of U that is written in two parts
pub as_steps : (n h s d : ℕ) → s ≡ d → (n * h) * s ≡ n * (d * h)
as_steps n h s d e = ap (λ (m : ℕ). (n * h) * m) e ∙ regrouped n h d
  where
    regrouped : (n h d : ℕ) → (n * h) * d ≡ n * (d * h)
    regrouped n h d = omega arith

-- V at x, times the difference of U
abbrev height_at : Course → ℕ → ℕ
height_at c x = ((c.to_u - x) * c.from_v) + ((x - c.from_u) * c.to_v)

-- ---- a point in a row, against the height at x
module _ (c : Course) (course : IsCourse c) (x row i j : ℕ) (after : c.from_u ≤ x) (within : x ≤ c.to_u) (v : IsSumIn c.from_v c.to_v c.height row i j) where
  abbrev a : ℕ
  a = c.to_u - x

  abbrev b : ℕ
  b = x - c.from_u

  abbrev value : ℕ
  value = (i * c.from_u) + (j * c.to_u)

  whole : a + b ≡ c.to_u - c.from_u
  whole = gaps_are c.from_u c.to_u x after within

  up : c.to_u ≡ x + a
  up = omega arith

  down : x ≡ c.from_u + b
  down = omega arith

  below_next : c.from_u < c.to_u → height_at c x * (i + j) ≤ ((i * c.from_v) + (j * c.to_v)) * (a + b) → height_at c x < (row + 1) * step_of c
  below_next wide h = subst (λ (n : ℕ). height_at c x < n) (as_steps (row + 1) c.height (a + b) (c.to_u - c.from_u) whole)
      (below_by (height_at c x) ((i * c.from_v) + (j * c.to_v)) (a + b) (i + j) ((row + 1) * c.height) (let e = whole in omega arith) h v.below)

  above_its : ((i * c.from_v) + (j * c.to_v)) * (a + b) ≤ height_at c x * (i + j) → row * step_of c ≤ height_at c x
  above_its h = subst (λ (n : ℕ). n ≤ height_at c x) (as_steps row c.height (a + b) (c.to_u - c.from_u) whole)
      (at_most_by (height_at c x) ((i * c.from_v) + (j * c.to_v)) (a + b) (i + j) (row * c.height) v.some h v.least)

  strictly_above_its : ((i * c.from_v) + (j * c.to_v)) * (a + b) < height_at c x * (i + j) → row * step_of c < height_at c x
  strictly_above_its h = subst (λ (n : ℕ). n < height_at c x) (as_steps row c.height (a + b) (c.to_u - c.from_u) whole)
      (strictly_below_by (height_at c x) ((i * c.from_v) + (j * c.to_v)) (a + b) (i + j) (row * c.height) h v.least)

  pub rising_after : c.from_v ≤ c.to_v → c.from_u < c.to_u → x * (i + j) ≤ value → height_at c x < (row + 1) * step_of c
  rising_after rising wide h = below_next wide
      (higher c.from_u c.from_v c.to_u c.to_v i j x a b (at_or_after c.from_u c.from_v c.to_u c.to_v i j x a b up down h) rising)

  pub rising_before : c.from_v ≤ c.to_v → value ≤ x * (i + j) → row * step_of c ≤ height_at c x
  rising_before rising h = above_its
      (lower c.from_u c.from_v c.to_u c.to_v i j x a b (at_or_before c.from_u c.from_v c.to_u c.to_v i j x a b up down h) rising)

  pub rising_strictly_before : c.from_v < c.to_v → value < x * (i + j) → row * step_of c < height_at c x
  rising_strictly_before rising h = strictly_above_its
      (strictly_lower c.from_u c.from_v c.to_u c.to_v i j x a b (before c.from_u c.from_v c.to_u c.to_v i j x a b up down h) rising)

  pub falling_after : c.to_v ≤ c.from_v → x * (i + j) ≤ value → row * step_of c ≤ height_at c x
  falling_after falling h = above_its
      (fallen c.from_u c.from_v c.to_u c.to_v i j x a b (at_or_after c.from_u c.from_v c.to_u c.to_v i j x a b up down h) falling)

  pub falling_before : c.to_v ≤ c.from_v → c.from_u < c.to_u → value ≤ x * (i + j) → height_at c x < (row + 1) * step_of c
  falling_before falling wide h = below_next wide
      (not_fallen c.from_u c.from_v c.to_u c.to_v i j x a b (at_or_before c.from_u c.from_v c.to_u c.to_v i j x a b up down h) falling)

-- ---- orders that the proofs below want
pub step_positive : (c : Course) → IsCourse c → c.from_u < c.to_u → 0 < step_of c
step_positive c course h = positive (c.to_u - c.from_u) c.height (omega arith) course.high

pub weak : (x z : ℕ) → x < z → x ≤ z
weak x z h = omega arith

pub through : (x y z : ℕ) → x < y → y ≤ z → x < z
through x y z h k = omega arith

less_one : (x y : ℕ) → x < y → x ≤ y - 1
less_one x y h = omega arith

-- ---- where the border of a column is: of one past the first that on its left, of one before the last that on its right
pub left_within : (c : Course) → IsCourse c → (k : ℕ) → first_column c < k → k ≤ last_column c → (c.from_u < k * c.width) × (k * c.width ≤ c.to_u)
left_within c course k after before = border_within c.from_u c.to_u c.width k course.wide after before

pub right_within : (c : Course) → IsCourse c → (k : ℕ) → first_column c ≤ k → k < last_column c
    → (c.from_u < (k + 1) * c.width) × ((k + 1) * c.width ≤ c.to_u)
right_within c course k after before = border_within c.from_u c.to_u c.width (k + 1) course.wide (omega arith) (omega arith)

-- ---- each row that it meets in a column is between the two
module _ (c : Course) (course : IsCourse c) (k row : ℕ) where
  pub rising_enter : (enter : ℕ) → c.from_v ≤ c.to_v → IsEnterRow c k enter → Meets c k row → enter ≤ row
  rising_enter enter rising (inl (e, r)) (i, j, u, v) =
      let h = sum_from c.from_v c.to_v c.height row i j course.high rising v in
      omega (arith, r, h)
  rising_enter enter rising (inr (later, r)) (i, j, u, v) =
      let last = sum_to c.from_u c.to_u c.width k i j course.wide course.ordered u in
      let in_it = left_within c course k later last in
      let wide = through c.from_u (k * c.width) c.to_u in_it.0 in_it.1 in
      let under = rising_after c course (k * c.width) row i j (weak _ _ in_it.0) in_it.1 v rising wide u.least in
      let h = quotient_below (rise_at c k) (step_of c) row (step_positive c course wide) under in
      subst (λ (n : ℕ). n ≤ row) (sym r) h

  pub falling_enter : (enter : ℕ) → c.to_v ≤ c.from_v → IsEnterRow c k enter → Meets c k row → row ≤ enter
  falling_enter enter falling (inl (e, r)) (i, j, u, v) =
      let h = sum_to c.to_v c.from_v c.height row j i course.high falling (turned c.from_v c.to_v c.height row i j v) in
      omega (arith, r, h)
  falling_enter enter falling (inr (later, r)) (i, j, u, v) =
      let last = sum_to c.from_u c.to_u c.width k i j course.wide course.ordered u in
      let in_it = left_within c course k later last in
      let wide = through c.from_u (k * c.width) c.to_u in_it.0 in_it.1 in
      let over = falling_after c course (k * c.width) row i j (weak _ _ in_it.0) in_it.1 v falling u.least in
      let h = quotient_least (rise_at c k) (step_of c) row (step_positive c course wide) over in
      subst (λ (n : ℕ). row ≤ n) (sym r) h

  pub rising_leave : (leave : ℕ) → c.from_v ≤ c.to_v → IsLeaveRow c k leave → Meets c k row → row ≤ leave
  rising_leave leave rising (inl (e, r)) (i, j, u, v) =
      let h = sum_to c.from_v c.to_v c.height row i j course.high rising v in
      omega (arith, r, h)
  rising_leave leave rising (inr (inl (earlier, strictly, r))) (i, j, u, v) =
      let first = sum_from c.from_u c.to_u c.width k i j course.wide course.ordered u in
      let in_it = right_within c course k first earlier in
      let wide = through c.from_u ((k + 1) * c.width) c.to_u in_it.0 in_it.1 in
      let over = rising_strictly_before c course ((k + 1) * c.width) row i j (weak _ _ in_it.0) in_it.1 v strictly u.below in
      let h = quotient_least (rise_at c (k + 1) - 1) (step_of c) row (step_positive c course wide) (less_one _ _ over) in
      subst (λ (n : ℕ). row ≤ n) (sym r) h
  rising_leave leave rising (inr (inr (earlier, level, r))) (i, j, u, v) =
      let first = sum_from c.from_u c.to_u c.width k i j course.wide course.ordered u in
      let in_it = right_within c course k first earlier in
      let wide = through c.from_u ((k + 1) * c.width) c.to_u in_it.0 in_it.1 in
      let over = rising_before c course ((k + 1) * c.width) row i j (weak _ _ in_it.0) in_it.1 v rising (weak _ _ u.below) in
      let h = quotient_least (rise_at c (k + 1)) (step_of c) row (step_positive c course wide) over in
      subst (λ (n : ℕ). row ≤ n) (sym r) h

  pub falling_leave : (leave : ℕ) → c.to_v ≤ c.from_v → IsLeaveRow c k leave → Meets c k row → leave ≤ row
  falling_leave leave falling (inl (e, r)) (i, j, u, v) =
      let h = sum_from c.to_v c.from_v c.height row j i course.high falling (turned c.from_v c.to_v c.height row i j v) in
      omega (arith, r, h)
  falling_leave leave falling (inr (inl (earlier, strictly, r))) meets = absurd (omega (arith, falling, strictly))
  falling_leave leave falling (inr (inr (earlier, same, r))) (i, j, u, v) =
      let first = sum_from c.from_u c.to_u c.width k i j course.wide course.ordered u in
      let in_it = right_within c course k first earlier in
      let wide = through c.from_u ((k + 1) * c.width) c.to_u in_it.0 in_it.1 in
      let under = falling_before c course ((k + 1) * c.width) row i j (weak _ _ in_it.0) in_it.1 v falling wide (weak _ _ u.below) in
      let h = quotient_below (rise_at c (k + 1)) (step_of c) row (step_positive c course wide) under in
      subst (λ (n : ℕ). n ≤ row) (sym r) h
