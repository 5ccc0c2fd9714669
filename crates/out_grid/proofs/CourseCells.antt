-- An edge meets the row in which it comes into a column and the last before it leaves it, so each between them and no other.
use Rattle.std.proofs.Common.{◌≡◌, ◌↔◌, ◌⊎◌, inl, inr, ℕ, ◌+◌, ◌-◌, ◌*◌, ◌/◌, ◌≤◌, ◌<◌, refl, sym, subst, arith}
use Rattle.std.proofs.lemmas.Bool.{cases_lt}
use Rattle.out_grid.specs.inner.Courses.{Course, IsCourse, IsSumIn, Meets, first_column, last_column, rise_at, step_of, IsEnterRow, IsLeaveRow, AreInOrder, AreRows}
use Rattle.out_grid.proofs.CourseBorders.{at_or_before, before, strictly_lower, not_fallen}
use Rattle.out_grid.proofs.CourseMixes.{mixed, mixed_some, rows_between}
use Rattle.out_grid.proofs.CourseNumbers.{grown, positive, below_of_grown, at_most_of_grown, under_quotient, over_quotient}
use Rattle.out_grid.proofs.CourseRows.{as_steps, step_positive, weak, through, left_within, right_within, rising_enter, falling_enter, rising_leave, falling_leave}
use Rattle.out_grid.proofs.CourseSums.{at_first, at_second, border_value, gaps_are, border_sum, some_sum, within_order}

pub rise_positive : (c : Course) → IsCourse c → (k : ℕ) → first_column c < k → k ≤ last_column c → c.from_v < c.to_v → 0 < rise_at c k
rise_positive c course k after within rising =
    let in_it = left_within c course k after within in
    by ((c.to_u - (k * c.width)) * c.from_v) _ (positive ((k * c.width) - c.from_u) c.to_v (gap c.from_u (k * c.width) in_it.0) (omega arith))
  where
    gap : (x z : ℕ) → x < z → 0 < z - x
    gap x z h = omega arith

    by : (m n : ℕ) → 0 < n → 0 < m + n
    by m n h = omega arith

-- ---- it meets the row in which it comes into a column
border_row : (c : Course) → IsCourse c → (k row : ℕ) → first_column c < k → k ≤ last_column c → row ≡ rise_at c k / step_of c
    → IsSumIn c.from_v c.to_v c.height row (c.to_u - (k * c.width)) ((k * c.width) - c.from_u)
border_row c course k row after within e =
    let x = k * c.width in
    let in_it = left_within c course k after within in
    let wide = through c.from_u x c.to_u in_it.0 in_it.1 in
    let step = step_positive c course wide in
    let same = gaps_are c.from_u c.to_u x (weak _ _ in_it.0) in_it.1 in
    record {
      some = subst (λ (n : ℕ). 0 < n) (sym same) (gap c.from_u c.to_u wide);
      least = subst (λ (n : ℕ). n ≤ rise_at c k) (sym (as_steps row c.height _ _ same)) (under_quotient (rise_at c k) (step_of c) row step (up_to row _ e));
      below = subst (λ (n : ℕ). rise_at c k < n) (sym (as_steps (row + 1) c.height _ _ same)) (over_quotient (rise_at c k) (step_of c) (row + 1) step (past row _ e));
    }
  where
    gap : (x z : ℕ) → x < z → 0 < z - x
    gap x z h = omega arith

    up_to : (x z : ℕ) → x ≡ z → x ≤ z
    up_to x z h = omega arith

    past : (x z : ℕ) → x ≡ z → z < x + 1
    past x z h = omega arith

pub enter_met : (c : Course) → IsCourse c → (k enter : ℕ) → k ≤ last_column c → IsEnterRow c k enter → Meets c k enter
enter_met c course k enter within (inl (e, r)) =
    (1, 0, at_first c.from_u c.to_u c.width k course.wide e, at_first c.from_v c.to_v c.height enter course.high r)
enter_met c course k enter within (inr (later, r)) =
    (c.to_u - (k * c.width), (k * c.width) - c.from_u, border_sum c.from_u c.to_u c.width k course.wide later within, border_row c course k enter later within r)

-- ---- near a border, with the value r / d there: n times the point there and once a point with the value v / s of the column
-- from below: r is over x * d
risen_least : (x r d v s n : ℕ) → n ≡ x * s → n * ((x * d) + 1) ≤ n * r → x * ((n * d) + s) ≤ (n * r) + v
risen_least x r d v s n e h = omega arith

risen_below : (y r d v s n : ℕ) → n * r ≤ n * (y * d) → v < y * s → (n * r) + v < y * ((n * d) + s)
risen_below y r d v s n h k = omega arith

-- from above: r is below y * d
fallen_least : (x r d v s n : ℕ) → n * (x * d) ≤ n * r → x * s ≤ v → x * ((n * d) + s) ≤ (n * r) + v
fallen_least x r d v s n h k = omega arith

fallen_below : (y r d v s n : ℕ) → n ≡ v + 1 → n * (r + 1) ≤ n * (y * d) → (n * r) + v < y * ((n * d) + s)
fallen_below y r d v s n e h = omega arith

-- the value of the column's point, by that at the border
under_border : (r v d s y : ℕ) → v * d < r * s → r ≤ y * d → v < y * s
under_border r v d s y h k = let p = grown s r (y * d) k in below_of_grown d v (y * s) (omega (arith, h, p))

over_border : (r v d s x : ℕ) → 0 < d → r * s ≤ v * d → x * d ≤ r → x * s ≤ v
over_border r v d s x hd h k = let p = grown s (x * d) r k in at_most_of_grown d (x * s) v hd (omega (arith, h, p))

-- the sum as `mixed` writes it
module _ (from to i j i' j' n x : ℕ) where
  written_least : x * ((n * (i + j)) + (i' + j')) ≤ (n * ((i * from) + (j * to))) + ((i' * from) + (j' * to))
      → x * (((n * i) + (1 * i')) + ((n * j) + (1 * j'))) ≤ (((n * i) + (1 * i')) * from) + (((n * j) + (1 * j')) * to)
  written_least h = omega arith

  written_below : (n * ((i * from) + (j * to))) + ((i' * from) + (j' * to)) < x * ((n * (i + j)) + (i' + j'))
      → (((n * i) + (1 * i')) * from) + (((n * j) + (1 * j')) * to) < x * (((n * i) + (1 * i')) + ((n * j) + (1 * j')))
  written_below h = omega arith

-- in a column before the last: the border, its weights, and some point of the column
module _ (c : Course) (course : IsCourse c) (k leave : ℕ) (first : first_column c ≤ k) (last : k < last_column c) where
  abbrev x : ℕ
  x = (k + 1) * c.width

  abbrev i : ℕ
  i = c.to_u - x

  abbrev j : ℕ
  j = x - c.from_u

  in_it : (c.from_u < x) × (x ≤ c.to_u)
  in_it = right_within c course k first last

  wide : c.from_u < c.to_u
  wide = through c.from_u x c.to_u in_it.0 in_it.1

  whole : i + j ≡ c.to_u - c.from_u
  whole = gaps_are c.from_u c.to_u x (weak _ _ in_it.0) in_it.1

  some : 0 < i + j
  some = subst (λ (n : ℕ). 0 < n) (sym whole) (gap c.from_u c.to_u wide)
    where
      gap : (a b : ℕ) → a < b → 0 < b - a
      gap a b h = omega arith

  up : c.to_u ≡ x + i
  up = let h = in_it.1 in omega arith

  down : x ≡ c.from_u + j
  down = let h = in_it.0 in omega arith

  -- a sum with the border's point is in the column
  beside : (i' j' n : ℕ) → IsSumIn c.from_u c.to_u c.width k i' j' → IsSumIn c.from_u c.to_u c.width k ((n * i) + (1 * i')) ((n * j) + (1 * j'))
  beside i' j' n u =
      let value = border_value c.from_u c.to_u x (weak _ _ in_it.0) in_it.1 in
      mixed c.from_u c.to_u c.width k i j i' j' n 1 (omega arith) (reached k c.width _ (i + j) value) (no_more _ _ value) u
    where
      reached : (k size v s : ℕ) → v ≡ ((k + 1) * size) * s → (k * size) * s ≤ v
      reached k size v s e = omega arith

      no_more : (v z : ℕ) → v ≡ z → v ≤ z
      no_more v z e = omega arith

  rising_leave_met : c.from_v < c.to_v → leave ≡ (rise_at c (k + 1) - 1) / step_of c → (i' j' : ℕ) → IsSumIn c.from_u c.to_u c.width k i' j' → Meets c k leave
  rising_leave_met rising e i' j' u =
      let r = rise_at c (k + 1) in
      let v = (i' * c.from_v) + (j' * c.to_v) in
      let n = (leave * c.height) * (i' + j') in
      let step = step_positive c course wide in
      let over = raised (leave * step_of c) r (rise_positive c course (k + 1) (omega arith) (omega arith) rising)
      (under_quotient (r - 1) (step_of c) leave step (omega (arith, e))) in
      let under = lowered r ((leave + 1) * step_of c) (over_quotient (r - 1) (step_of c) (leave + 1) step (omega (arith, e))) in
      let x_over : (leave * c.height) * (i + j) < r = subst (λ (m : ℕ). m < r) (sym (as_steps leave c.height (i + j) _ whole)) over in
      let y_under : r ≤ ((leave + 1) * c.height) * (i + j) = subst (λ (m : ℕ). r ≤ m) (sym (as_steps (leave + 1) c.height (i + j) _ whole)) under in
      let lower = strictly_lower c.from_u c.from_v c.to_u c.to_v i' j' x i j (before c.from_u c.from_v c.to_u c.to_v i' j' x i j up down u.below) rising in (
        (n * i) + (1 * i'),
        (n * j) + (1 * j'),
        beside i' j' n u,
        record {
          some = mixed_some i j i' j' n 1 (omega arith) u.some;
          least = written_least c.from_v c.to_v i j i' j' n (leave * c.height)
              (risen_least (leave * c.height) r (i + j) v (i' + j') n refl (grown n _ r (one_more _ r x_over)));
          below = written_below c.from_v c.to_v i j i' j' n ((leave + 1) * c.height)
              (risen_below ((leave + 1) * c.height) r (i + j) v (i' + j') n (grown n r _ y_under) (under_border r v (i + j) (i' + j') ((leave + 1) * c.height) lower y_under));
        },
      )
    where
      raised : (a b : ℕ) → 0 < b → a ≤ b - 1 → a < b
      raised a b p h = omega arith

      lowered : (a b : ℕ) → a - 1 < b → a ≤ b
      lowered a b h = omega arith

      one_more : (a b : ℕ) → a < b → a + 1 ≤ b
      one_more a b h = omega arith

  falling_leave_met : c.to_v ≤ c.from_v → leave ≡ rise_at c (k + 1) / step_of c → (i' j' : ℕ) → IsSumIn c.from_u c.to_u c.width k i' j' → Meets c k leave
  falling_leave_met falling e i' j' u =
      let r = rise_at c (k + 1) in
      let v = (i' * c.from_v) + (j' * c.to_v) in
      let n = v + 1 in
      let step = step_positive c course wide in
      let over = under_quotient r (step_of c) leave step (omega (arith, e)) in
      let under = over_quotient r (step_of c) (leave + 1) step (omega (arith, e)) in
      let x_over : (leave * c.height) * (i + j) ≤ r = subst (λ (m : ℕ). m ≤ r) (sym (as_steps leave c.height (i + j) _ whole)) over in
      let y_under : r < ((leave + 1) * c.height) * (i + j) = subst (λ (m : ℕ). r < m) (sym (as_steps (leave + 1) c.height (i + j) _ whole)) under in
      let higher = not_fallen c.from_u c.from_v c.to_u c.to_v i' j' x i j
      (at_or_before c.from_u c.from_v c.to_u c.to_v i' j' x i j up down (weak _ _ u.below)) falling in (
        (n * i) + (1 * i'),
        (n * j) + (1 * j'),
        beside i' j' n u,
        record {
          some = mixed_some i j i' j' n 1 (omega arith) u.some;
          least = written_least c.from_v c.to_v i j i' j' n (leave * c.height)
              (fallen_least (leave * c.height) r (i + j) v (i' + j') n (grown n _ r x_over) (over_border r v (i + j) (i' + j') (leave * c.height) some higher x_over));
          below = written_below c.from_v c.to_v i j i' j' n ((leave + 1) * c.height)
              (fallen_below ((leave + 1) * c.height) r (i + j) v (i' + j') n refl (grown n _ _ (one_more r _ y_under)));
        },
      )
    where
      one_more : (a b : ℕ) → a < b → a + 1 ≤ b
      one_more a b h = omega arith

pub leave_met : (c : Course) → IsCourse c → (k leave : ℕ) → first_column c ≤ k → k ≤ last_column c → IsLeaveRow c k leave → Meets c k leave
leave_met c course k leave first last (inl (e, r)) =
    (0, 1, at_second c.from_u c.to_u c.width k course.wide e, at_second c.from_v c.to_v c.height leave course.high r)
leave_met c course k leave first last (inr (inl (earlier, rising, r))) =
    let p = some_sum c.from_u c.to_u c.width k course.wide first last in
    rising_leave_met c course k leave first earlier rising r p.0 p.1 p.2
leave_met c course k leave first last (inr (inr (earlier, falling, r))) =
    let p = some_sum c.from_u c.to_u c.width k course.wide first last in
    falling_leave_met c course k leave first earlier falling r p.0 p.1 p.2

-- ---- all rows of a column
pub rows_exact : (c : Course) → IsCourse c → (k low high : ℕ) → first_column c ≤ k → k ≤ last_column c → AreRows c k low high
    → (row : ℕ) → Meets c k row ↔ ((low ≤ row) × (row ≤ high))
rows_exact c course k low high first last rows row = (met, within rows.in_order)
  where
    met : Meets c k row → (low ≤ row) × (row ≤ high)
    met meets = within_order rows.enter rows.leave low high row rows.in_order (by (cases_lt c.from_v c.to_v))
      where
        by : (c.from_v < c.to_v) ⊎ (c.to_v ≤ c.from_v)
            → ((rows.enter ≤ row) × (row ≤ rows.leave)) ⊎ ((rows.leave ≤ row) × (row ≤ rows.enter))
        by (inl rising) =
            inl (rising_enter c course k row rows.enter (weak _ _ rising) rows.is_enter meets, rising_leave c course k row rows.leave (weak _ _ rising) rows.is_leave meets)
        by (inr falling) =
            inr (falling_leave c course k row rows.leave falling rows.is_leave meets, falling_enter c course k row rows.enter falling rows.is_enter meets)

    within : AreInOrder rows.enter rows.leave low high → (low ≤ row) × (row ≤ high) → Meets c k row
    within order (after, before) = by order
      where
        comes : Meets c k rows.enter
        comes = enter_met c course k rows.enter last rows.is_enter

        goes : Meets c k rows.leave
        goes = leave_met c course k rows.leave first last rows.is_leave

        by : AreInOrder rows.enter rows.leave low high → Meets c k row
        by (inl (h, l, g)) = rows_between c course k rows.enter rows.leave row comes goes (omega arith) (omega arith)
        by (inr (h, l, g)) = rows_between c course k rows.leave rows.enter row goes comes (omega arith) (omega arith)
