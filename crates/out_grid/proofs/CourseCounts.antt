-- How many cells an edge passes: column by column at most its rows there, and in all no more than its columns and rows less one.
use Rattle.std.proofs.Common.{◌≡◌, ◌⊎◌, inl, inr, ℕ, ◌+◌, ◌-◌, ◌*◌, ◌/◌, ◌≤◌, ◌<◌, arith}
use Rattle.std.proofs.lemmas.Bool.{cases_lt}
use Rattle.out_grid.specs.inner.Courses.{Course, IsCourse, Meets, first_column, last_column, rise_at, step_of, IsEnterRow, IsLeaveRow, AreInOrder, AreRows, span_of, AreBefore}
use Rattle.out_grid.proofs.CourseCells.{enter_met, leave_met}
use Rattle.out_grid.proofs.CourseMixes.{in_row}
use Rattle.out_grid.proofs.CourseNumbers.{under_quotient, quotient_least}
use Rattle.out_grid.proofs.CourseRows.{weak, through, step_positive, right_within, rising_leave, falling_leave}
use Rattle.out_grid.proofs.CourseSums.{rising_rows, falling_rows}

pub in_order : (a b low high : ℕ) → AreInOrder a b low high → low ≤ high
in_order a b low high (inl (h, l, g)) = omega arith
in_order a b low high (inr (h, l, g)) = omega arith

pub low_below_high : (c : Course) (k low high : ℕ) → AreRows c k low high → low ≤ high
low_below_high c k low high rows = in_order rows.enter rows.leave low high rows.in_order

pub none_before : (c : Course) → AreBefore c (first_column c) 0
none_before c row enter = omega arith

-- ---- the rows where it begins, comes into a column, leaves it and is next, which go one way
abbrev AreMonotone : ℕ → ℕ → ℕ → ℕ → Type 0
AreMonotone a b d e = ((a ≤ b) × (b ≤ d) × (d ≤ e)) ⊎ ((e ≤ d) × (d ≤ b) × (b ≤ a))

added : (n m a b d e low high : ℕ) → n ≤ m + ((a - b) + (b - a)) → AreInOrder b d low high → AreMonotone a b d e
    → n + ((high - low) + 1) ≤ (m + 1) + ((a - e) + (e - a))
added n m a b d e low high h (inl (g, l, k)) (inl (x, y, z)) = omega arith
added n m a b d e low high h (inl (g, l, k)) (inr (x, y, z)) = omega arith
added n m a b d e low high h (inr (g, l, k)) (inl (x, y, z)) = omega arith
added n m a b d e low high h (inr (g, l, k)) (inr (x, y, z)) = omega arith

quotients_ordered : (n m d : ℕ) → 0 < d → n ≤ m → n / d ≤ m / d
quotients_ordered n m d some h = let p = under_quotient n d (n / d) some (itself (n / d)) in quotient_least m d (n / d) some (omega (arith, p, h))
  where
    itself : (q : ℕ) → q ≤ q
    itself q = omega arith

one_less : (a : ℕ) → a - 1 ≤ a
one_less a = omega arith

module _ (c : Course) (course : IsCourse c) (k enter leave : ℕ) (first : first_column c ≤ k) (last : k ≤ last_column c)
    (is_enter : IsEnterRow c k enter) (is_leave : IsLeaveRow c k leave) where
  comes : Meets c k enter
  comes = enter_met c course k enter last is_enter

  goes : Meets c k leave
  goes = leave_met c course k leave first last is_leave

  -- up to the next row, in which the edge comes into the next column or ends
  going : (next : ℕ) → (c.from_v ≤ c.to_v → leave ≤ next) → (c.to_v ≤ c.from_v → next ≤ leave) → AreMonotone (c.from_v / c.height) enter leave next
  going next up down = by (cases_lt c.from_v c.to_v)
    where
      by : (c.from_v < c.to_v) ⊎ (c.to_v ≤ c.from_v) → AreMonotone (c.from_v / c.height) enter leave next
      by (inl rising) =
          inl ((rising_rows c course (weak _ _ rising) enter (in_row c k enter comes)).0, rising_leave c course k enter leave (weak _ _ rising) is_leave comes, up (weak _ _ rising))
      by (inr falling) =
          inr (down falling, falling_leave c course k enter leave falling is_leave comes, (falling_rows c course falling enter (in_row c k enter comes)).1)

  to_next : (next : ℕ) → k < last_column c → next ≡ rise_at c (k + 1) / step_of c → AreMonotone (c.from_v / c.height) enter leave next
  to_next next earlier e = going next (λ rising. up is_leave) (λ falling. down falling is_leave)
    where
      up : IsLeaveRow c k leave → leave ≤ next
      up (inl (same, r)) = absurd (omega (arith, same, earlier))
      up (inr (inl (h, rising, r))) =
          let in_it = right_within c course k first earlier in
          let wide = through c.from_u ((k + 1) * c.width) c.to_u in_it.0 in_it.1 in
          let p = quotients_ordered (rise_at c (k + 1) - 1) (rise_at c (k + 1)) (step_of c) (step_positive c course wide) (one_less (rise_at c (k + 1))) in
          omega (arith, r, e, p)
      up (inr (inr (h, falling, r))) = omega (arith, r, e)

      down : c.to_v ≤ c.from_v → IsLeaveRow c k leave → next ≤ leave
      down level (inl (same, r)) = absurd (omega (arith, same, earlier))
      down level (inr (inl (h, rising, r))) = absurd (omega (arith, level, rising))
      down level (inr (inr (h, falling, r))) = omega (arith, r, e)

  to_end : AreMonotone (c.from_v / c.height) enter leave (c.to_v / c.height)
  to_end = going (c.to_v / c.height) (λ rising. (rising_rows c course rising leave (in_row c k leave goes)).1) (λ falling. (falling_rows c course falling leave (in_row c k leave goes)).0)

-- ---- cells before a column
pub few_before : (c : Course) → IsCourse c → (k low high n : ℕ) → first_column c ≤ k → k < last_column c → AreRows c k low high
    → AreBefore c k n → AreBefore c (k + 1) (n + ((high - low) + 1))
few_before c course k low high n first earlier rows before next (inl (same, r)) = absurd (omega (arith, same, first))
few_before c course k low high n first earlier rows before next (inr (later, r)) =
    further (first_column c) k n _ _
    (added n (k - first_column c) (c.from_v / c.height) rows.enter rows.leave next low high (before rows.enter rows.is_enter) rows.in_order
    (to_next c course k rows.enter rows.leave first (weak _ _ earlier) rows.is_enter rows.is_leave next earlier r))
    first
  where
    further : (first k n m a : ℕ) → n + m ≤ ((k - first) + 1) + a → first ≤ k → n + m ≤ ((k + 1) - first) + a
    further first k n m a h g = omega arith

pub few_in_all : (c : Course) → IsCourse c → (k low high n : ℕ) → first_column c ≤ k → k ≤ last_column c → AreRows c k low high
    → AreBefore c k n → n + ((high - low) + 1) ≤ span_of c
few_in_all c course k low high n first last rows before =
    further (first_column c) k (last_column c) _ _
    (added n (k - first_column c) (c.from_v / c.height) rows.enter rows.leave (c.to_v / c.height) low high (before rows.enter rows.is_enter) rows.in_order
    (to_end c course k rows.enter rows.leave first last rows.is_enter rows.is_leave))
    first last
  where
    further : (first k last m a : ℕ) → m ≤ ((k - first) + 1) + a → first ≤ k → k ≤ last → m ≤ ((last - first) + a) + 1
    further first k last m a h g l = omega arith
