-- Weighted sums of two numbers, and the steps in which they are: the columns and the rows that an edge meets.
use Rattle.std.proofs.Common.{◌≡◌, ◌↔◌, ◌⊎◌, inl, inr, ℕ, ◌+◌, ◌-◌, ◌*◌, ◌/◌, ◌≤◌, ◌<◌, ap, arith}
use Rattle.std.proofs.lemmas.Bool.{cases_lt}
use Rattle.out_grid.specs.inner.Courses.{Course, IsCourse, IsSumIn, MeetsColumn, MeetsRow, first_column, last_column, AreInOrder, AreRowsOfAll}
use Rattle.out_grid.proofs.CourseNumbers.{grown, positive, below_of_grown, at_most_of_grown, quotient_below, quotient_least, under_quotient, over_quotient}

-- ---- a sum is between the two
first_below : (from to i j x : ℕ) → j * from ≤ j * to → (i * from) + (j * to) < x * (i + j) → (i + j) * from < (i + j) * x
first_below from to i j x g b = omega arith

second_above : (from to i j x : ℕ) → i * from ≤ i * to → x * (i + j) ≤ (i * from) + (j * to) → (i + j) * x ≤ (i + j) * to
second_above from to i j x g b = omega arith

pub sum_from : (from to size k i j : ℕ) → 0 < size → from ≤ to → IsSumIn from to size k i j → from / size ≤ k
sum_from from to size k i j wide ordered sum =
    quotient_below from size k wide
    (below_of_grown (i + j) from ((k + 1) * size) (first_below from to i j ((k + 1) * size) (grown j from to ordered) sum.below))

pub sum_to : (from to size k i j : ℕ) → 0 < size → from ≤ to → IsSumIn from to size k i j → k ≤ to / size
sum_to from to size k i j wide ordered sum =
    quotient_least to size k wide
    (at_most_of_grown (i + j) (k * size) to sum.some (second_above from to i j (k * size) (grown i from to ordered) sum.least))

-- ---- at an end
first_least : (q size from to : ℕ) → q * size ≤ from → (q * size) * (1 + 0) ≤ (1 * from) + (0 * to)
first_least q size from to h = omega arith

first_under : (x from to : ℕ) → from < x → (1 * from) + (0 * to) < x * (1 + 0)
first_under x from to h = omega arith

pub at_first : (from to size k : ℕ) → 0 < size → k ≡ from / size → IsSumIn from to size k 1 0
at_first from to size k wide e = record {
  some = omega arith;
  least = first_least k size from to (under_quotient from size k wide (omega arith));
  below = first_under ((k + 1) * size) from to (over_quotient from size (k + 1) wide (omega arith));
}

pub turned : (from to size k i j : ℕ) → IsSumIn from to size k i j → IsSumIn to from size k j i
turned from to size k i j sum = record {
  some = let h = sum.some in omega arith;
  least = turned_least i j from to (k * size) sum.least;
  below = turned_below i j from to ((k + 1) * size) sum.below;
}
  where
    turned_least : (i j from to x : ℕ) → x * (i + j) ≤ (i * from) + (j * to) → x * (j + i) ≤ (j * to) + (i * from)
    turned_least i j from to x h = omega arith

    turned_below : (i j from to x : ℕ) → (i * from) + (j * to) < x * (i + j) → (j * to) + (i * from) < x * (j + i)
    turned_below i j from to x h = omega arith

pub at_second : (from to size k : ℕ) → 0 < size → k ≡ to / size → IsSumIn from to size k 0 1
at_second from to size k wide e = turned to from size k 1 0 (at_first to from size k wide e)

-- ---- at the border of a step: the gaps to the two ends, exchanged, are its weights
weighed : (from to x i j : ℕ) → to ≡ i + x → x ≡ from + j → (i * from) + (j * to) ≡ x * (i + j)
weighed from to x i j e f = omega (arith, ap (λ (n : ℕ). j * n) e, ap (λ (n : ℕ). i * n) f)

pub border_value : (from to x : ℕ) → from ≤ x → x ≤ to → ((to - x) * from) + ((x - from) * to) ≡ x * ((to - x) + (x - from))
border_value from to x h k = weighed from to x (to - x) (x - from) (omega arith) (omega arith)

pub gaps_are : (from to x : ℕ) → from ≤ x → x ≤ to → (to - x) + (x - from) ≡ to - from
gaps_are from to x h k = omega arith

-- a sum that is just at the lower border of a step
pub at_border : (from to size k i j : ℕ) → 0 < size → 0 < i + j → (i * from) + (j * to) ≡ (k * size) * (i + j) → IsSumIn from to size k i j
at_border from to size k i j wide some e = record {
  some = some;
  least = omega arith;
  below = under i j size k ((i * from) + (j * to)) e (positive size (i + j) wide some);
}
  where
    under : (i j size k v : ℕ) → v ≡ (k * size) * (i + j) → 0 < size * (i + j) → v < ((k + 1) * size) * (i + j)
    under i j size k v e p = omega arith

pub border_within : (from to size k : ℕ) → 0 < size → from / size < k → k ≤ to / size → (from < k * size) × (k * size ≤ to)
border_within from to size k wide after before = (over_quotient from size k wide after, under_quotient to size k wide before)

pub border_sum : (from to size k : ℕ) → 0 < size → from / size < k → k ≤ to / size → IsSumIn from to size k (to - (k * size)) ((k * size) - from)
border_sum from to size k wide after before =
    let within = border_within from to size k wide after before in
    at_border from to size k (to - (k * size)) ((k * size) - from) wide (some (k * size) within.0 within.1)
    (border_value from to (k * size) (omega arith) within.1)
  where
    some : (x : ℕ) → from < x → x ≤ to → 0 < (to - x) + (x - from)
    some x h k = omega arith

-- each step between those of the two has one
pub some_sum : (from to size k : ℕ) → 0 < size → from / size ≤ k → k ≤ to / size → (i : ℕ) × (j : ℕ) × IsSumIn from to size k i j
some_sum from to size k wide after before = by (cases_lt (from / size) k)
  where
    by : (from / size < k) ⊎ (k ≤ from / size) → (i : ℕ) × (j : ℕ) × IsSumIn from to size k i j
    by (inl later) = (to - (k * size), (k * size) - from, border_sum from to size k wide later before)
    by (inr none_later) = (1, 0, at_first from to size k wide (omega arith))

-- ---- columns and rows
pub columns_exact : (c : Course) → IsCourse c → (k : ℕ) → MeetsColumn c k ↔ ((first_column c ≤ k) × (k ≤ last_column c))
columns_exact c course k = (met, within)
  where
    met : MeetsColumn c k → (first_column c ≤ k) × (k ≤ last_column c)
    met (i, j, sum) =
        (sum_from c.from_u c.to_u c.width k i j course.wide course.ordered sum, sum_to c.from_u c.to_u c.width k i j course.wide course.ordered sum)

    within : (first_column c ≤ k) × (k ≤ last_column c) → MeetsColumn c k
    within (after, before) = some_sum c.from_u c.to_u c.width k course.wide after before

-- where it rises its rows are from that of its first end to that of its second, and where it falls the other way around
pub rising_rows : (c : Course) → IsCourse c → c.from_v ≤ c.to_v → (row : ℕ) → MeetsRow c row → (c.from_v / c.height ≤ row) × (row ≤ c.to_v / c.height)
rising_rows c course rising row (i, j, sum) =
    (sum_from c.from_v c.to_v c.height row i j course.high rising sum, sum_to c.from_v c.to_v c.height row i j course.high rising sum)

pub falling_rows : (c : Course) → IsCourse c → c.to_v ≤ c.from_v → (row : ℕ) → MeetsRow c row → (c.to_v / c.height ≤ row) × (row ≤ c.from_v / c.height)
falling_rows c course falling row (i, j, sum) =
    let back = turned c.from_v c.to_v c.height row i j sum in
    (sum_from c.to_v c.from_v c.height row j i course.high falling back, sum_to c.to_v c.from_v c.height row j i course.high falling back)

-- between a and b, in either order
pub within_order : (a b low high row : ℕ) → AreInOrder a b low high → ((a ≤ row) × (row ≤ b)) ⊎ ((b ≤ row) × (row ≤ a)) → (low ≤ row) × (row ≤ high)
within_order a b low high row (inl (h, l, g)) (inl (x, y)) = (omega arith, omega arith)
within_order a b low high row (inl (h, l, g)) (inr (x, y)) = (omega arith, omega arith)
within_order a b low high row (inr (h, l, g)) (inl (x, y)) = (omega arith, omega arith)
within_order a b low high row (inr (h, l, g)) (inr (x, y)) = (omega arith, omega arith)

pub course_rows : (c : Course) → IsCourse c → (low high : ℕ) → AreRowsOfAll c low high → (row : ℕ) → MeetsRow c row ↔ ((low ≤ row) × (row ≤ high))
course_rows c course low high order row = (met, within order)
  where
    met : MeetsRow c row → (low ≤ row) × (row ≤ high)
    met meets = within_order (c.from_v / c.height) (c.to_v / c.height) low high row order (by (cases_lt c.from_v c.to_v))
      where
        by : (c.from_v < c.to_v) ⊎ (c.to_v ≤ c.from_v)
            → ((c.from_v / c.height ≤ row) × (row ≤ c.to_v / c.height)) ⊎ ((c.to_v / c.height ≤ row) × (row ≤ c.from_v / c.height))
        by (inl rising) = inl (rising_rows c course (omega arith) row meets)
        by (inr falling) = inr (falling_rows c course falling row meets)

    within : AreRowsOfAll c low high → (low ≤ row) × (row ≤ high) → MeetsRow c row
    within (inl (h, l, g)) (after, before) = some_sum c.from_v c.to_v c.height row course.high (omega arith) (omega arith)
    within (inr (h, l, g)) (after, before) =
        let back = some_sum c.to_v c.from_v c.height row course.high (omega arith) (omega arith) in
        (back.1, back.0, turned c.to_v c.from_v c.height row back.0 back.1 back.2)
