-- Sums of two points of an edge: they stay in a column that holds both, and come into each row between theirs.
use Rattle.std.proofs.Common.{◌≡◌, ◌⊎◌, inl, inr, ℕ, ◌+◌, ◌-◌, ◌*◌, ◌≤◌, ◌<◌, subst, ap, arith}
use Rattle.std.proofs.lemmas.Bool.{cases_lt}
use Rattle.out_grid.specs.inner.Courses.{Course, IsCourse, IsSumIn, Meets, MeetsRow}
use Rattle.out_grid.proofs.CourseNumbers.{grown, grown_strictly, positive}
use Rattle.out_grid.proofs.CourseSums.{at_border}

-- ---- a times the one and b times the other
mixed_least : (from to i j i' j' a b y : ℕ)
    → a * (y * (i + j)) ≤ a * ((i * from) + (j * to)) → b * (y * (i' + j')) ≤ b * ((i' * from) + (j' * to))
    → y * (((a * i) + (b * i')) + ((a * j) + (b * j'))) ≤ (((a * i) + (b * i')) * from) + (((a * j) + (b * j')) * to)
mixed_least from to i j i' j' a b y h k = omega arith

mixed_below : (from to i j i' j' a b y : ℕ)
    → a * ((i * from) + (j * to)) ≤ a * (y * (i + j)) → b * ((i' * from) + (j' * to)) < b * (y * (i' + j'))
    → (((a * i) + (b * i')) * from) + (((a * j) + (b * j')) * to) < y * (((a * i) + (b * i')) + ((a * j) + (b * j')))
mixed_below from to i j i' j' a b y h k = omega arith

pub mixed_some : (i j i' j' a b : ℕ) → 0 < b → 0 < i' + j' → 0 < ((a * i) + (b * i')) + ((a * j) + (b * j'))
mixed_some i j i' j' a b hb h = let p = positive b (i' + j') hb h in omega (arith, p)

-- the first may be at the upper border, which the step does not hold
pub mixed : (from to size k i j i' j' a b : ℕ) → 0 < b
    → (k * size) * (i + j) ≤ (i * from) + (j * to) → (i * from) + (j * to) ≤ ((k + 1) * size) * (i + j)
    → IsSumIn from to size k i' j' → IsSumIn from to size k ((a * i) + (b * i')) ((a * j) + (b * j'))
mixed from to size k i j i' j' a b hb least most sum = record {
  some = mixed_some i j i' j' a b hb sum.some;
  least = mixed_least from to i j i' j' a b (k * size) (grown a _ _ least) (grown b _ _ sum.least);
  below = mixed_below from to i j i' j' a b ((k + 1) * size) (grown a _ _ most) (grown_strictly b _ _ hb sum.below);
}

-- ---- a point at the lower border of a row between those of two points
mixed_value : (from to i j i' j' a b y : ℕ)
    → (i' * from) + (j' * to) ≡ a + (y * (i' + j')) → y * (i + j) ≡ ((i * from) + (j * to)) + b
    → (((a * i) + (b * i')) * from) + (((a * j) + (b * j')) * to) ≡ y * (((a * i) + (b * i')) + ((a * j) + (b * j')))
mixed_value from to i j i' j' a b y e f = omega (arith, ap (λ (n : ℕ). b * n) e, ap (λ (n : ℕ). a * n) f)

up_to : (size k row s : ℕ) → k ≤ row → (k * size) * s ≤ (row * size) * s
up_to size k row s h = let p = grown (size * s) k row h in omega (arith, p)

pub rows_between : (c : Course) → IsCourse c → (k first second row : ℕ) → Meets c k first → Meets c k second → first ≤ row → row ≤ second → Meets c k row
rows_between c course k first second row (i, j, u, v) (i', j', u', v') after before = by (cases_lt first row)
  where
    by : (first < row) ⊎ (row ≤ first) → Meets c k row
    by (inr same) = let e : first ≡ row = omega arith in subst (Meets c k) e (i, j, u, v)
    by (inl later) =
        let y = row * c.height in
        let value = (i * c.from_v) + (j * c.to_v) in
        let value' = (i' * c.from_v) + (j' * c.to_v) in
        let a = value' - (y * (i' + j')) in
        let b = (y * (i + j)) - value in
        let over : y * (i' + j') ≤ value' = at_least (y * (i' + j')) _ value' (up_to c.height row second (i' + j') before) v'.least in
        let under : value < y * (i + j) = below value _ (y * (i + j)) v.below (up_to c.height (first + 1) row (i + j) (omega arith)) in
        let some : 0 < b = gap value (y * (i + j)) under in (
          ((a * i) + (b * i')),
          ((a * j) + (b * j')),
          mixed c.from_u c.to_u c.width k i j i' j' a b some u.least (weak _ _ u.below) u',
          at_border c.from_v c.to_v c.height row ((a * i) + (b * i')) ((a * j) + (b * j')) course.high (mixed_some i j i' j' a b some u'.some)
              (mixed_value c.from_v c.to_v i j i' j' a b y (regained value' (y * (i' + j')) over) (filled value (y * (i + j)) under)),
        )
      where
        at_least : (x z w : ℕ) → x ≤ z → z ≤ w → x ≤ w
        at_least x z w h g = omega arith

        below : (x z w : ℕ) → x < z → z ≤ w → x < w
        below x z w h g = omega arith

        gap : (x z : ℕ) → x < z → 0 < z - x
        gap x z h = omega arith

        weak : (x z : ℕ) → x < z → x ≤ z
        weak x z h = omega arith

        regained : (x z : ℕ) → z ≤ x → x ≡ (x - z) + z
        regained x z h = omega arith

        filled : (x z : ℕ) → x < z → z ≡ x + (z - x)
        filled x z h = omega arith

-- what it meets in a column it meets
pub in_row : (c : Course) (k row : ℕ) → Meets c k row → MeetsRow c row
in_row c k row (i, j, u, v) = (i, j, v)
