-- An edge against the border of a column: beyond it the edge is as high as there or higher where it rises, and lower where it falls.
use Rattle.std.proofs.Common.{◌≡◌, ℕ, ◌+◌, ◌*◌, ◌≤◌, ◌<◌, ap, arith}
use Rattle.out_grid.proofs.CourseNumbers.{grown, grown_strictly, below_of_grown, at_most_of_grown, rearranged, rearranged_strictly}

-- from u, v to u', v': its point with the weights i, j, and the value x of U, with a up to the second end and b down to the first
module _ (u v u' v' i j x a b : ℕ) where
  pub at_or_after : u' ≡ x + a → x ≡ u + b → x * (i + j) ≤ (i * u) + (j * u') → b * i ≤ a * j
  at_or_after e f h = omega (arith, ap (λ (n : ℕ). j * n) e, ap (λ (n : ℕ). i * n) f)

  pub at_or_before : u' ≡ x + a → x ≡ u + b → (i * u) + (j * u') ≤ x * (i + j) → a * j ≤ b * i
  at_or_before e f h = omega (arith, ap (λ (n : ℕ). j * n) e, ap (λ (n : ℕ). i * n) f)

  pub before : u' ≡ x + a → x ≡ u + b → (i * u) + (j * u') < x * (i + j) → a * j < b * i
  before e f h = omega (arith, ap (λ (n : ℕ). j * n) e, ap (λ (n : ℕ). i * n) f)

  -- the height at x, times a + b, against that of the point, times i + j
  pub higher : b * i ≤ a * j → v ≤ v' → ((a * v) + (b * v')) * (i + j) ≤ ((i * v) + (j * v')) * (a + b)
  higher h k = let r = rearranged (b * i) (a * j) v v' h k in omega (arith, r)

  pub lower : a * j ≤ b * i → v ≤ v' → ((i * v) + (j * v')) * (a + b) ≤ ((a * v) + (b * v')) * (i + j)
  lower h k = let r = rearranged (a * j) (b * i) v v' h k in omega (arith, r)

  pub strictly_lower : a * j < b * i → v < v' → ((i * v) + (j * v')) * (a + b) < ((a * v) + (b * v')) * (i + j)
  strictly_lower h k = let r = rearranged_strictly (a * j) (b * i) v v' h k in omega (arith, r)

  pub fallen : b * i ≤ a * j → v' ≤ v → ((i * v) + (j * v')) * (a + b) ≤ ((a * v) + (b * v')) * (i + j)
  fallen h k = let r = rearranged (b * i) (a * j) v' v h k in omega (arith, r)

  pub not_fallen : a * j ≤ b * i → v' ≤ v → ((a * v) + (b * v')) * (i + j) ≤ ((i * v) + (j * v')) * (a + b)
  not_fallen h k = let r = rearranged (a * j) (b * i) v' v h k in omega (arith, r)

-- ---- a bound of the one fraction is one of the other
pub below_by : (r v d s y : ℕ) → 0 < d → r * s ≤ v * d → v < y * s → r < y * d
below_by r v d s y hd h k =
    let p = grown_strictly d v (y * s) hd k in
    below_of_grown s r (y * d) (omega (arith, p, h))

pub at_most_by : (r v d s y : ℕ) → 0 < s → v * d ≤ r * s → y * s ≤ v → y * d ≤ r
at_most_by r v d s y hs h k =
    let p = grown d (y * s) v k in
    at_most_of_grown s (y * d) r hs (omega (arith, p, h))

pub strictly_below_by : (r v d s y : ℕ) → v * d < r * s → y * s ≤ v → y * d < r
strictly_below_by r v d s y h k =
    let p = grown d (y * s) v k in
    below_of_grown s (y * d) r (omega (arith, p, h))
