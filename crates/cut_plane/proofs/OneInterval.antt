-- What is within no interval, and within one.
use Rattle.std.proofs.Common.{zero, suc, [], ◌∷◌, All, Contains, refl, sym, subst, arith}
use Rattle.std.specs.Prelude.{◌↔◌, ℤ}
use Rattle.exact_frac.specs.declared.Frac.{Frac}
use Rattle.intervals.specs.declared.interval.Interval.{Interval}
use Rattle.geometry.specs.Places.{IsBetween}
use Rattle.cut_plane.specs.Beyond.{IsWithinAny}

pub within_none : (n m : ℤ) → ¬ IsWithinAny [] n m
within_none n m (x, (k, h, is), between) = omega arith

pub all_one : (P : Interval Frac → Type 0) (x : Interval Frac) → P x → All P (x ∷ [])
all_one P x h zero y within = h
all_one P x h (suc k) y within = absurd (omega arith)

pub within_one : (x : Interval Frac) (n m : ℤ) → IsBetween x.from x.to n m ↔ IsWithinAny (x ∷ []) n m
within_one x n m = (
  (λ h. (x, (0, omega arith, refl), h)),
  (λ (y, listed, h). only y listed h),
)
  where
    only : (y : Interval Frac) → Contains (x ∷ []) y → IsBetween y.from y.to n m → IsBetween x.from x.to n m
    only y (zero, h, is) between = subst (λ (z : Interval Frac). IsBetween z.from z.to n m) (sym is) between
    only y (suc k, h, is) between = absurd (omega arith)
