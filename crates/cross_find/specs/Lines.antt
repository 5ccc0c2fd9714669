-- Two lines that are seen to cross at the place numerator / denominator of the first, where the second is higher by height_numerator / denominator
use Rattle.std.specs.Prelude.{◌≡◌, ℤ, pos, ◌*ℤ◌, ◌<ℤ◌}
use Rattle.exact_frac.specs.declared.Frac.{Frac}
use Rattle.geometry.specs.Places.{IsPlace}

-- the place is an inner one
pub record IsInner (denominator numerator : ℤ) : Type 0 where
  pub after : pos 0 <ℤ (numerator *ℤ denominator)
  pub before : (numerator *ℤ denominator) <ℤ (denominator *ℤ denominator)

-- the same where denominator is at least 0
pub record IsInnerForward (denominator numerator : ℤ) : Type 0 where
  pub after : pos 0 <ℤ numerator
  pub before : numerator <ℤ denominator

-- the place is an inner one, and the second line is strictly nearer there
pub record PassesBy (denominator numerator height_numerator : ℤ) : Type 0 where
  pub inner : IsInner denominator numerator
  pub nearer : pos 0 <ℤ (height_numerator *ℤ denominator)

-- the place, by a small denominator
pub record IsCrossedBy (denominator numerator : ℤ) (r : Frac) : Type 0 where
  pub at : r.num *ℤ denominator ≡ numerator *ℤ r.den
  pub place : IsPlace r
