-- The values that a list may have.
use Rattle.std.specs.Prelude.{ℕ, ℤ, pos, neg_ℤ, ◌≤ℤ◌, ◌<ℤ◌, ◌<◌, ◌≤◌, ◌^◌, unsigned_abs}
use Rattle.exact_frac.specs.declared.Frac.{Frac}
use Rattle.exact_frac.specs.Frac.{IsLowest}
use Rattle.sheet_plan.specs.declared.sheet.Mark.{Mark}

-- the number of a view that is not below this one
pub record IsView (least view : ℕ) : Type 0 where
  pub from : least ≤ view
  pub size : view < 2 ^ 32

-- any mark
abbrev pub IsAny : Mark → Type 0
IsAny mark = Unit {0}

-- in the range of an `i64`
pub record IsInRange (z : ℤ) : Type 0 where
  pub least : neg_ℤ (pos (2 ^ 63)) ≤ℤ z
  pub most : z <ℤ pos (2 ^ 63)

-- the numbers of a fraction are small
pub record IsSmall (f : Frac) : Type 0 where
  pub num : unsigned_abs f.num < 2 ^ 104
  pub den : unsigned_abs f.den < 2 ^ 70

-- a fraction that a list may have
pub record IsListedFrac (f : Frac) : Type 0 where
  pub small : IsSmall f
  pub lowest : IsLowest f
