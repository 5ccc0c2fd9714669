-- Sheet numbers: lengths along the axes of a view, on the sheet, in hundredths of a millimetre.
use Rattle.std.specs.Prelude.{ℕ, ◌+◌, ◌*◌, ◌/◌, ◌^◌, nat_le, ℤ, pos, ◌+ℤ◌, ◌-ℤ◌, ◌*ℤ◌, unsigned_abs, if◌then◌else◌}
use Rattle.std.proofs.Common.{zero, suc}
use Rattle.integers.specs.Floors.{floor_of}
use Rattle.lattice.specs.Points.{Point, across_of, upward_of}
use Rattle.lattice.specs.Triple.{Triple, dot, right_axis, up_axis}
use Rattle.job_file.specs.declared.job.Scale.{Scale}

-- the greatest whole number up to m whose square is at most n
abbrev pub root_up_to : ℕ → ℕ → ℕ
root_up_to n zero = 0
root_up_to n (suc m) = if nat_le (suc m * suc m) n then suc m else root_up_to n m

-- the whole part of the square root of n
unfoldable pub root_of : ℕ → ℕ
root_of n = root_up_to n n

-- 1 / sqrt q in whole parts of 10^-9, cut off: by so much a product with an axis of squared length q is shortened to a length
abbrev pub shortening_of : ℕ → ℕ
shortening_of q = root_of (10 ^ 18 / q)

-- the squared length of an axis
abbrev pub square_of : Triple → ℕ
square_of r = unsigned_abs (dot r r)

-- the whole number nearest to n / d, and of two the greater; d is positive
abbrev pub nearest : ℤ → ℤ → ℤ
nearest n d = floor_of (pos 2 *ℤ n +ℤ d) (pos 2 *ℤ d)

-- what turns units into lengths on the sheet: a scale of num : den, and units of 10^-decimals mm
pub record Measure : Type 0 where
  pub num : ℕ
  pub den : ℕ
  pub decimals : ℕ

abbrev pub measure_of : Scale → ℕ → Measure
measure_of scale decimals = record { num = scale.num; den = scale.den; decimals = decimals }

-- the product n / w with an axis of squared length q, as a length on the sheet
abbrev pub sheet_length : Measure → ℕ → ℤ → ℤ → ℤ
sheet_length m q n w = nearest (pos (100 * m.num * shortening_of q) *ℤ n) (pos (m.den * 10 ^ (9 + m.decimals)) *ℤ w)

-- U and V of a point, on the sheet
abbrev pub sheet_across : Measure → Triple → Point → ℤ
sheet_across m d p = sheet_length m (square_of (right_axis d)) (across_of d p) p.w

abbrev pub sheet_upward : Measure → Triple → Point → ℤ
sheet_upward m d p = sheet_length m (square_of (up_axis d)) (upward_of d p) p.w

-- how far right and how far down the point stands, where the view's origin stands at x0 and y0
abbrev pub sheet_x : Measure → Triple → ℤ → Point → ℤ
sheet_x m d x0 p = x0 +ℤ sheet_across m d p

abbrev pub sheet_y : Measure → Triple → ℤ → Point → ℤ
sheet_y m d y0 p = y0 -ℤ sheet_upward m d p
