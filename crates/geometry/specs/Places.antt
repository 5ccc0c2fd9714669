-- Places of an edge: fractions from 0 to 1.
use Rattle.std.specs.Prelude.{◌≡◌, ℤ, ◌*ℤ◌, ◌<ℤ◌, ◌≤ℤ◌}
use Rattle.exact_frac.specs.declared.Frac.{Frac}
pub use Rattle.lattice.specs.Places.{IsPlace}
use Rattle.lattice.specs.Triple.{Triple}
use Rattle.lattice.specs.Points.{Point}
use Rattle.geometry.specs.Faces.{share_point}
use Rattle.geometry.specs.Parts.{Part, Edge}
use Rattle.geometry.specs.Views.{IsOrdinary}

-- the point of the edge at this place
abbrev pub point_at : {s : Part} → Edge s → Frac → Point
point_at e r = share_point e.a e.b r.num r.den

abbrev pub IsEarlier : Frac → Frac → Type 0
IsEarlier x y = (x.num *ℤ y.den) <ℤ (y.num *ℤ x.den)

-- the very same numbers
abbrev pub IsSame : Frac → Frac → Type 0
IsSame x y = (x.num ≡ y.num) × (x.den ≡ y.den)

-- the value is n / m
abbrev pub IsValue : Frac → ℤ → ℤ → Type 0
IsValue r n m = n *ℤ r.den ≡ r.num *ℤ m

-- n / m is strictly between the two
abbrev pub IsBetween : Frac → Frac → ℤ → ℤ → Type 0
IsBetween from to n m = ((from.num *ℤ m) <ℤ (n *ℤ from.den)) × ((n *ℤ to.den) <ℤ (to.num *ℤ m))

-- or at one of them
abbrev pub IsFromTo : Frac → Frac → ℤ → ℤ → Type 0
IsFromTo from to n m = ((from.num *ℤ m) ≤ℤ (n *ℤ from.den)) × ((n *ℤ to.den) ≤ℤ (to.num *ℤ m))

-- O holds at neither end
abbrev pub HasNoEndAt : (Point → Type 0) → {s : Part} → Edge s → Frac → Frac → Type 0
HasNoEndAt O e from to = (¬ O (point_at e from)) × ¬ O (point_at e to)

-- neither end is at an ordinary point
abbrev pub HasNoOrdinaryEnd : Triple → {s : Part} → Edge s → Frac → Frac → Type 0
HasNoOrdinaryEnd d {s = s} e from to = HasNoEndAt (IsOrdinary d s) e from to
