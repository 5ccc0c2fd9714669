-- A direction is not zero.
use Rattle.std.proofs.Common.{◌≡◌, ◌+◌, ◌<◌, unsigned_abs, arith}
use Rattle.std.specs.Prelude.{ℤ, pos}
use Rattle.std.proofs.lemmas.Int.{ints}
use Rattle.lattice.specs.declared.points.Dir.{Dir}
use Rattle.lattice.specs.Points.{of_dir}
use Rattle.lattice.specs.Triple.{IsZero}

pub somewhere : (d : Dir) → ¬ IsZero (of_dir d)
somewhere d h = none d.x d.y d.z d.not_zero h.x h.y h.z
  where
    none : (x y z : ℤ) → 0 < unsigned_abs x + unsigned_abs y + unsigned_abs z → x ≡ pos 0 → y ≡ pos 0 → z ≡ pos 0 → ⊥
    none x y z h hx hy hz = omega (arith, ints)
