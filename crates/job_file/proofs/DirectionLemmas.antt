-- The directions of names, and the first fault of numbers that are no direction.
use Rattle.std.proofs.Common.{◌≡◌, ℕ, ◌<◌, ℤ, pos, negsuc, zero, suc, unsigned_abs, false, true, Ok, Err, arith, refl}
use Rattle.std.proofs.lemmas.Bool.Decides.{nat_tests}
use Rattle.std.specs.Ordering.{int_eq}
use Rattle.lattice.specs.Faults.{IsFirstOutside}
use Rattle.lattice.specs.declared.points.Axis.{Axis}
use Rattle.lattice.specs.declared.points.Axis.TheVariants.{X, Y, Z}
use Rattle.job_file.specs.Names.{direction_of}
use Rattle.job_file.specs.ViewKeys.{direction_at, is_outside}
use Rattle.job_file.specs.declared.fault.JobFault.TheVariants.{DirectionRange}
use Rattle.job_file.specs.declared.view.Principal.{Principal}
use Rattle.job_file.specs.declared.view.Principal.TheVariants.{Front, Back, Left, Right, Above, Below}

-- each name's numbers are a direction
pub named : (p : Principal) → direction_at 0 (direction_of p) ≡ Ok (direction_of p)
named Front = refl
named Back = refl
named Left = refl
named Right = refl
named Above = refl
named Below = refl

not_zero : (n : ℤ) → 9 < unsigned_abs n → int_eq n (pos 0) ≡ false
not_zero (pos zero) h = absurd (omega (arith, h))
not_zero (pos (suc n)) h = grind (arith, nat_tests)
not_zero (negsuc n) h = grind (arith, nat_tests)

pub outside : (n : ℕ) (axis : Axis) (x y z : ℤ) → IsFirstOutside axis x y z → direction_at n (record { x = x; y = y; z = z }) ≡ Err (DirectionRange n axis)
outside n X x y z h =
    let large : is_outside x ≡ true = grind (arith, nat_tests) in
    rw (not_zero x h, large) refl
outside n Y x y z h =
    let large : is_outside y ≡ true = grind (arith, nat_tests) in
    let small : is_outside x ≡ false = grind (arith, nat_tests) in
    grind (arith, nat_tests, not_zero y h.1)
outside n Z x y z h =
    let large : is_outside z ≡ true = grind (arith, nat_tests) in
    let small : is_outside x ≡ false = grind (arith, nat_tests) in
    let level : is_outside y ≡ false = grind (arith, nat_tests) in
    grind (arith, nat_tests, not_zero z h.2)
