-- A triangle's corners are seen counterclockwise along the signs of its normal.
use Rattle.std.proofs.Common.{◌≡◌, ◌≤◌, zero, suc, min, Result, Err, refl, ◌∙◌, arith}
use Rattle.std.specs.Prelude.{◌↔◌, ℤ, pos, negsuc, ◌+ℤ◌, ◌*ℤ◌, ◌≤ℤ◌, ◌<ℤ◌, unsigned_abs}
use Rattle.std.specs.Int.{int_signum}
use Rattle.std.proofs.lemmas.Int.{ints, by_lt_z}
use Rattle.lattice.specs.declared.points.Axis.{Axis}
use Rattle.lattice.specs.declared.points.Axis.TheVariants.{X, Y, Z}
use Rattle.lattice.specs.declared.points.Dir.{Dir}
use Rattle.lattice.specs.declared.points.DirFault.{DirFault}
use Rattle.lattice.specs.declared.points.DirFault.TheVariants.{ZeroDirection, DirectionRange}
use Rattle.lattice.specs.Triple.{Triple, dot, IsZero, IsWithin}
use Rattle.lattice.specs.Faults.{IsFirstOutside}

abbrev pub signs : Triple → Triple
signs s = record { x = int_signum s.x; y = int_signum s.y; z = int_signum s.z }

sign-product : (z : ℤ) → int_signum z *ℤ z ≡ pos (unsigned_abs z)
sign-product (pos zero) = refl
sign-product (pos (suc n)) = let e : min (suc n) 1 ≡ 1 = omega arith in (λ t. pos (e t) *ℤ pos (suc n)) ∙ once (pos (suc n))
  where
    once : (z : ℤ) → pos 1 *ℤ z ≡ z
    once z = omega (arith, ints)
sign-product (negsuc n) = omega (arith, ints)

pub zero-of-sign : (z : ℤ) → int_signum z ≡ pos 0 → z ≡ pos 0
zero-of-sign (pos zero) h = refl
zero-of-sign (pos (suc n)) h = absurd (omega (arith, ints))
zero-of-sign (negsuc n) h = absurd (omega (arith, ints))

pub sign-size : (z : ℤ) → unsigned_abs (int_signum z) ≤ 1
sign-size (pos n) = omega arith
sign-size (negsuc n) = omega arith

pub front-positive : (s : Triple) → ¬ IsZero s → pos 0 <ℤ dot (signs s) s
front-positive s some = by_lt_z (pos 0) (dot (signs s) s) (λ h. h)
    (λ h. absurd (let e = zeros s.x s.y s.z _ _ _ (sign-product s.x) (sign-product s.y) (sign-product s.z) h in some (record { x = e.0; y = e.1; z = e.2 })))
  where
    zeros : (x y z k l m : ℤ) → k ≡ pos (unsigned_abs x) → l ≡ pos (unsigned_abs y) → m ≡ pos (unsigned_abs z) → ((k +ℤ l) +ℤ m) ≤ℤ pos 0 → (x ≡ pos 0) × (y ≡ pos 0) × (z ≡ pos 0)
    zeros x y z k l m e f g h = (omega (arith, ints), omega (arith, ints), omega (arith, ints))

-- numbers of size 1 that are not all 0 are a direction
pub no-fault : (r : Result Dir DirFault) (fault : DirFault) (s : Triple) → r ≡ Err fault → ((r ≡ Err ZeroDirection) ↔ ((s.x ≡ pos 0) × (s.y ≡ pos 0) × (s.z ≡ pos 0)))
    → ((axis : Axis) → (r ≡ Err (DirectionRange axis)) ↔ IsFirstOutside axis s.x s.y s.z) → IsWithin 1 s → ¬ IsZero s → ⊥
no-fault r ZeroDirection s e none range small some = let h = none.0 e in some (record { x = h.0; y = h.1; z = h.2 })
no-fault r (DirectionRange X) s e none range small some = let h = (range X).0 e in omega (arith, small.x)
no-fault r (DirectionRange Y) s e none range small some = let h = (range Y).0 e in omega (arith, h.1, small.y)
no-fault r (DirectionRange Z) s e none range small some = let h = (range Z).0 e in omega (arith, h.2, small.z)
