-- What machine products are worth, and how large they are.
use Rattle.std.proofs.Common.{ℕ, ◌*◌, ◌≤◌, ◌^◌, ℤ, pos, ◌*ℤ◌, unsigned_abs, to_z, of_z, arith, mul-le-mul, ◌≡◌, false, sym, ap}
use Rattle.std.proofs.Math.Dec.{T, ltb}
use Rattle.std.specs.Prelude.{◌<ℤ◌, ◌≤ℤ◌, not}
use Rattle.std.specs.Int.Signed.{lt_z}
use Rattle.std.specs.Int.{w64}
use Rattle.std.proofs.lemmas.Int.{ints, unsigned_abs-mul}
use Rattle.integers.proofs.Worth.{Reads, known, pass, times}
use Rattle.integers.proofs.Signs.{square_nonneg}
use Rattle.integers.proofs.Orders.{lt_z_of_less}

pub product : (m n : ℕ) (x y : ℤ) → unsigned_abs x ≤ m → unsigned_abs y ≤ n → T (ltb m (2 ^ 63)) → T (ltb n (2 ^ 63)) → T (ltb (m * n) (2 ^ 63))
    → Reads (to_z w64 (of_z w64 (to_z w64 (of_z w64 x) *ℤ to_z w64 (of_z w64 y)))) (x *ℤ y) (m * n)
product m n x y h k one two both = pass w64 (times (pass w64 (known x m h) one) (pass w64 (known y n k) two)) both

-- the square of a large number is more than a bound
pub large_square : (a b : ℤ) → 2 ^ 62 ≤ unsigned_abs a → unsigned_abs b ≤ 2 ^ 123 → b <ℤ (a *ℤ a)
large_square a b h k = above (a *ℤ a) b (square_nonneg a) (rw (unsigned_abs-mul a a) (mul-le-mul h h)) k
  where
    above : (s b : ℤ) → pos 0 ≤ℤ s → 2 ^ 62 * 2 ^ 62 ≤ unsigned_abs s → unsigned_abs b ≤ 2 ^ 123 → b <ℤ s
    above s b p h k = omega (arith, ints)

pub too_large : (a b : ℤ) (n : ℕ) → n ≡ unsigned_abs a → 2 ^ 62 ≤ n → unsigned_abs b ≤ 2 ^ 123 → false ≡ not (lt_z b (a *ℤ a))
too_large a b n e h k = sym (ap not (lt_z_of_less b (a *ℤ a) (large_square a b (omega arith) k)))
