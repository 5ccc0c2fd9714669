-- What the machine's comparisons of products say.
use Rattle.std.proofs.Common.{◌≡◌, ℕ, ◌<◌, ◌^◌, ◌*◌, to_z, of_z}
use Rattle.std.specs.Prelude.{◌↔◌, ℤ, ◌*ℤ◌, ◌≤ℤ◌, ◌<ℤ◌, unsigned_abs, IsTrue}
use Rattle.std.specs.Int.{w128}
use Rattle.std.proofs.Math.Dec.{T, ltb}
use lib.Signed.{le_z, lt_z}
use Rattle.integers.proofs.Worth.{pass, below, known, via, times, plus}
use Rattle.lattice.specs.declared.points.Vector.{Vector}
use Rattle.lattice.specs.Triple.{dot}
use Rattle.lattice.specs.Points.{of_vector}
use Rattle.meeting.proofs.Machine.{at_most_test, less_test}

-- a machine's product of two numbers
product : (k m : ℕ) (a b : ℤ) → unsigned_abs a < k → unsigned_abs b < m → T (ltb k (2 ^ 127)) → T (ltb m (2 ^ 127)) → T (ltb (k * m) (2 ^ 127))
    → to_z w128 (of_z w128 (to_z w128 (of_z w128 a) *ℤ to_z w128 (of_z w128 b))) ≡ a *ℤ b
product k m a b f g one other both = (pass w128 (times (pass w128 (below a k f) one) (pass w128 (below b m g) other)) both).is

abbrev machine : ℤ → ℤ → ℤ
machine a b = to_z w128 (of_z w128 (to_z w128 (of_z w128 a) *ℤ to_z w128 (of_z w128 b)))

-- a height and an offset as the machine reads them
pub height_read : (k : ℤ) → unsigned_abs k < 2 ^ 66 → to_z w128 (of_z w128 k) ≡ k
height_read k h = (pass w128 (below k (2 ^ 66) h) tt).is

pub offset_read : (k : ℤ) → unsigned_abs k < 2 ^ 48 → to_z w128 (of_z w128 k) ≡ k
offset_read k h = (pass w128 (below k (2 ^ 48) h) tt).is

pub heights_test : (a b : ℤ) → unsigned_abs a < 2 ^ 66 → unsigned_abs b < 2 ^ 66 → IsTrue (lt_z (to_z w128 (of_z w128 a)) (to_z w128 (of_z w128 b))) ↔ (a <ℤ b)
heights_test a b f g = less_test _ _ a b (height_read a f) (height_read b g)

-- each of a height and an offset
pub mixed_test : (a b c d : ℤ) → unsigned_abs a < 2 ^ 66 → unsigned_abs b < 2 ^ 48 → unsigned_abs c < 2 ^ 66 → unsigned_abs d < 2 ^ 48
    → IsTrue (le_z (machine a b) (machine c d)) ↔ ((a *ℤ b) ≤ℤ (c *ℤ d))
mixed_test a b c d f g h k = at_most_test (machine a b) (machine c d) (a *ℤ b) (c *ℤ d) (product (2 ^ 66) (2 ^ 48) a b f g tt tt tt) (product (2 ^ 66) (2 ^ 48) c d h k tt tt tt)

-- each of two offsets
pub offset_test : (a b c d : ℤ) → unsigned_abs a < 2 ^ 48 → unsigned_abs b < 2 ^ 48 → unsigned_abs c < 2 ^ 48 → unsigned_abs d < 2 ^ 48
    → IsTrue (le_z (machine a b) (machine c d)) ↔ ((a *ℤ b) ≤ℤ (c *ℤ d))
offset_test a b c d f g h k = at_most_test (machine a b) (machine c d) (a *ℤ b) (c *ℤ d) (product (2 ^ 48) (2 ^ 48) a b f g tt tt tt) (product (2 ^ 48) (2 ^ 48) c d h k tt tt tt)

-- the machine's product of two vectors
pub dot_read : (s t : Vector) (r : ℤ) → r ≡ dot (of_vector s) (of_vector t) → to_z w128 (of_z w128 r) ≡ dot (of_vector s) (of_vector t)
dot_read s t r e =
    (pass w128 (via e (plus (plus
    (times (known s.x (2 ^ 21) s.x_in_range) (known t.x (2 ^ 21) t.x_in_range))
    (times (known s.y (2 ^ 21) s.y_in_range) (known t.y (2 ^ 21) t.y_in_range)))
    (times (known s.z (2 ^ 21) s.z_in_range) (known t.z (2 ^ 21) t.z_in_range)))) tt).is
