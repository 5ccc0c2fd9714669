-- How large products of vectors are.
use Rattle.std.proofs.Common.{◌≡◌, ℕ, ◌+◌, ◌*◌, ◌≤◌, ◌^◌, arith, ℤ, pos, ◌+ℤ◌, ◌-ℤ◌, ◌*ℤ◌, unsigned_abs, to_z, of_z, ◌∙◌}
use Rattle.std.specs.Prelude.{neg_ℤ}
use Rattle.std.proofs.lemmas.Int.{ints}
use Rattle.std.proofs.Math.Dec.{T, ltb}
use Rattle.std.specs.Int.{w64, w128}
use Rattle.integers.proofs.Worth.{Reads, known, pass, plus, minus, times}
use Rattle.lattice.specs.Triple.{Triple, dot, cross, det, IsWithin}
use Rattle.lattice.specs.declared.points.Vector.{Vector}
use Rattle.lattice.specs.declared.points.Spot.{Spot}
use Rattle.lattice.specs.Points.{of_vector, of_spot, scaled}

pub dot_reads : (k m : ℕ) (s t : Triple) → IsWithin k s → IsWithin m t → Reads (dot s t) (dot s t) (k * m + k * m + k * m)
dot_reads k m s t a b =
    plus (plus (times (known s.x k a.x) (known t.x m b.x)) (times (known s.y k a.y) (known t.y m b.y))) (times (known s.z k a.z) (known t.z m b.z))

pub cross_within : (k m : ℕ) (s t : Triple) → IsWithin k s → IsWithin m t → IsWithin (k * m + k * m) (cross s t)
cross_within k m s t a b = record {
  x = (minus (times (known s.y k a.y) (known t.z m b.z)) (times (known s.z k a.z) (known t.y m b.y))).size;
  y = (minus (times (known s.z k a.z) (known t.x m b.x)) (times (known s.x k a.x) (known t.z m b.z))).size;
  z = (minus (times (known s.x k a.x) (known t.y m b.y)) (times (known s.y k a.y) (known t.x m b.x))).size;
}

pub det_reads : (k m : ℕ) (r s t : Triple) → IsWithin k r → IsWithin m s → IsWithin m t → Reads (det r s t) (det r s t) (k * (m * m + m * m) + k * (m * m + m * m) + k * (m * m + m * m))
det_reads k m r s t a b d = dot_reads k (m * m + m * m) r (cross s t) a (cross_within m m s t b d)

-- the bounds that the type keeps
pub of_fields : (s : Vector) → IsWithin (2 ^ 21) (of_vector s)
of_fields s = record { x = s.x_in_range; y = s.y_in_range; z = s.z_in_range }

-- a machine's product of two components
pub component_product : (m : ℕ) (a b : ℤ) → unsigned_abs a ≤ m → unsigned_abs b ≤ m → T (ltb m (2 ^ 63)) → T (ltb (m * m) (2 ^ 63))
    → Reads (to_z w64 (of_z w64 (to_z w64 (of_z w64 a) *ℤ to_z w64 (of_z w64 b)))) (a *ℤ b) (m * m)
component_product m a b h k fits fits_too = pass w64 (times (pass w64 (known a m h) fits) (pass w64 (known b m k) fits)) fits_too

-- a machine's sum of three numbers: before the last `to_z`, and after it
module _ (m : ℕ) (a b c : ℤ) (f : unsigned_abs a ≤ m) (g : unsigned_abs b ≤ m) (h : unsigned_abs c ≤ m) (one : T (ltb m (2 ^ 127))) (two : T (ltb (m + m) (2 ^ 127))) where
  pub sum_of_three : Reads (to_z w128 (of_z w128 (to_z w128 (of_z w128 a) +ℤ to_z w128 (of_z w128 b))) +ℤ to_z w128 (of_z w128 c)) ((a +ℤ b) +ℤ c) (m + m + m)
  sum_of_three = plus (pass w128 (plus (pass w128 (known a m f) one) (pass w128 (known b m g) one)) two) (pass w128 (known c m h) one)

  pub machine_sum : T (ltb (m + m + m) (2 ^ 127)) → Reads (to_z w128 (of_z w128 (to_z w128 (of_z w128 (to_z w128 (of_z w128 a) +ℤ to_z w128 (of_z w128 b))) +ℤ to_z w128 (of_z w128 c)))) ((a +ℤ b) +ℤ c) (m + m + m)
  machine_sum three = pass w128 sum_of_three three

-- the product of an axis with a spot is not far out, since no spot is
pub dot_near : (s : Triple) (p : Spot) → IsWithin 162 s → unsigned_abs (dot s (scaled (of_spot p))) ≤ 2 ^ 30 * unsigned_abs p.w
dot_near s p h =
    let m = 2 ^ 21 * unsigned_abs p.w in
    let xyz = dot_reads 162 m s (scaled (of_spot p)) h (record { x = p.x_near; y = p.y_near; z = p.z_near }) in
    omega (arith, xyz.size)

pub wider : (t : Triple) → IsWithin 9 t → IsWithin 162 t
wider t h = record { x = omega (arith, h.x); y = omega (arith, h.y); z = omega (arith, h.z) }

-- a machine's negated component
pub reversed_component : (a : ℤ) → unsigned_abs a ≤ 2 ^ 21 → to_z w64 (of_z w64 (pos 0 -ℤ to_z w64 (of_z w64 a))) ≡ neg_ℤ a
reversed_component a h = (pass w64 (minus (known (pos 0) 0 (omega arith)) (pass w64 (known a (2 ^ 21) h) tt)) tt).is ∙ turn a
  where
    turn : (a : ℤ) → pos 0 -ℤ a ≡ neg_ℤ a
    turn a = omega (arith, ints)
