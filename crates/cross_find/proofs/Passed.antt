-- Numbers that pass through the machine's.
use Rattle.std.proofs.Common.{◌≡◌, ◌∙◌, ◌<◌, ◌≤◌, ◌^◌, arith, unsigned_abs, to_z, of_z}
use Rattle.std.specs.Prelude.{ℤ, pos, ◌-ℤ◌, ◌*ℤ◌, ◌≢◌}
use Rattle.std.specs.Int.{w8, w32, w64, w128}
use Rattle.std.proofs.lemmas.Int.{ints}

pub passed : (x : ℤ) → unsigned_abs x < 2 ^ 48 → to_z w128 (of_z w128 x) ≡ x
passed x h = omega (arith, ints)

pub passed_difference : (x : ℤ) → unsigned_abs x < 2 ^ 49 → to_z w128 (of_z w128 x) ≡ x
passed_difference x h = omega (arith, ints)

pub passed_height : (x : ℤ) → unsigned_abs x < 2 ^ 66 → to_z w128 (of_z w128 x) ≡ x
passed_height x h = omega (arith, ints)

pub difference_passed : (x y : ℤ) → unsigned_abs x < 2 ^ 48 → unsigned_abs y < 2 ^ 48 → to_z w128 (of_z w128 (to_z w128 (of_z w128 x) -ℤ to_z w128 (of_z w128 y))) ≡ x -ℤ y
difference_passed x y h k = (λ i. to_z w128 (of_z w128 (passed x h i -ℤ passed y k i))) ∙ small_enough x y h k
  where
    small_enough : (x y : ℤ) → unsigned_abs x < 2 ^ 48 → unsigned_abs y < 2 ^ 48 → to_z w128 (of_z w128 (x -ℤ y)) ≡ x -ℤ y
    small_enough x y h k = omega (arith, ints)

-- a coordinate of a corner, and a component of a vector
pub coordinate_passed : (x : ℤ) → unsigned_abs x ≤ 2 ^ 20 → to_z w32 (of_z w32 x) ≡ x
coordinate_passed x h = omega (arith, ints)

pub component_passed : (x : ℤ) → unsigned_abs x ≤ 2 ^ 21 → to_z w64 (of_z w64 x) ≡ x
component_passed x h = omega (arith, ints)

pub small : (x : ℤ) → unsigned_abs x ≤ 4 → to_z w8 (of_z w8 x) ≡ x
small x h = omega (arith, ints)

pub smaller : (m : ℤ) → unsigned_abs m ≤ 1 → to_z w8 (of_z w8 m) ≡ m
smaller m h = omega (arith, ints)

pub turn_passed : (t : ℤ) → unsigned_abs t ≤ 2 → to_z w8 (of_z w8 t) ≡ t
turn_passed t h = omega (arith, ints)

pub product : (r t m n : ℤ) → unsigned_abs t ≤ 2 → unsigned_abs m ≤ 1 → unsigned_abs n ≤ 1
    → r ≡ to_z w8 (of_z w8 t) *ℤ (to_z w8 (of_z w8 m) -ℤ to_z w8 (of_z w8 n)) → r ≡ t *ℤ (m -ℤ n)
product r t m n ht hm hn e =
    let turn = turn_passed t ht in
    let from = smaller m hm in
    let to = smaller n hn in
    e ∙ (λ i. turn i *ℤ (from i -ℤ to i))

pub zero : (x : ℤ) → unsigned_abs x ≤ 4 → of_z w8 x ≡ 0 → x ≡ pos 0
zero x h e = omega (arith, ints)

-- a number that is not 0 is not found to be 0
pub some_left : (x : ℤ) → unsigned_abs x ≤ 4 → x ≡ pos 0 → of_z w8 x ≢ 0 → ⊥
some_left x h e n = n (omega (arith, ints))
