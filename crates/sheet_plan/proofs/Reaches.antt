-- How far a view reaches, as the machine's numbers give it.
use Rattle.std.proofs.Common.{◌≡◌, ◌<◌, ◌≤◌, ◌+◌, ◌^◌, arith, to_z, of_z}
use Rattle.std.specs.Prelude.{ℤ, pos, ◌+ℤ◌, ◌-ℤ◌, ◌≤ℤ◌, unsigned_abs}
use Rattle.std.specs.Int.{w64}
use Rattle.std.proofs.lemmas.Int.{ints}
use Rattle.integers.proofs.Worth.{Reads, known, below, pass, plus, minus, size_of}

-- a reach in units
pub passed : (u : ℤ) → unsigned_abs u < 2 ^ 29 → to_z w64 (of_z w64 u) ≡ u
passed u small = (pass w64 (below u (2 ^ 29) small) tt).is

-- a length on the sheet, and what is between two of them
pub own : (a : ℤ) → unsigned_abs a ≤ 2 ^ 45 → Reads (to_z w64 (of_z w64 a)) a (2 ^ 45)
own a small = pass w64 (known a (2 ^ 45) small) tt

pub between : (a b : ℤ) → unsigned_abs a ≤ 2 ^ 45 → unsigned_abs b ≤ 2 ^ 45 → Reads (to_z w64 (of_z w64 (to_z w64 (of_z w64 b) -ℤ to_z w64 (of_z w64 a)))) (b -ℤ a) (2 ^ 45 + 2 ^ 45)
between a b a_small b_small = pass w64 (minus (own b b_small) (own a a_small)) tt

-- what is between two in order is no less than 0, and small
pub ordered : (a b u v t : ℤ) → a ≡ u → b ≡ v → u ≤ℤ v → Reads t (b -ℤ a) (2 ^ 45 + 2 ^ 45) → (pos 0 ≤ℤ t) × (t ≤ℤ pos (2 ^ 46))
ordered a b u v t a_is b_is in_order reads = (least a b u v t a_is b_is in_order reads.is, greatest t (size_of (2 ^ 46) reads tt))
  where
    least : (a b u v t : ℤ) → a ≡ u → b ≡ v → u ≤ℤ v → t ≡ b -ℤ a → pos 0 ≤ℤ t
    least a b u v t a_is b_is in_order is = omega (arith, ints)

    greatest : (t : ℤ) → unsigned_abs t ≤ 2 ^ 46 → t ≤ℤ pos (2 ^ 46)
    greatest t small = omega (arith, ints)

-- what is so far to the right of a place, or so far above it
pub right_of : (x u : ℤ) → unsigned_abs x < 2 ^ 60 → unsigned_abs u ≤ 2 ^ 45 → Reads (to_z w64 (of_z w64 (to_z w64 (of_z w64 x) +ℤ to_z w64 (of_z w64 u)))) (x +ℤ u) (2 ^ 60 + 2 ^ 45)
right_of x u near small = pass w64 (plus (pass w64 (below x (2 ^ 60) near) tt) (pass w64 (known u (2 ^ 45) small) tt)) tt

pub above : (y v : ℤ) → unsigned_abs y < 2 ^ 60 → unsigned_abs v ≤ 2 ^ 45 → Reads (to_z w64 (of_z w64 (to_z w64 (of_z w64 y) -ℤ to_z w64 (of_z w64 v)))) (y -ℤ v) (2 ^ 60 + 2 ^ 45)
above y v near small = pass w64 (minus (pass w64 (below y (2 ^ 60) near) tt) (pass w64 (known v (2 ^ 45) small) tt)) tt
