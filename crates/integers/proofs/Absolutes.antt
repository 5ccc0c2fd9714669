-- Natural numbers as whole ones, and absolute values by the sign.
use Rattle.std.proofs.Common.{◌≡◌, ℕ, ◌+◌, ◌*◌, ◌<◌, unsigned_abs, arith}
use Rattle.std.specs.Prelude.{ℤ, pos, ◌+ℤ◌, ◌-ℤ◌, ◌*ℤ◌, ◌≤ℤ◌, ◌<ℤ◌}
use Rattle.std.proofs.lemmas.Int.{ints}

pub natural_not_negative : (n : ℕ) → pos 0 ≤ℤ pos n
natural_not_negative n = omega (arith, ints)

pub natural_positive : (n : ℕ) → 0 < n → pos 0 <ℤ pos n
natural_positive n h = omega (arith, ints)

pub natural_of_positive : (n : ℕ) (a : ℤ) → pos n ≡ a → pos 0 <ℤ a → 0 < n
natural_of_positive n a e h = omega (arith, ints)

pub pos-sum : (m n : ℕ) → pos (m + n) ≡ pos m +ℤ pos n
pos-sum m n = omega (arith, ints)

pub pos-sum_of_three : (k m n : ℕ) → pos (k + m + n) ≡ (pos k +ℤ pos m) +ℤ pos n
pos-sum_of_three k m n = omega (arith, ints)

pub pos-product : (m n : ℕ) → pos (m * n) ≡ pos m *ℤ pos n
pos-product m n = omega (arith, ints)

pub pos-sum_of_products : (k l m n : ℕ) → pos (k * l + m * n) ≡ (pos k *ℤ pos l) +ℤ (pos m *ℤ pos n)
pos-sum_of_products k l m n = omega (arith, ints)

-- absolute values
pub abs_of_positive : (a : ℤ) → pos 0 <ℤ a → pos (unsigned_abs a) ≡ a
abs_of_positive a h = omega (arith, ints)

pub abs_of_not_negative : (a : ℤ) → pos 0 ≤ℤ a → pos (unsigned_abs a) ≡ a
abs_of_not_negative a h = omega (arith, ints)

pub abs_of_negative : (a : ℤ) → a <ℤ pos 0 → pos (unsigned_abs a) ≡ pos 0 -ℤ a
abs_of_negative a h = omega (arith, ints)

pub abs_of_not_positive : (a : ℤ) → a ≤ℤ pos 0 → pos (unsigned_abs a) ≡ pos 0 -ℤ a
abs_of_not_positive a h = omega (arith, ints)

pub some_abs_of_positive : (a : ℤ) → pos 0 <ℤ a → 0 < unsigned_abs a
some_abs_of_positive a h = omega (arith, ints)

pub some_abs_of_negative : (a : ℤ) → a <ℤ pos 0 → 0 < unsigned_abs a
some_abs_of_negative a h = omega (arith, ints)
