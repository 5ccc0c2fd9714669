-- How large sums and products are, by the sizes of their parts.
use Rattle.std.proofs.Common.{ℕ, ◌+◌, ◌*◌, ◌≤◌, arith, ap, ◌≡◌, ℤ, pos, ◌≤ℤ◌, ◌+ℤ◌, ◌-ℤ◌, ◌*ℤ◌, unsigned_abs, mul-le-mul}
use Rattle.std.proofs.lemmas.Int.{ints, unsigned_abs-mul}

pub abs_times : (a b : ℤ) (m n : ℕ) → unsigned_abs a ≤ m → unsigned_abs b ≤ n → unsigned_abs (a *ℤ b) ≤ m * n
abs_times a b m n h k = rw (unsigned_abs-mul a b) (mul-le-mul h k)

pub abs_plus : (a b : ℤ) (m n : ℕ) → unsigned_abs a ≤ m → unsigned_abs b ≤ n → unsigned_abs (a +ℤ b) ≤ m + n
abs_plus a b m n h k = omega (arith, ints)

pub abs_minus : (a b : ℤ) (m n : ℕ) → unsigned_abs a ≤ m → unsigned_abs b ≤ n → unsigned_abs (a -ℤ b) ≤ m + n
abs_minus a b m n h k = omega (arith, ints)

-- a mix of two numbers with weights of at least 0 is at most the sum of the weights times their bound
pub abs_mix : (i j a b : ℤ) (m : ℕ) → pos 0 ≤ℤ i → pos 0 ≤ℤ j → unsigned_abs a ≤ m → unsigned_abs b ≤ m → unsigned_abs ((i *ℤ a) +ℤ (j *ℤ b)) ≤ m * unsigned_abs (i +ℤ j)
abs_mix i j a b m p q h k =
    let first : unsigned_abs (i *ℤ a) ≤ unsigned_abs i * m = abs_times i a (unsigned_abs i) m (omega arith) h in
    let second : unsigned_abs (j *ℤ b) ≤ unsigned_abs j * m = abs_times j b (unsigned_abs j) m (omega arith) k in
    let both : unsigned_abs ((i *ℤ a) +ℤ (j *ℤ b)) ≤ unsigned_abs i * m + unsigned_abs j * m = abs_plus (i *ℤ a) (j *ℤ b) _ _ first second in
    let sum : unsigned_abs (i +ℤ j) ≡ unsigned_abs i + unsigned_abs j = omega (arith, ints) in
    let all = ap (λ (n : ℕ). m * n) sum in
    omega (arith, both, all)
