-- Squares of sides and areas, and the height that they give.
use Rattle.std.proofs.Common.{◌≡◌, ℕ, ◌+◌, ◌*◌, ◌<◌, ◌≤◌, ◌^◌, ap, ◌∙◌, subst, arith, unsigned_abs}
use Rattle.std.specs.Prelude.{ℤ, pos, negsuc, ◌+ℤ◌, ◌*ℤ◌, ◌<ℤ◌, ◌≤ℤ◌}
use Rattle.std.proofs.Math.Nat.{mul-le-mul_right, mul-lt-mul_of_pos_right}
use Rattle.std.proofs.Common.{lt_of_le_of_lt, le_of_lt}
use Rattle.std.proofs.lemmas.Nat.{mul-le, mul-lt}
use Rattle.flip_slivers.specs.Heights.{IsRoundedUp}
use Rattle.integers.proofs.Absolutes.{pos-product, pos-sum_of_three}
use Rattle.std.proofs.lemmas.Int.{ints, to_z-of_z, fits_signed_from_abs}
use Rattle.std.specs.Int.{w64}
use Rattle.std.proofs.Common.{to_z, of_z, lt_of_lt_of_le, lit<}
use Rattle.lattice.specs.Triple.{Triple, dot}

-- a square by its size
abs_square : (x : ℤ) → pos (unsigned_abs x * unsigned_abs x) ≡ x *ℤ x
abs_square (pos n) = pos-product n n
abs_square (negsuc n) = omega (arith, ints)

-- a number of `i64` and what is read of it
pub part_read : (x : ℤ) (k : ℕ) → unsigned_abs x ≤ 2 ^ 43 → k ≡ unsigned_abs (to_z w64 (of_z w64 x)) * unsigned_abs (to_z w64 (of_z w64 x)) → k ≡ unsigned_abs x * unsigned_abs x
part_read x k small is = is ∙ ap (λ (z : ℤ). unsigned_abs z * unsigned_abs z) (to_z-of_z w64 x (fits_signed_from_abs w64 x (lt_of_le_of_lt small (lit< tt))))

-- the square of a length by its three parts
pub square_of_parts : (s : Triple) (k m n : ℕ) → k ≡ unsigned_abs s.x * unsigned_abs s.x → m ≡ unsigned_abs s.y * unsigned_abs s.y → n ≡ unsigned_abs s.z * unsigned_abs s.z → pos (k + m + n) ≡ dot s s
square_of_parts s k m n x y z =
    pos-sum_of_three k m n
    ∙ sums (ap pos x ∙ abs_square s.x) (ap pos y ∙ abs_square s.y) (ap pos z ∙ abs_square s.z)
  where
    sums : {a b c d e f : ℤ} → a ≡ d → b ≡ e → c ≡ f → (a +ℤ b) +ℤ c ≡ (d +ℤ e) +ℤ f
    sums p q r = cc

-- ---- rounding up
cubed : (r side : ℕ) → pos ((r * r) * side) ≡ (pos r *ℤ pos r) *ℤ pos side
cubed r side = pos-product (r * r) side ∙ ap (λ (z : ℤ). z *ℤ pos side) (pos-product r r)

raised : (area : ℕ) → pos (area * 1048576) ≡ pos area *ℤ pos 1048576
raised area = pos-product area 1048576

pub at_most_as : (a b : ℕ) (x y : ℤ) → pos a ≡ x → pos b ≡ y → a ≤ b → x ≤ℤ y
at_most_as a b x y first second h =
    let P : ℤ → Type 0 = λ z. z ≤ℤ pos b in
    let Q : ℤ → Type 0 = λ z. x ≤ℤ z in
    subst Q second (subst P first (omega (arith, ints)))

less_as : (a b : ℕ) (x y : ℤ) → pos a ≡ x → pos b ≡ y → a < b → x <ℤ y
less_as a b x y first second h =
    let P : ℤ → Type 0 = λ z. z <ℤ pos b in
    let Q : ℤ → Type 0 = λ z. x <ℤ z in
    subst Q second (subst P first (omega (arith, ints)))

pub rounded_exactly : (r area side : ℕ) → 0 < side → (r * r) * side ≤ area * 1048576 → area * 1048576 ≤ (r * r) * side → IsRoundedUp r (pos area) (pos side)
rounded_exactly r area side long at_most enough = record {
  enough = at_most_as _ _ _ _ (raised area) (cubed r side) enough;
  least = λ m below. less_as _ _ _ _ (cubed m side) (raised area) (lt_of_lt_of_le (mul-lt-mul_of_pos_right (mul-lt m m r r below below) long) at_most);
}

pub rounded_past : (r area side : ℕ) → (r * r) * side < area * 1048576 → area * 1048576 < ((r + 1) * (r + 1)) * side → IsRoundedUp (r + 1) (pos area) (pos side)
rounded_past r area side less enough = record {
  enough = at_most_as _ _ _ _ (raised area) (cubed (r + 1) side) (le_of_lt enough);
  least = λ m below. let within : m ≤ r = omega arith in less_as _ _ _ _ (cubed m side) (raised area) (lt_of_le_of_lt (mul-le-mul_right side (mul-le m m r r within within)) less);
}
