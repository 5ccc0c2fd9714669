-- When the three numbers of a line are in lowest terms.
use Rattle.std.specs.Prelude.{◌≡◌, ℕ, ℤ, pos, negsuc, unsigned_abs}
use Rattle.std.specs.Int.{◌∣◌}
use Rattle.std.proofs.Common.{zero, suc}

-- the first of the two that isn't 0, if there is one
abbrev pub leading_of : ℤ → ℤ → ℤ
leading_of (pos zero) b = b
leading_of (pos (suc n)) b = pos (suc n)
leading_of (negsuc n) b = negsuc n

-- no number above 1 divides all three
abbrev pub HaveNoCommonDivisor : ℤ → ℤ → ℤ → Type 0
HaveNoCommonDivisor a b c = (n : ℕ) → n ∣ unsigned_abs a → n ∣ unsigned_abs b → n ∣ unsigned_abs c → n ≡ 1
