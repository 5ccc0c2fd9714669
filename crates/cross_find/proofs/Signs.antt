-- Signs and marks are small, and numbers with one sign have one mark.
use Rattle.std.proofs.Common.{◌≡◌, ◌⊎◌, inl, inr, ◌≤◌, zero, suc, refl, ap, sym, ◌∙◌, arith, unsigned_abs}
use Rattle.std.specs.Prelude.{ℤ, pos, negsuc, ◌<ℤ◌}
use Rattle.std.proofs.lemmas.Int.{ints}
use Rattle.geometry.specs.Views.{sign_of}
use Rattle.geometry.specs.Counts.{Side, to_left, to_right}
use Rattle.geometry.specs.Shares.{mark}

pub sign_small : (x : ℤ) → unsigned_abs (sign_of x) ≤ 1
sign_small (pos zero) = omega arith
sign_small (pos (suc n)) = omega arith
sign_small (negsuc n) = omega arith

-- the mark of a number above 0 is 1, and of one below 0 is 0
marked : (k : Side) (x : ℤ) → pos 0 <ℤ x → mark k x ≡ pos 1
marked k (pos zero) h = absurd (omega (arith, ints))
marked to_left (pos (suc n)) h = refl
marked to_right (pos (suc n)) h = refl
marked k (negsuc n) h = absurd (omega (arith, ints))

unmarked : (k : Side) (x : ℤ) → x <ℤ pos 0 → mark k x ≡ pos 0
unmarked k (pos n) h = absurd (omega (arith, ints))
unmarked to_left (negsuc n) h = refl
unmarked to_right (negsuc n) h = refl

pub same_mark : (k : Side) (x y : ℤ) → ((pos 0 <ℤ x) × (pos 0 <ℤ y)) ⊎ ((x <ℤ pos 0) × (y <ℤ pos 0)) ⊎ ((x ≡ pos 0) × (y ≡ pos 0)) → mark k x ≡ mark k y
same_mark k x y (inl h) = marked k x h.0 ∙ sym (marked k y h.1)
same_mark k x y (inr (inl h)) = unmarked k x h.0 ∙ sym (unmarked k y h.1)
same_mark k x y (inr (inr h)) = ap (mark k) (h.0 ∙ sym h.1)
