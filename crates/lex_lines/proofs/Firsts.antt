-- The place of the first element that passes a test, or the length.
use Rattle.std.proofs.Common.{◌≡◌, ℕ, ◌≤◌, Bool, true, false, cond, List, length, refl, le_antisymm}
use Rattle.std.proofs.lemmas.Bool.{ltb-false}
use Rattle.std.proofs.lemmas.List.Sums.{prefix_len-le-length}
use Rattle.std.specs.Prelude.{not, Some, None, position, unwrap_or, nat_lt}
use Rattle.std.specs.List.{position_or_len}

-- a place up to the end is found, or is the end
chosen : (n len : ℕ) → n ≤ len → (b : Bool) → nat_lt n len ≡ b → unwrap_or (cond b (Some n) None) len ≡ n
chosen n len h true e = refl
chosen n len h false e = le_antisymm (ltb-false n len e) h

pub position_or_end : (p : ℕ → Bool) (xs : List ℕ) → unwrap_or (position p xs) (length xs) ≡ position_or_len p xs
position_or_end p xs = chosen (position_or_len p xs) (length xs) (prefix_len-le-length (λ x. not (p x)) xs) (nat_lt (position_or_len p xs) (length xs)) refl

pub position_or_len-le-length : (p : ℕ → Bool) (xs : List ℕ) → position_or_len p xs ≤ length xs
position_or_len-le-length p xs = prefix_len-le-length (λ x. not (p x)) xs
