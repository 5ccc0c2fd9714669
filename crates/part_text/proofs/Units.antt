-- A token's text in units: what its reading as a number says, and how large it is.
use Rattle.std.proofs.Common.{◌≡◌, ℕ, zero, suc, ◌^◌, ◌<◌, ◌≤◌, Bool, true, false, ℤ, List, Ok, Err, unsigned_abs, to_z, of_z, refl, sym, ap, subst, inl, inr, arith}
use Rattle.std.specs.Int.{w32}
use Rattle.std.proofs.lemmas.Int.{to_z-of_z, fits_signed_from_abs}
use Rattle.dec_text.specs.Numbers.{Number, signed, magnitude_of, units_of}
use Rattle.dec_text.specs.declared.number.Length.{Length}
use Rattle.lex_lines.specs.declared.token.Token.{Token}
use Rattle.weld.specs.declared.fault.PartKind.TheVariants.{BadNumber, TooLarge}
use Rattle.part_text.specs.Steps.{fault_at}
use Rattle.part_text.specs.Words.{Units}

-- a number of so many units
abbrev pub IsUnits : ℕ → Length → List ℕ → ℤ → Type 0
IsUnits decimals unit text v = (n : Number text) × (magnitude_of decimals unit n ≤ 1048576) × (units_of decimals unit n ≡ v)

signed_size : (negative : Bool) (m : ℕ) → m ≤ 1048576 → unsigned_abs (signed negative m) ≤ 2 ^ 20
signed_size false m h = omega arith
signed_size true zero h = omega arith
signed_size true (suc m) h = omega arith

pub units_size : (decimals : ℕ) (unit : Length) (text : List ℕ) (v : ℤ) → IsUnits decimals unit text v → unsigned_abs v ≤ 2 ^ 20
units_size decimals unit text v h = subst (λ (z : ℤ). unsigned_abs z ≤ 2 ^ 20) h.2 (signed_size h.0.negative (magnitude_of decimals unit h.0) h.1)

-- what 32 bits hold of it
abbrev pub stored : ℤ → ℤ
stored v = to_z w32 (of_z w32 v)

pub stored_same : (v : ℤ) → unsigned_abs v ≤ 2 ^ 20 → stored v ≡ v
stored_same v h = let k : unsigned_abs v < 2 ^ 31 = omega (arith, h) in to_z-of_z w32 v (fits_signed_from_abs w32 v k)

pub stored_size : (decimals : ℕ) (unit : Length) (text : List ℕ) (v : ℤ) → IsUnits decimals unit text v → unsigned_abs (stored v) ≤ 2 ^ 20
stored_size decimals unit text v h = let k = units_size decimals unit text v h in rw (stored_same v k) k

pub in_units : (decimals : ℕ) (unit : Length) (text bytes : List ℕ) (line : ℕ) (left : List Token) (v : ℤ) → bytes ≡ text → IsUnits decimals unit bytes v → Units decimals unit text line left (Ok (stored v, left))
in_units decimals unit text bytes line left v e h =
    subst (λ (t : List ℕ). Units decimals unit t line left (Ok (stored v, left))) e
    (rw (stored_same v (units_size decimals unit bytes v h)) (inl (h.0, h.1, ap (λ (z : ℤ). Ok (z, left)) (sym h.2))))

pub too_large : (decimals : ℕ) (unit : Length) (text bytes : List ℕ) (line : ℕ) (left : List Token) → bytes ≡ text → ((n : Number bytes) × (1048576 < magnitude_of decimals unit n)) → Units decimals unit text line left (Err (fault_at line TooLarge))
too_large decimals unit text bytes line left e h = subst (λ (t : List ℕ). Units decimals unit t line left (Err (fault_at line TooLarge))) e (inr (inl (h.0, h.1, refl)))

pub no_number : (decimals : ℕ) (unit : Length) (text bytes : List ℕ) (line : ℕ) (left : List Token) → bytes ≡ text → (Number bytes → ⊥) → Units decimals unit text line left (Err (fault_at line BadNumber))
no_number decimals unit text bytes line left e h = subst (λ (t : List ℕ). Units decimals unit t line left (Err (fault_at line BadNumber))) e (inr (inr (h, refl)))
