-- The first coordinate of an STL that is out of range, one token after the other.
use Rattle.std.proofs.Common.{◌≢◌, ℕ, zero, suc, List, ◌∷◌, Option, Some, refl, inl, inr, arith}
use Rattle.dec_text.specs.declared.number.Length.{Length}
use Rattle.lex_lines.specs.declared.token.Token.{Token}
use Rattle.part_lines.specs.Hints.{IsLargeThere, IsFirstLarge, coordinates_from, left_after}

module _ (decimals : ℕ) (unit : Length) (bytes : List ℕ) (line : ℕ) where
  pub found_here : (left : ℕ) (t : Token) (tokens : List Token) → (left ≢ 0) × IsLargeThere decimals unit bytes line t
      → IsFirstLarge decimals unit bytes line (coordinates_from bytes left (t ∷ tokens)) (Some t)
  found_here zero t tokens (some, there) = absurd (some refl)
  found_here (suc left) t tokens (some, there) = inl (there, refl)

  pub found_later : (left : ℕ) (t : Token) (tokens : List Token) (found : Option Token) → ((left ≢ 0) × IsLargeThere decimals unit bytes line t → ⊥)
      → IsFirstLarge decimals unit bytes line (coordinates_from bytes (left_after bytes left t) tokens) found
      → IsFirstLarge decimals unit bytes line (coordinates_from bytes left (t ∷ tokens)) found
  found_later zero t tokens found none h = h
  found_later (suc left) t tokens found none h = inr ((λ there. none (suc_some left, there)), h)
    where
      suc_some : (n : ℕ) → suc n ≢ 0
      suc_some n e = omega (arith, e)
