-- The first zero byte, and where there is none.
use Rattle.std.proofs.Common.{◌≡◌, ℕ, ◌==◌, List, Option, Some, None, option_map, position, refl, sym, ◌∙◌}
use Rattle.lex_lines.specs.Places.{line_at}

abbrev pub zero_place : List ℕ → Option ℕ
zero_place bytes = position (λ byte. byte == 0) bytes

pub no_zero : (bytes : List ℕ) (line : Option ℕ) → line ≡ option_map (line_at bytes) (zero_place bytes) → line ≡ None → zero_place bytes ≡ None
no_zero bytes line e none = unmapped (line_at bytes) (zero_place bytes) (sym e ∙ none)
  where
    unmapped : (f : ℕ → ℕ) (o : Option ℕ) → option_map f o ≡ None → o ≡ None
    unmapped f None e = refl
    unmapped f (Some place) e = absurd (let no : ⊥ = cc in no)
