-- A whole text is read by the steps of its tokens, and has one reading where these make one thing of them.
use Rattle.std.proofs.Common.{◌≡◌, ℕ, ◌==◌, Bool, List, Option, Some, None, Result, position, refl, sym, ap, subst, ◌∙◌}
use Rattle.lex_lines.specs.declared.token.Token.{Token}
use Rattle.lex_lines.specs.Places.{AreTokens}
use Rattle.lex_lines.proofs.Only.{only_tokens}
use Rattle.weld.specs.Raw.{Raw}
use Rattle.weld.specs.declared.fault.PartFault.{PartFault}
use Rattle.part_text.specs.Steps.{Reading, Step, read_value}
use Rattle.part_text.specs.Texts.{ReadsFrom, ReadsText}
use Rattle.part_text.proofs.FirstZero.{zero_place}
use Rattle.part_text.proofs.Single.{IsSingle}

-- where no byte is zero
pub text_read : (comments : Bool) (whole : Step Raw) (bytes : List ℕ) (start : List Token) (r : Reading Raw) → zero_place bytes ≡ None → AreTokens comments bytes start → whole start r → ReadsText comments whole bytes (read_value r)
text_read comments whole bytes start r e tokens h = subst (λ found. ReadsFrom comments whole bytes found (read_value r)) (sym e) (start, tokens, r, h, refl)

module _ (comments : Bool) (whole : Step Raw) (bytes : List ℕ) (one : IsSingle whole) where
  one_from : (zero_byte : Option ℕ) (r s : Result Raw PartFault) → ReadsFrom comments whole bytes zero_byte r → ReadsFrom comments whole bytes zero_byte s → r ≡ s
  one_from (Some place) r s e h = e ∙ sym h
  one_from None r s (tokens, a, made, p, e) (others, b, other, q, h) =
      let same : others ≡ tokens = only_tokens comments bytes others tokens b a in
      e ∙ ap read_value (one.one tokens made other p (subst (λ (l : List Token). whole l other) same q)) ∙ sym h

  pub one_text : (r s : Result Raw PartFault) → ReadsText comments whole bytes r → ReadsText comments whole bytes s → r ≡ s
  one_text r s = one_from (position (λ byte. byte == 0) bytes) r s
