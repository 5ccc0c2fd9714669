-- Whatever its form, the text of a part is read as OFF.
use Rattle.std.proofs.Common.{◌≡◌, ℕ, ◌≤◌, false, List, [], ◌∷◌, length, Ok, refl, sym, subst}
use Rattle.std.specs.Prelude.{All, codes}
use Rattle.dec_text.specs.declared.number.Length.TheVariants.{Millimetre}
use Rattle.lattice.specs.declared.points.Corner.{Corner}
use Rattle.lattice.specs.declared.soup.Tri.{Tri}
use Rattle.lattice.specs.Triangles.{IsBelow}
use Rattle.lex_lines.specs.declared.token.Token.{Token}
use Rattle.lex_lines.specs.inner.Cursors.{left_at}
use Rattle.lex_lines.proofs.Promise.{are_tokens}
use Rattle.part_text.specs.Words.{text_of, is_word}
use Rattle.part_input.specs.Reading.{begins_solid, ReadsAs, ReadsPartText}
use Rattle.off_writer.specs.OffTexts.{off_of, raw_of}
use Rattle.off_writer.proofs.Words.{Spells}
use Rattle.off_writer.proofs.LinesRead.{off_words}
use Rattle.off_writer.proofs.Reading.{off_spelled, off_read}

not_solid : (text : List ℕ) → text ≡ codes "OFF" → is_word (codes "solid") text ≡ false
not_solid text e = rw e refl

-- its first word is not `solid`
not_stl : (bytes : List ℕ) (decimals : ℕ) (corners : List Corner) (triangles : List Tri) (tokens : List Token) → Spells bytes 1 (off_words decimals corners triangles) tokens
    → begins_solid bytes tokens ≡ false
not_stl bytes decimals corners triangles [] s = absurd s
not_stl bytes decimals corners triangles (t ∷ tokens) (text, at, more) = not_solid (text_of bytes t) text

-- reading the text of a part gives that part
pub part_read : (decimals : ℕ) (corners : List Corner) (triangles : List Tri) → length corners ≤ 60000 → length triangles ≤ 20000 → All (IsBelow (length corners)) triangles
    → ReadsPartText decimals Millimetre (off_of decimals corners triangles) (Ok (raw_of corners triangles))
part_read decimals corners triangles few_corners few_triangles below =
    let text = off_of decimals corners triangles in
    let tokens = left_at false text 0 1 in
    let off : begins_solid text tokens ≡ false = not_stl text decimals corners triangles tokens (off_spelled decimals corners triangles few_corners few_triangles below false) in (
      tokens,
      are_tokens false text,
      subst (λ stl. ReadsAs stl decimals Millimetre text (Ok (raw_of corners triangles))) (sym off)
          (off_read decimals corners triangles few_corners few_triangles below),
    )
