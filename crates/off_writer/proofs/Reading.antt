-- Reading the text of a part gives that part.
use Rattle.std.proofs.Common.{◌≡◌, ℕ, ◌≤◌, ◌==◌, Bool, true, false, List, [], ◌∷◌, ◌++◌, length, None, Ok, refl, sym, subst, ◌∙◌, arith, le-ltb, ltb-true, lt-ltb, ne_eqb}
use Rattle.std.specs.Prelude.{All, nat_lt}
use Rattle.std.specs.List.{flat_map, list_all, position_or_len}
use Rattle.std.proofs.lemmas.Bool.{and_parts, and_from}
use Rattle.std.proofs.lemmas.List.Folds.{list_all-append}
use Rattle.std.proofs.lemmas.List.Elements.{All-head, All-rest}
use Rattle.std.proofs.lemmas.List.{length-map}
use Rattle.dec_text.specs.declared.number.Length.TheVariants.{Millimetre}
use Rattle.lattice.specs.declared.points.Corner.{Corner}
use Rattle.lattice.specs.declared.soup.Tri.{Tri}
use Rattle.lattice.specs.Points.{of_corner}
use Rattle.lattice.specs.Triangles.{IsBelow}
use Rattle.lex_lines.specs.Scan.{between, tokens_from}
use Rattle.lex_lines.specs.inner.Cursors.{left_at}
use Rattle.lex_lines.proofs.Promise.{are_tokens}
use Rattle.part_text.proofs.FirstZero.{zero_place}
use Rattle.part_text.proofs.WholeTexts.{text_read}
use Rattle.off_reader.specs.Off.{Whole, ReadsOff}
use Rattle.off_writer.specs.OffTexts.{off_of, raw_of}
use Rattle.off_writer.proofs.Words.{Word, spaced, ending, letters, mark, spelled, ArePlain, plain-append, Spells, spells}
use Rattle.off_writer.proofs.Numerals.{plain_decimal}
use Rattle.off_writer.proofs.CoordinateNumbers.{plain_coordinate}
use Rattle.off_writer.proofs.LinesRead.{head_words, corner_words, triangle_words, off_words, spelled_off, gets_whole}

-- ---- its words are plain
plain_head : (corners triangles : ℕ) → corners ≤ 60000 → triangles ≤ 20000 → ArePlain (head_words corners triangles)
plain_head corners triangles h k = (
  record { some = omega arith; above = refl },
  (plain_decimal corners (omega (arith, h)), (plain_decimal triangles (omega (arith, k)), (record { some = omega arith; above = refl }, tt))),
)

plain_corners : (decimals : ℕ) (corners : List Corner) → ArePlain (flat_map (corner_words decimals) corners)
plain_corners decimals [] = tt
plain_corners decimals (c ∷ corners) = (
  plain_coordinate decimals c.x c.x_in_range,
  (plain_coordinate decimals c.y c.y_in_range, (plain_coordinate decimals c.z c.z_in_range, plain_corners decimals corners)),
)

plain_triangles : (vertices : ℕ) (triangles : List Tri) → vertices ≤ 60000 → All (IsBelow vertices) triangles → ArePlain (flat_map triangle_words triangles)
plain_triangles vertices [] few below = tt
plain_triangles vertices (t ∷ triangles) few below =
    let here = All-head (IsBelow vertices) t triangles below in
    let others = All-rest (IsBelow vertices) t triangles (t ∷ triangles) refl below in (
      record { some = omega arith; above = refl },
      (
        plain_decimal t.a (omega (arith, few, here.a)),
        (
          plain_decimal t.b (omega (arith, few, here.b)),
          (
            plain_decimal t.c (omega (arith, few, here.c)),
            plain_triangles vertices triangles few others,
          ),
        ),
      ),
    )

pub plain_off : (decimals : ℕ) (corners : List Corner) (triangles : List Tri) → length corners ≤ 60000 → length triangles ≤ 20000 → All (IsBelow (length corners)) triangles
    → ArePlain (off_words decimals corners triangles)
plain_off decimals corners triangles few_corners few_triangles below =
    plain-append (head_words (length corners) (length triangles)) (flat_map (corner_words decimals) corners ++ flat_map triangle_words triangles)
    (plain_head (length corners) (length triangles) few_corners few_triangles)
    (plain-append (flat_map (corner_words decimals) corners) (flat_map triangle_words triangles) (plain_corners decimals corners) (plain_triangles (length corners) triangles few_corners below))

-- ---- no byte is zero
not_zero : (text : List ℕ) → list_all (nat_lt 35) text ≡ true → list_all (nat_lt 0) text ≡ true
not_zero [] h = refl
not_zero (byte ∷ text) h =
    let both = and_parts (nat_lt 35 byte) (list_all (nat_lt 35) text) h in
    let above = ltb-true 35 byte both.0 in
    and_from (nat_lt 0 byte) (list_all (nat_lt 0) text) (lt-ltb 0 byte (omega (arith, above))) (not_zero text both.1)

marked : (word : Word) (rest : List ℕ) → list_all (nat_lt 0) rest ≡ true → list_all (nat_lt 0) (mark word ∷ rest) ≡ true
marked (spaced text) rest h = h
marked (ending text) rest h = h

none_zero : (words : List Word) → ArePlain words → list_all (nat_lt 0) (spelled words) ≡ true
none_zero [] h = refl
none_zero (word ∷ words) (first, more) =
    list_all-append (nat_lt 0) (letters word) (mark word ∷ spelled words)
    ∙ and_from (list_all (nat_lt 0) (letters word)) (list_all (nat_lt 0) (mark word ∷ spelled words)) (not_zero (letters word) first.above) (marked word (spelled words) (none_zero words more))

passed : (bytes : List ℕ) → list_all (nat_lt 0) bytes ≡ true → position_or_len (λ byte. byte == 0) bytes ≡ length bytes
passed [] h = refl
passed (byte ∷ bytes) h =
    let both = and_parts (nat_lt 0 byte) (list_all (nat_lt 0) bytes) h in
    let above = ltb-true 0 byte both.0 in
    let solid : (byte == 0) ≡ false = ne_eqb byte 0 (λ e. omega (arith, e, above)) in
    let more = passed bytes both.1 in
    rw (solid, more) (omega arith)

no_zero : (bytes : List ℕ) → list_all (nat_lt 0) bytes ≡ true → zero_place bytes ≡ None
no_zero bytes h = rw (passed bytes h, le-ltb (length bytes) (length bytes) (omega arith)) refl

-- ---- its tokens
module _ (decimals : ℕ) (corners : List Corner) (triangles : List Tri) (few_corners : length corners ≤ 60000) (few_triangles : length triangles ≤ 20000)
    (below : All (IsBelow (length corners)) triangles) where
  -- with comments or without, they spell its words
  pub off_spelled : (comments : Bool)
      → Spells (off_of decimals corners triangles) 1 (off_words decimals corners triangles) (left_at comments (off_of decimals corners triangles) 0 1)
  off_spelled comments =
      let words = off_words decimals corners triangles in
      let text = off_of decimals corners triangles in
      let same : spelled words ≡ text = spelled_off decimals corners triangles in
      subst (λ (bytes : List ℕ). Spells text 1 words (tokens_from comments bytes 0 1 between)) same
      (spells comments text words 0 1 (plain_off decimals corners triangles few_corners few_triangles below) (sym same))

  -- reading it as OFF gives the part
  pub off_read : ReadsOff decimals Millimetre (off_of decimals corners triangles) (Ok (raw_of corners triangles))
  off_read =
      let text = off_of decimals corners triangles in
      let tokens = left_at true text 0 1 in
      let g = gets_whole text decimals corners triangles tokens few_corners few_triangles (length-map corners of_corner) below (off_spelled true) in
      let solid : list_all (nat_lt 0) text ≡ true =
      subst (λ (bytes : List ℕ). list_all (nat_lt 0) bytes ≡ true) (spelled_off decimals corners triangles)
      (none_zero (off_words decimals corners triangles) (plain_off decimals corners triangles few_corners few_triangles below)) in
      text_read true (Whole decimals Millimetre text) text tokens (Ok (raw_of corners triangles, g.rest)) (no_zero text solid) (are_tokens true text) g.made
