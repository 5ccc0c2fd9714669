-- A text of ASCII STL says something: a part, or a fault.
use Rattle.std.proofs.Common.{ℕ, zero, suc, ◌+◌, ◌<◌, nat_lt, true, false, List, [], ◌∷◌, All, length, filter, Result, Ok, Err, refl, arith}
use Rattle.std.proofs.lemmas.List.Elements.{All-nil, All-cons}
use Rattle.lattice.specs.Triple.{Triple}
use Rattle.lex_lines.specs.declared.token.Token.{Token}
use Rattle.dec_text.specs.declared.number.Length.{Length}
use Rattle.weld.specs.Raw.{Raw}
use Rattle.weld.specs.declared.fault.PartFault.{PartFault}
use Rattle.weld.specs.declared.fault.PartKind.TheVariants.{TooMany, Expected}
use Rattle.weld.specs.declared.fault.Want.TheVariants as want
use Rattle.weld.specs.declared.fault.Word.{Word}
use Rattle.weld.specs.declared.fault.Word.TheVariants as word
use Rattle.part_text.specs.Steps.{Reading, After, StepGives}
use Rattle.part_text.specs.Vertices.{end}
use Rattle.part_text.specs.Words.{text_of, is_word}
use Rattle.stl_reader.specs.Letters.{letters_of}
use Rattle.stl_reader.specs.Stl.{Keyword, WordLine, Numbers, Opening, Closing, facet_or_end, FacetOrEnd, AnotherSolid, Corner, Corners, Facet, Facets, vertices_of, raw_of, Whole, ReadsStl}
use Rattle.stl_reader.proofs.Turns.{behind}
use Rattle.stl_reader.proofs.Shorter.{facet_taken, solid_taken}
use Rattle.answers_exist.proofs.SomeReading.{ReadsSuch, Made, HasAnswer, Any, any_reading, some_computed, some_given, some_checked, some_then, some_next, some_skip, some_vertex, HasCornerPlaces, SaysSuch, some_text}
use Rattle.answers_exist.proofs.SomeWeld.{IsCornerPlace}

-- three corners
abbrev Three : Type 0
Three = Triple × Triple × Triple

abbrev AreCornerPlaces : Three → Type 0
AreCornerPlaces f = IsCornerPlace f.0 × IsCornerPlace f.1 × IsCornerPlace f.2

-- ---- words
module _ (bytes : List ℕ) where
  some_keyword : (w : Word) → HasAnswer Any (Keyword bytes w)
  some_keyword w = some_then (some_next (end bytes) (want.Keyword w)) (λ t _. some_checked Any (is_word (letters_of w) (text_of bytes t)) t.line t.line (Expected w) tt)

  some_word_line : (w : Word) → HasAnswer Any (WordLine bytes w)
  some_word_line w = some_then (some_keyword w) (λ line _. some_skip line)

  some_numbers : HasAnswer Any (Numbers bytes)
  some_numbers =
      let any = some_next (end bytes) want.Normal in
      some_then any (λ _ _. some_then any (λ _ _. some_then any (λ _ _. some_given Any tt tt)))

  some_opening : HasAnswer Any (Opening bytes)
  some_opening = some_then (some_keyword word.Normal) (λ _ _. some_then some_numbers (λ _ _. some_then (some_keyword word.Outer) (λ _ _. some_then (some_keyword word.Loop) (λ _ _. some_given Any tt tt))))

  some_closing : HasAnswer Any (Closing bytes)
  some_closing = some_then (some_keyword word.Endloop) (λ _ _. some_then (some_keyword word.Endfacet) (λ _ _. some_given Any tt tt))

  some_facet_or_end : HasAnswer Any (FacetOrEnd bytes)
  some_facet_or_end = some_then (some_next (end bytes) (want.Keyword word.Facet)) (λ t _. some_computed Any (facet_or_end bytes t) (λ tokens. any_reading (facet_or_end bytes t tokens)))

  solid_made : (tokens : List Token) → Made Any (AnotherSolid bytes) tokens
  solid_made [] = (Ok (false, []), refl, tt)
  solid_made (t ∷ tokens) = (some_then (some_word_line word.Solid) (λ _ _. some_given Any true tt)).made (t ∷ tokens)

-- ---- facets
module _ (decimals : ℕ) (unit : Length) (bytes : List ℕ) where
  some_corner : HasAnswer IsCornerPlace (Corner decimals unit bytes)
  some_corner = some_then (some_keyword bytes word.Vertex) (λ _ _. some_vertex decimals unit bytes)

  some_corners : HasAnswer AreCornerPlaces (Corners decimals unit bytes)
  some_corners = some_then some_corner (λ a p. some_then some_corner (λ b q. some_then some_corner (λ c r. some_given AreCornerPlaces (a, b, c) (p, q, r))))

  some_facet : (before line : ℕ) → HasAnswer AreCornerPlaces (Facet decimals unit bytes before line)
  some_facet before line =
      some_then (some_checked Any (nat_lt before 20000) line line TooMany tt)
      (λ _ _. some_then (some_opening bytes) (λ _ _. some_then some_corners (λ f p. some_then (some_closing bytes) (λ _ _. some_given AreCornerPlaces f p))))

  -- facets are read in some number of turns
  abbrev Read : ℕ → List Token → Type 0
  Read before tokens = (r : Reading (List Three)) × ((turns : ℕ) × Facets decimals unit bytes turns before tokens r) × ReadsSuch (All AreCornerPlaces) r

  behind_such : (f : Three) (r : Reading (List Three)) → AreCornerPlaces f → ReadsSuch (All AreCornerPlaces) r → ReadsSuch (All AreCornerPlaces) (behind (f ∷ []) r)
  behind_such f (Ok (fs, left)) here others = All-cons AreCornerPlaces f fs here others
  behind_such f (Err fault) here others = tt

  gives_behind : (f : Three) (r : Reading (List Three)) → After (λ others. StepGives (f ∷ others)) r (behind (f ∷ []) r)
  gives_behind f (Ok (fs, left)) = refl
  gives_behind f (Err fault) = refl

  -- a turn, where the facets are read behind fewer tokens than there are here
  module _ (tokens : List Token) (shorter : (rest : List Token) (before : ℕ) → length rest < length tokens → Read before rest) (before : ℕ) where
    module _ (line : ℕ) (mid : List Token) (said : FacetOrEnd bytes tokens (Ok ((true, line), mid))) where
      read_facet : Made AreCornerPlaces (Facet decimals unit bytes before line) mid → Read before tokens
      read_facet (Err fault, a, p) = (Err fault, (1, (Ok ((true, line), mid), said, (Err fault, a, refl))), tt)
      read_facet (Ok (f, rest), a, p) =
          let (r, (turns, h), others) = shorter rest (before + 1) (facet_taken decimals unit bytes tokens mid (true, line) said before line f rest a) in
          (behind (f ∷ []) r, (suc turns, (Ok ((true, line), mid), said, (Ok (f, rest), a, (r, h, gives_behind f r)))), behind_such f r p others)

    module _ (line : ℕ) (mid : List Token) (said : FacetOrEnd bytes tokens (Ok ((false, line), mid))) where
      abbrev next : List Token
      next = filter (λ t. nat_lt line t.line) mid

      read_solid : Made Any (AnotherSolid bytes) next → Read before tokens
      read_solid (Err fault, a, p) = (Err fault, (1, (Ok ((false, line), mid), said, (Ok (tt, next), refl, (Err fault, a, refl)))), tt)
      read_solid (Ok (false, rest), a, p) = (Ok ([], rest), (1, (Ok ((false, line), mid), said, (Ok (tt, next), refl, (Ok (false, rest), a, refl)))), All-nil AreCornerPlaces)
      read_solid (Ok (true, rest), a, p) =
          let (r, (turns, h), others) = shorter rest before (solid_taken decimals unit bytes tokens mid (false, line) said line next rest true refl a) in
          (r, (suc turns, (Ok ((false, line), mid), said, (Ok (tt, next), refl, (Ok (true, rest), a, h)))), others)

    read_word : Made Any (FacetOrEnd bytes) tokens → Read before tokens
    read_word (Err fault, a, p) = (Err fault, (1, (Err fault, a, refl)), tt)
    read_word (Ok ((true, line), mid), a, p) = read_facet line mid a ((some_facet before line).made mid)
    read_word (Ok ((false, line), mid), a, p) = read_solid line mid a (solid_made bytes (filter (λ t. nat_lt line t.line) mid))

  some_facets : (n : ℕ) (tokens : List Token) (before : ℕ) → length tokens < n → Read before tokens
  some_facets zero tokens before h = absurd (omega (arith, h))
  some_facets (suc n) tokens before h = read_word tokens (λ rest b less. some_facets n rest b (omega (arith, h, less))) before ((some_facet_or_end bytes).made tokens)

-- ---- the whole
facet_places : (fs : List Three) → All AreCornerPlaces fs → All IsCornerPlace (vertices_of fs)
facet_places [] each = All-nil IsCornerPlace
facet_places (f ∷ fs) each =
    let here : AreCornerPlaces f = each 0 f (omega arith) in
    let others = facet_places fs (λ k d less. each (suc k) d (omega (arith, less))) in
    All-cons IsCornerPlace f.0 (f.1 ∷ f.2 ∷ vertices_of fs) here.0 (All-cons IsCornerPlace f.1 (f.2 ∷ vertices_of fs) here.1 (All-cons IsCornerPlace f.2 (vertices_of fs) here.2 others))

-- the part of the facets that were read
abbrev part_of : Reading (List Three) → Reading Raw
part_of (Ok (fs, left)) = Ok (raw_of fs, left)
part_of (Err fault) = Err fault

gives_part : (r : Reading (List Three)) → After (λ facets. StepGives (raw_of facets)) r (part_of r)
gives_part (Ok (fs, left)) = refl
gives_part (Err fault) = refl

part_such : (r : Reading (List Three)) → ReadsSuch (All AreCornerPlaces) r → ReadsSuch HasCornerPlaces (part_of r)
part_such (Ok (fs, left)) each = facet_places fs each
part_such (Err fault) each = tt

module _ (decimals : ℕ) (unit : Length) (bytes : List ℕ) where
  whole_made : (tokens : List Token) → Made Any (WordLine bytes word.Solid) tokens → Made HasCornerPlaces (Whole decimals unit bytes) tokens
  whole_made tokens (Err fault, a, p) = (Err fault, (0, (Err fault, a, refl)), tt)
  whole_made tokens (Ok (x, left), a, p) =
      let (r, (turns, h), each) = some_facets decimals unit bytes (suc (length left)) left 0 (omega arith) in
      (part_of r, (turns, (Ok (x, left), a, (r, h, gives_part r))), part_such r each)

  -- the bytes say something as a text of ASCII STL, and where they give vertices, corners can be there
  pub some_stl : (r : Result Raw PartFault) × ReadsStl decimals unit bytes r × SaysSuch HasCornerPlaces r
  some_stl = some_text false (Whole decimals unit bytes) bytes HasCornerPlaces (record { made = λ tokens. whole_made tokens ((some_word_line bytes word.Solid).made tokens) })
