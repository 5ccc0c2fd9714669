-- No step leaves more tokens than there were, and a word takes one.
use Rattle.std.proofs.Common.{◌≡◌, inl, inr, ℕ, ◌<◌, ◌≤◌, nat_lt, Bool, true, false, not, if◌then◌else◌, ℤ, List, [], ◌∷◌, length, filter, codes, Ok, Err, refl, arith}
use Rattle.std.proofs.lemmas.List.Filters.{length-filter_both}
use Rattle.lattice.specs.Triple.{Triple}
use Rattle.lex_lines.specs.declared.token.Token.{Token}
use Rattle.dec_text.specs.declared.number.Length.{Length}
use Rattle.weld.specs.declared.fault.PartKind.{PartKind}
use Rattle.weld.specs.declared.fault.PartKind.TheVariants.{TooMany, Expected}
use Rattle.weld.specs.declared.fault.Want.{Want}
use Rattle.weld.specs.declared.fault.Want.TheVariants as want
use Rattle.weld.specs.declared.fault.Word.{Word}
use Rattle.weld.specs.declared.fault.Word.TheVariants as word
use Rattle.part_text.specs.Steps.{Reading, Step, fault_at, StepGives, ◌then◌, After, Computes, Check, checked}
use Rattle.part_text.specs.Words.{text_of, NextToken, is_word, Units}
use Rattle.part_text.specs.Vertices.{end, Coordinate, Vertex, SkipLine}
use Rattle.part_text.proofs.Again.{impossible}
use Rattle.stl_reader.specs.Letters.{letters_of}
use Rattle.stl_reader.specs.Stl.{Keyword, WordLine, Numbers, Opening, Closing, facet_or_end, FacetOrEnd, AnotherSolid, Corner, Corners, Facet}

abbrev tokens_of : {X : Type 0} → Reading X → List Token
tokens_of (Ok (x, tokens)) = tokens
tokens_of (Err fault) = []

-- so many tokens are left at most
abbrev pub Within : {X : Type 0} → ℕ → Reading X → Type 0
Within n r = length (tokens_of r) ≤ n

pub record IsShort {X : Type 0} (step : Step X) : Type 0 where
  pub short : (tokens : List Token) (r : Reading X) → step tokens r → Within (length tokens) r

short_after : {X Y : Type 0} (next : X → Step Y) → ((x : X) → IsShort (next x)) → (n : ℕ) (made : Reading X) (r : Reading Y) → Within n made → After next made r → Within n r
short_after next h n (Ok (x, tokens)) r w p = let k = (h x).short tokens r p in omega (arith, k, w)
short_after next h n (Err fault) r w p = rw p (omega arith)

short_then_at : {X Y : Type 0} (first : Step X) (next : X → Step Y) → IsShort first → ((x : X) → IsShort (next x)) → (tokens : List Token) (r : Reading Y) → (first then next) tokens r → Within (length tokens) r
short_then_at first next f n tokens r (made, a, p) = short_after next n (length tokens) made r (f.short tokens made a) p

pub short_then : {X Y : Type 0} {first : Step X} {next : X → Step Y} → IsShort first → ((x : X) → IsShort (next x)) → IsShort (first then next)
short_then {X} {Y} {first} {next} f n = record { short = short_then_at first next f n }

short_given : {X : Type 0} (x : X) → IsShort (StepGives x)
short_given x = record { short = λ tokens r e. rw e (omega arith) }

checked_at : {X : Type 0} (test : Bool) (x : X) (line : ℕ) (kind : PartKind) (tokens : List Token) → Within (length tokens) (checked test x line kind tokens)
checked_at true x line kind tokens = omega arith
checked_at false x line kind tokens = omega arith

short_check : {X : Type 0} (test : Bool) (x : X) (line : ℕ) (kind : PartKind) → IsShort (Check test x line kind)
short_check test x line kind = record { short = λ tokens r e. rw e (checked_at test x line kind tokens) }

next_at : (line : ℕ) (what : Want) (tokens : List Token) (r : Reading Token) → NextToken line what tokens r → Within (length tokens) r
next_at line what [] r e = rw e (omega arith)
next_at line what (t ∷ tokens) r e = rw e (omega arith)

short_next : (line : ℕ) (what : Want) → IsShort (NextToken line what)
short_next line what = record { short = next_at line what }

units_at : (decimals : ℕ) (unit : Length) (text : List ℕ) (line : ℕ) (tokens : List Token) (r : Reading ℤ) → Units decimals unit text line tokens r → Within (length tokens) r
units_at decimals unit text line tokens r (inl (n, a, e)) = rw e (omega arith)
units_at decimals unit text line tokens r (inr (inl (n, a, e))) = rw e (omega arith)
units_at decimals unit text line tokens r (inr (inr (never, e))) = rw e (omega arith)

short_units : (decimals : ℕ) (unit : Length) (text : List ℕ) (line : ℕ) → IsShort (Units decimals unit text line)
short_units decimals unit text line = record { short = units_at decimals unit text line }

short_coordinate : (decimals : ℕ) (unit : Length) (bytes : List ℕ) → IsShort (Coordinate decimals unit bytes)
short_coordinate decimals unit bytes = short_then (short_next (end bytes) want.Coordinate) (λ t. short_units decimals unit (text_of bytes t) t.line)

short_vertex : (decimals : ℕ) (unit : Length) (bytes : List ℕ) → IsShort (Vertex decimals unit bytes)
short_vertex decimals unit bytes =
    let c = short_coordinate decimals unit bytes in
    short_then c (λ x. short_then c (λ y. short_then c (λ z. short_given (record { x = x; y = y; z = z }))))

-- ---- facets
module _ (bytes : List ℕ) where
  short_keyword : (word : Word) → IsShort (Keyword bytes word)
  short_keyword word = short_then (short_next (end bytes) (want.Keyword word)) (λ t. short_check (is_word (letters_of word) (text_of bytes t)) t.line t.line (Expected word))

  short_numbers : IsShort (Numbers bytes)
  short_numbers =
      let any = short_next (end bytes) want.Normal in
      short_then any (λ _. short_then any (λ _. short_then any (λ _. short_given tt)))

  short_opening : IsShort (Opening bytes)
  short_opening = short_then (short_keyword word.Normal) (λ _. short_then short_numbers (λ _. short_then (short_keyword word.Outer) (λ _. short_then (short_keyword word.Loop) (λ _. short_given tt))))

  short_closing : IsShort (Closing bytes)
  short_closing = short_then (short_keyword word.Endloop) (λ _. short_then (short_keyword word.Endfacet) (λ _. short_given tt))

module _ (decimals : ℕ) (unit : Length) (bytes : List ℕ) where
  short_corner : IsShort (Corner decimals unit bytes)
  short_corner = short_then (short_keyword bytes word.Vertex) (λ _. short_vertex decimals unit bytes)

  short_corners : IsShort (Corners decimals unit bytes)
  short_corners = short_then short_corner (λ a. short_then short_corner (λ b. short_then short_corner (λ c. short_given (a, b, c))))

  short_facet : (before line : ℕ) → IsShort (Facet decimals unit bytes before line)
  short_facet before line =
      short_then (short_check (nat_lt before 20000) line line TooMany) (λ _. short_then (short_opening bytes) (λ _. short_then short_corners (λ f. short_then (short_closing bytes) (λ _. short_given f))))

-- ---- lines
filter_within : (p : Token → Bool) (tokens : List Token) → length (filter p tokens) ≤ length tokens
filter_within p tokens = omega (arith, length-filter_both p (λ t. not (p t)) (λ t. refl) tokens)

short_skip : (line : ℕ) → IsShort (SkipLine line)
short_skip line = record { short = λ tokens r e. rw e (filter_within (λ t. nat_lt line t.line) tokens) }

module _ (bytes : List ℕ) where
  short_line : IsShort (WordLine bytes word.Solid)
  short_line = short_then (short_keyword bytes word.Solid) short_skip

  solid_at : (tokens : List Token) (r : Reading Bool) → AnotherSolid bytes tokens r → Within (length tokens) r
  solid_at [] r p = (short_given false).short [] r p
  solid_at (t ∷ tokens) r p = (short_then short_line (λ _. short_given true)).short (t ∷ tokens) r p

  -- ---- a word
  said_at : (a b : Bool) (line : ℕ) (tokens : List Token) → Within {X = Bool × ℕ} (length tokens) (if a then Ok ((true, line), tokens) else (if b then Ok ((false, line), tokens) else Err (fault_at line (Expected word.Facet))))
  said_at true b line tokens = omega arith
  said_at false true line tokens = omega arith
  said_at false false line tokens = omega arith

  said : (t : Token) → IsShort (Computes (facet_or_end bytes t))
  said t = record { short = λ tokens r e. rw e (said_at (is_word (letters_of word.Facet) (text_of bytes t)) (is_word (codes "endsolid") (text_of bytes t)) t.line tokens) }

  next_taken : (line : ℕ) (what : Want) (t : Token) (tokens : List Token) (r : Reading Token) → NextToken line what (t ∷ tokens) r → Within (length tokens) r
  next_taken line what t tokens r e = rw e (omega arith)

  pub word_taken : (tokens mid : List Token) (w : Bool × ℕ) → FacetOrEnd bytes tokens (Ok (w, mid)) → length mid < length tokens
  word_taken [] mid w (Ok (t, rest), a, p) = impossible a
  word_taken [] mid w (Err fault, a, p) = impossible p
  word_taken (t ∷ tokens) mid w (made, a, p) =
      let taken : Within (length tokens) made = next_taken (end bytes) (want.Keyword word.Facet) t tokens made a in
      let left : length mid ≤ length tokens = short_after (λ u. Computes (facet_or_end bytes u)) said (length tokens) made (Ok (w, mid)) taken p in
      omega (arith, left)

-- ---- a turn
module _ (decimals : ℕ) (unit : Length) (bytes : List ℕ) (tokens mid : List Token) (w : Bool × ℕ) (word : FacetOrEnd bytes tokens (Ok (w, mid))) where
  pub facet_taken : (before line : ℕ) (f : Triple × Triple × Triple) (rest : List Token) → Facet decimals unit bytes before line mid (Ok (f, rest)) → length rest < length tokens
  facet_taken before line f rest facet =
      let taken = word_taken bytes tokens mid w word in
      let left = (short_facet decimals unit bytes before line).short mid (Ok (f, rest)) facet in
      omega (arith, taken, left)

  pub solid_taken : (line : ℕ) (next rest : List Token) (more : Bool) → next ≡ filter (λ t. nat_lt line t.line) mid → AnotherSolid bytes next (Ok (more, rest)) → length rest < length tokens
  solid_taken line next rest more skipped solid =
      let taken = word_taken bytes tokens mid w word in
      let passed : length next ≤ length mid = rw skipped (filter_within (λ t. nat_lt line t.line) mid) in
      let left = solid_at bytes next (Ok (more, rest)) solid in
      omega (arith, taken, passed, left)
