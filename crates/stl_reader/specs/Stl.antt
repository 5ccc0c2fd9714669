-- What a text of ASCII STL says: the corners of its facets, or its one fault.
use Rattle.std.specs.Prelude.{ℕ, zero, suc, ◌+◌, ◌*◌, Bool, true, false, nat_lt, if◌then◌else◌, List, [], ◌∷◌, length, map, Result, Ok, Err, codes}
use Rattle.std.specs.List.{flat_map, range_with_len}
use Rattle.lattice.specs.declared.soup.Tri.{Tri}
use Rattle.lattice.specs.Triple.{Triple}
use Rattle.lex_lines.specs.declared.token.Token.{Token}
use Rattle.dec_text.specs.declared.number.Length.{Length}
use Rattle.weld.specs.declared.fault.PartError.{PartError}
use Rattle.weld.specs.declared.fault.PartFault.{PartFault}
use Rattle.weld.specs.declared.fault.PartKind.TheVariants.{TooMany, Expected}
use Rattle.weld.specs.declared.fault.Want.TheVariants as want
use Rattle.weld.specs.declared.fault.Word.{Word}
use Rattle.weld.specs.declared.fault.Word.TheVariants as word
use Rattle.weld.specs.declared.raw_part.RawPart.{RawPart}
use Rattle.weld.specs.Raw.{Raw}
use Rattle.part_text.specs.Steps.{Reading, Step, fault_at, StepGives, ◌then◌, Computes, Check}
use Rattle.part_text.specs.Texts.{ReadsText, AnswersText}
use Rattle.part_text.specs.Words.{text_of, NextToken, is_word}
use Rattle.part_text.specs.Vertices.{end, Vertex, SkipLine}
use Rattle.stl_reader.specs.Letters.{letters_of}

-- ---- words
module _ (bytes : List ℕ) where
  -- this word, and the line that it stands on
  abbrev pub Keyword : Word → Step ℕ
  Keyword word = NextToken (end bytes) (want.Keyword word) then λ t. Check (is_word (letters_of word) (text_of bytes t)) t.line t.line (Expected word)

  -- a word and the rest of its line
  abbrev pub WordLine : Word → Step (Unit {0})
  WordLine word = Keyword word then λ line. SkipLine line

  -- any token of a normal
  abbrev pub Any : Step Token
  Any = NextToken (end bytes) want.Normal

  -- a normal: three tokens
  abbrev pub Numbers : Step (Unit {0})
  Numbers = Any then λ _. Any then λ _. Any then λ _. StepGives tt

  -- what stands before the corners of a facet, behind the word `facet`
  abbrev pub Opening : Step (Unit {0})
  Opening = Keyword word.Normal then λ _. Numbers then λ _. Keyword word.Outer then λ _. Keyword word.Loop then λ _. StepGives tt

  -- and what stands behind them
  abbrev pub Closing : Step (Unit {0})
  Closing = Keyword word.Endloop then λ _. Keyword word.Endfacet then λ _. StepGives tt

  -- true for `facet`, false for `endsolid`, and the line of the word
  abbrev pub facet_or_end : Token → List Token → Reading (Bool × ℕ)
  facet_or_end t tokens =
      if is_word (letters_of word.Facet) (text_of bytes t) then Ok ((true, t.line), tokens)
      else (if is_word (codes "endsolid") (text_of bytes t) then Ok ((false, t.line), tokens) else Err (fault_at t.line (Expected word.Facet)))

  -- whether another facet follows
  abbrev pub FacetOrEnd : Step (Bool × ℕ)
  FacetOrEnd = NextToken (end bytes) (want.Keyword word.Facet) then λ t. Computes (facet_or_end t)

  -- behind an `endsolid`: whether another solid follows, with the rest of its first line
  abbrev pub AnotherSolid : Step Bool
  AnotherSolid [] r = StepGives false [] r
  AnotherSolid (t ∷ tokens) r = (WordLine word.Solid then λ _. StepGives true) (t ∷ tokens) r

-- ---- facets
-- one step or the other
abbrev pub Either : {X : Type 0} → Bool → Step X → Step X → Step X
Either true first second = first
Either false first second = second

module _ (decimals : ℕ) (unit : Length) (bytes : List ℕ) where
  -- a corner of a facet
  abbrev pub Corner : Step Triple
  Corner = Keyword bytes word.Vertex then λ _. Vertex decimals unit bytes

  abbrev pub Corners : Step (Triple × Triple × Triple)
  Corners = Corner then λ a. Corner then λ b. Corner then λ c. StepGives (a, b, c)

  -- the corners of a facet whose first word is on this line, where there are so many facets before
  abbrev pub Facet : ℕ → ℕ → Step (Triple × Triple × Triple)
  Facet before line = Check (nat_lt before 20000) line line TooMany then λ _. Opening bytes then λ _. Corners then λ f. Closing bytes then λ _. StepGives f

  -- the facets from where `facet` or `endsolid` may stand up to the text's end, in so many turns at most; there are so many before
  abbrev pub Facets : ℕ → ℕ → Step (List (Triple × Triple × Triple))
  Facets zero before = λ tokens r. ⊥
  Facets (suc turns) before =
      FacetOrEnd bytes then λ w. Either w.0
      (Facet before w.1 then λ f. Facets turns (before + 1) then λ others. StepGives (f ∷ others))
      (SkipLine w.1 then λ _. AnotherSolid bytes then λ more. Either more (Facets turns before) (StepGives []))

-- ---- the whole
-- the corners of all facets, one after the other
abbrev pub vertices_of : List (Triple × Triple × Triple) → List Triple
vertices_of facets = flat_map (λ f. f.0 ∷ f.1 ∷ f.2 ∷ []) facets

-- the triangle of the facet with this number
abbrev pub triangle_at : ℕ → Tri
triangle_at i = record { a = 3 * i; b = 3 * i + 1; c = 3 * i + 2 }

abbrev pub raw_of : List (Triple × Triple × Triple) → Raw
raw_of facets = record { vertices = vertices_of facets; triangles = map triangle_at (range_with_len 0 (length facets)) }

module _ (decimals : ℕ) (unit : Length) (bytes : List ℕ) where
  abbrev pub Whole : Step Raw
  Whole tokens r = (turns : ℕ) × (WordLine bytes word.Solid then λ _. Facets decimals unit bytes turns 0 then λ facets. StepGives (raw_of facets)) tokens r

  -- what the text says
  abbrev pub ReadsStl : Result Raw PartFault → Type 0
  ReadsStl = ReadsText false Whole bytes

  -- the answer is what the text says, or want of memory
  abbrev pub AnswersStl : Result RawPart PartError → Type 0
  AnswersStl = AnswersText false Whole bytes
