-- A text of ASCII STL has one reading.
use Rattle.std.proofs.Common.{◌≡◌, ℕ, zero, suc, ◌+◌, nat_lt, Bool, true, false, List, [], ◌∷◌, Result}
use Rattle.lex_lines.specs.declared.token.Token.{Token}
use Rattle.dec_text.specs.declared.number.Length.{Length}
use Rattle.weld.specs.Raw.{Raw}
use Rattle.weld.specs.declared.fault.PartFault.{PartFault}
use Rattle.weld.specs.declared.fault.PartKind.TheVariants.{TooMany, Expected}
use Rattle.weld.specs.declared.fault.Want.TheVariants as want
use Rattle.weld.specs.declared.fault.Word.{Word}
use Rattle.weld.specs.declared.fault.Word.TheVariants as word
use Rattle.part_text.specs.Steps.{Reading, Step, checked}
use Rattle.part_text.specs.Words.{text_of, is_word}
use Rattle.part_text.specs.Vertices.{end}
use Rattle.part_text.proofs.Single.{AreSame, IsSingle, one_computed, one_given, same_then, one_then, one_next, one_vertex, one_skip}
use Rattle.part_text.proofs.WholeTexts.{one_text}
use Rattle.stl_reader.specs.Letters.{letters_of}
use Rattle.stl_reader.specs.Stl.{Keyword, WordLine, Numbers, Opening, Closing, facet_or_end, FacetOrEnd, AnotherSolid, Either, Corner, Corners, Facet, Facets, raw_of, Whole, ReadsStl}

-- ---- words
module _ (bytes : List ℕ) where
  one_keyword : (word : Word) → IsSingle (Keyword bytes word)
  one_keyword word = one_then (one_next (end bytes) (want.Keyword word)) (λ t. one_computed (checked (is_word (letters_of word) (text_of bytes t)) t.line t.line (Expected word)))

  one_line : (word : Word) → IsSingle (WordLine bytes word)
  one_line word = one_then (one_keyword word) one_skip

  one_numbers : IsSingle (Numbers bytes)
  one_numbers =
      let any = one_next (end bytes) want.Normal in
      one_then any (λ _. one_then any (λ _. one_then any (λ _. one_given tt)))

  one_opening : IsSingle (Opening bytes)
  one_opening = one_then (one_keyword word.Normal) (λ _. one_then one_numbers (λ _. one_then (one_keyword word.Outer) (λ _. one_then (one_keyword word.Loop) (λ _. one_given tt))))

  one_closing : IsSingle (Closing bytes)
  one_closing = one_then (one_keyword word.Endloop) (λ _. one_then (one_keyword word.Endfacet) (λ _. one_given tt))

  one_facet_or_end : IsSingle (FacetOrEnd bytes)
  one_facet_or_end = one_then (one_next (end bytes) (want.Keyword word.Facet)) (λ t. one_computed (facet_or_end bytes t))

  solid_at : (tokens : List Token) (r s : Reading Bool) → AnotherSolid bytes tokens r → AnotherSolid bytes tokens s → r ≡ s
  solid_at [] r s p q = (one_given false).one [] r s p q
  solid_at (t ∷ tokens) r s p q = (one_then (one_line word.Solid) (λ _. one_given true)).one (t ∷ tokens) r s p q

  one_solid : IsSingle (AnotherSolid bytes)
  one_solid = record { one = solid_at }

-- ---- facets
same_either : {X : Type 0} (b : Bool) (first other second last : Step X) → AreSame first other → AreSame second last → AreSame (Either b first second) (Either b other last)
same_either true first other second last f s = f
same_either false first other second last f s = s

module _ (decimals : ℕ) (unit : Length) (bytes : List ℕ) where
  one_corner : IsSingle (Corner decimals unit bytes)
  one_corner = one_then (one_keyword bytes word.Vertex) (λ _. one_vertex decimals unit bytes)

  one_corners : IsSingle (Corners decimals unit bytes)
  one_corners = one_then one_corner (λ a. one_then one_corner (λ b. one_then one_corner (λ c. one_given (a, b, c))))

  one_facet : (before line : ℕ) → IsSingle (Facet decimals unit bytes before line)
  one_facet before line =
      one_then (one_computed (checked (nat_lt before 20000) line line TooMany)) (λ _. one_then (one_opening bytes) (λ _. one_then one_corners (λ f. one_then (one_closing bytes) (λ _. one_given f))))

  -- more turns change nothing
  same_facets : (turns more before : ℕ) → AreSame (Facets decimals unit bytes turns before) (Facets decimals unit bytes more before)
  same_facets zero more before = record { one = λ tokens r s p q. absurd p }
  same_facets (suc turns) zero before = record { one = λ tokens r s p q. absurd q }
  same_facets (suc turns) (suc more) before =
      same_then (one_facet_or_end bytes) (λ w. same_either w.0 _ _ _ _
      (same_then (one_facet before w.1) (λ f. same_then (same_facets turns more (before + 1)) (λ others. one_given (f ∷ others))))
      (same_then (one_skip w.1) (λ _. same_then (one_solid bytes) (λ b. same_either b _ _ _ _ (same_facets turns more before) (one_given [])))))

  -- ---- the whole
  whole_at : (tokens : List Token) (r s : Reading Raw) → Whole decimals unit bytes tokens r → Whole decimals unit bytes tokens s → r ≡ s
  whole_at tokens r s (turns, p) (more, q) =
      (same_then (one_line bytes word.Solid) (λ _. same_then (same_facets turns more 0) (λ facets. one_given (raw_of facets)))).one tokens r s p q

  one_whole : IsSingle (Whole decimals unit bytes)
  one_whole = record { one = whole_at }

  -- what a text says is one thing
  pub only_reading : (r s : Result Raw PartFault) → ReadsStl decimals unit bytes r → ReadsStl decimals unit bytes s → r ≡ s
  only_reading r s = one_text false (Whole decimals unit bytes) bytes one_whole r s
