-- What tests of a word or of a count make.
use Rattle.std.proofs.Common.{◌≡◌, ℕ, Bool, true, false, nat_lt, List, ◌∷◌, filter, Ok, Err, codes, refl, sym, ap, ◌∙◌, subst}
use Rattle.lex_lines.specs.declared.token.Token.{Token}
use Rattle.weld.specs.declared.fault.PartKind.{PartKind}
use Rattle.weld.specs.declared.fault.PartKind.TheVariants.{Expected}
use Rattle.weld.specs.declared.fault.Word.TheVariants as word
use Rattle.part_text.specs.Steps.{fault_at, Computes, Check}
use Rattle.part_text.specs.Words.{text_of, is_word}
use Rattle.stl_reader.specs.Letters.{letters_of}
use Rattle.part_text.specs.Vertices.{SkipLine}
use Rattle.weld.specs.declared.fault.PartFault.{PartFault}
use Rattle.stl_reader.specs.Stl.{facet_or_end, AnotherSolid}

pub passes : {X : Type 0} (test : Bool) (x : X) (line : ℕ) (kind : PartKind) (left : List Token) → test ≡ true → Check test x line kind left (Ok (x, left))
passes test x line kind left e = subst (λ (b : Bool). Check b x line kind left (Ok (x, left))) (sym e) refl

pub fails : {X : Type 0} (test : Bool) (x : X) (line : ℕ) (kind : PartKind) (left : List Token) → test ≡ false → Check test x line kind left (Err (fault_at line kind))
fails test x line kind left e = subst (λ (b : Bool). Check b x line kind left (Err (fault_at line kind))) (sym e) refl

-- ---- `facet` or `endsolid`
module _ (bytes : List ℕ) (t : Token) (left : List Token) where
  pub is_facet : is_word (letters_of word.Facet) (text_of bytes t) ≡ true → Computes (facet_or_end bytes t) left (Ok ((true, t.line), left))
  is_facet e = rw e refl

  pub is_end : is_word (letters_of word.Facet) (text_of bytes t) ≡ false → is_word (codes "endsolid") (text_of bytes t) ≡ true → Computes (facet_or_end bytes t) left (Ok ((false, t.line), left))
  is_end e h = rw (e, h) refl

  pub is_neither : is_word (letters_of word.Facet) (text_of bytes t) ≡ false → is_word (codes "endsolid") (text_of bytes t) ≡ false → Computes (facet_or_end bytes t) left (Err (fault_at t.line (Expected word.Facet)))
  is_neither e h = rw (e, h) refl

-- ---- behind `endsolid`
pub skipped : (line now : ℕ) (mid rest : List Token) → now ≡ line → rest ≡ filter (λ t. nat_lt now t.line) mid → SkipLine line mid (Ok (tt, rest))
skipped line now mid rest same passed = ap (λ (l : List Token). Ok (tt, l)) (passed ∙ ap (λ (n : ℕ). filter (λ t. nat_lt n t.line) mid) same)

module _ (bytes : List ℕ) (start left : List Token) (t : Token) (first : start ≡ t ∷ left) where
  pub no_solid : is_word (letters_of word.Solid) (text_of bytes t) ≡ false → AnotherSolid bytes start (Err (fault_at t.line (Expected word.Solid)))
  no_solid e =
      let fault : PartFault = fault_at t.line (Expected word.Solid) in
      subst (λ tokens. AnotherSolid bytes tokens (Err fault)) (sym first) (Err fault, (Err fault, (Ok (t, left), refl, fails _ _ _ _ _ e), refl), refl)

  pub one_solid : (now : ℕ) (rest : List Token) → is_word (letters_of word.Solid) (text_of bytes t) ≡ true → now ≡ t.line → rest ≡ filter (λ t. nat_lt now t.line) left → AnotherSolid bytes start (Ok (true, rest))
  one_solid now rest e same passed =
      subst (λ tokens. AnotherSolid bytes tokens (Ok (true, rest))) (sym first)
      (Ok (tt, rest), (Ok (t.line, left), (Ok (t, left), refl, passes _ _ _ _ _ e), skipped t.line now left rest same passed), refl)
