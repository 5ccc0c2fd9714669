-- Texts that grow by a stroke in front of their endings.
use Rattle.std.proofs.Common.{◌≡◌, ℕ, ℤ, List, [], ◌∷◌, ◌++◌, codes, ◌-◌, length, Option, Some, None, option_map, refl, sym, ap, ◌∙◌, append_assoc}
use native.Mathlib.Numerals.{unary_clauses}
use Rattle.std.proofs.lemmas.List.{flat_map_more}
use Rattle.std.specs.List.{flat_map}
use Rattle.std.specs.Prelude.{slice_get, IsSome}
use Rattle.sheet_plan.specs.declared.sheet.Mark.{Mark}
use Rattle.sheet_plan.specs.declared.sheet.Stroke.{Stroke}
use Rattle.plot_rack.specs.Hpgl.{choice_text, move_text, moves_after, hpgl_of}
use Rattle.plot_rack.specs.inner.Marks.{last_mark}
use Rattle.plot_rack.specs.Dxf.{line_text, dxf_of}

pub some_of : {A : Type 0} (o : Option A) → IsSome o → (x : A) × (o ≡ Some x)
some_of None h = absurd (cc)
some_of (Some x) h = (x, refl)

-- ---- the mark of the last stroke
last_after : (before : Option Mark) (s : Stroke) (strokes : List Stroke) → last_mark before (s ∷ strokes) ≡ option_map (λ t. t.mark) (slice_get (s ∷ strokes) (length strokes))
last_after before s [] = refl
last_after before s (t ∷ strokes) = last_after (Some s.mark) t strokes

pub mark_of_last : (strokes : List Stroke) → last_mark None strokes ≡ option_map (λ t. t.mark) (slice_get strokes (length strokes - 1))
mark_of_last [] = refl
mark_of_last (s ∷ strokes) = simp unary_clauses (last_after None s strokes)

-- ---- the moves with one more
moves_more : (before : Option Mark) (height : ℤ) (strokes : List Stroke) (s : Stroke)
    → moves_after before height (strokes ++ s ∷ []) ≡ moves_after before height strokes ++ (choice_text (last_mark before strokes) s.mark ++ move_text height s)
moves_more before height [] s = simp append_assoc refl
moves_more before height (v ∷ strokes) s =
    ap (λ (text : List ℕ). choice_text before v.mark ++ move_text height v ++ text) (moves_more (Some v.mark) height strokes s)
    ∙ sym (append_assoc (choice_text before v.mark ++ move_text height v) (moves_after (Some v.mark) height strokes) (choice_text (last_mark (Some v.mark) strokes) s.mark ++ move_text height s))

-- ---- a text with one stroke more in front of its ending
pub hpgl_more : (page : ℤ × ℤ) (strokes all : List Stroke) (s : Stroke) (text more new : List ℕ) → text ≡ hpgl_of page strokes
    → more ≡ choice_text (last_mark None strokes) s.mark ++ move_text page.1 s → all ≡ strokes ++ s ∷ []
    → ((body : List ℕ) → text ≡ body ++ codes "PU0,0;\n" → new ≡ body ++ more ++ codes "PU0,0;\n") → new ≡ hpgl_of page all
hpgl_more page strokes all s text more new written is added ends =
    ends (codes "IN;" ++ moves_after None page.1 strokes) written
    ∙ ap (λ (m : List ℕ). codes "IN;" ++ moves_after None page.1 strokes ++ m ++ codes "PU0,0;\n") is
    ∙ ap (λ (m : List ℕ). m ++ codes "PU0,0;\n") (append_assoc (codes "IN;") (moves_after None page.1 strokes) (choice_text (last_mark None strokes) s.mark ++ move_text page.1 s))
    ∙ ap (λ (m : List ℕ). codes "IN;" ++ m ++ codes "PU0,0;\n") (sym (moves_more None page.1 strokes s))
    ∙ ap (hpgl_of page) (sym added)

pub dxf_more : (page : ℤ × ℤ) (strokes all : List Stroke) (s : Stroke) (text more new : List ℕ) → text ≡ dxf_of page strokes → more ≡ line_text page.1 s → all ≡ strokes ++ s ∷ []
    → ((body : List ℕ) → text ≡ body ++ codes "0\nENDSEC\n0\nEOF\n" → new ≡ body ++ more ++ codes "0\nENDSEC\n0\nEOF\n") → new ≡ dxf_of page all
dxf_more page strokes all s text more new written is added ends =
    ends (codes "0\nSECTION\n2\nENTITIES\n" ++ flat_map (line_text page.1) strokes) written
    ∙ ap (λ (m : List ℕ). codes "0\nSECTION\n2\nENTITIES\n" ++ flat_map (line_text page.1) strokes ++ m ++ codes "0\nENDSEC\n0\nEOF\n") is
    ∙ ap (λ (m : List ℕ). m ++ codes "0\nENDSEC\n0\nEOF\n") (flat_map_more (line_text page.1) (codes "0\nSECTION\n2\nENTITIES\n") strokes s)
    ∙ ap (dxf_of page) (sym added)
