-- The lines of a list are those of its page and strokes.
use Rattle.std.proofs.Common.{◌≡◌, ℕ, Bool, true, false, List, [], ◌∷◌, ◌++◌, codes, ℤ, pos, refl, sym, ◌∙◌, ap, append_assoc, arith, rules, lit<}
use Rattle.std.specs.Prelude.{if◌then◌else◌, ◌==◌}
use Rattle.std.specs.List.{concat}
use Rattle.std.specs.Fmt.{signed_decimal}
use Rattle.std.proofs.lemmas.Bool.{ne_eqb}
use Rattle.sheet_plan.specs.declared.sheet.Stroke.{Stroke}
use Rattle.sheet_plan.specs.LineKinds.{word_of}
use Rattle.plot_rack.specs.Lists.{frac_text, column, page_line, stroke_line}
use Rattle.piece_verify.specs.Columns.{IsFree}
use Rattle.piece_verify.specs.ListLines.{IsListedPage, IsListed}
use Rattle.piece_verify.proofs.Parts.{free-append}
use Rattle.piece_verify.proofs.Heads.{free_number, free_short, free_word}
use Rattle.piece_verify.proofs.Numerals.{free_natural}
use Rattle.piece_verify.specs.Lists.{begun_by, pieces_of, lines_of}

-- ---- one line and what stands behind it
-- bytes without a line feed, and one at the end
pub record IsLine (line : List ℕ) : Type 0 where
  pub bytes : List ℕ
  pub free : IsFree 10 bytes
  pub is : line ≡ bytes ++ 10 ∷ []

pieces_behind : (bytes rest : List ℕ) → IsFree 10 bytes → pieces_of (bytes ++ 10 ∷ rest) ≡ (bytes ++ 10 ∷ []) ∷ pieces_of rest
pieces_behind [] rest free = refl
pieces_behind (byte ∷ bytes) rest free = rw (ne_eqb byte 10 free.0, pieces_behind bytes rest free.1) refl

pub pieces_of_line : (line rest : List ℕ) → IsLine line → pieces_of (line ++ rest) ≡ line ∷ pieces_of rest
pieces_of_line line rest l =
    ap (λ (t : List ℕ). pieces_of (t ++ rest)) l.is ∙ ap pieces_of (append_assoc l.bytes (10 ∷ []) rest) ∙ pieces_behind l.bytes rest l.free
    ∙ ap (λ (t : List ℕ). t ∷ pieces_of rest) (sym l.is)

begun_joined : (byte : ℕ) (lines : List (List ℕ)) → concat (begun_by byte lines) ≡ byte ∷ concat lines
begun_joined byte [] = refl
begun_joined byte (line ∷ lines) = refl

by_feed : (b : Bool) (byte : ℕ) (lines : List (List ℕ)) → concat (if b then (byte ∷ []) ∷ lines else begun_by byte lines) ≡ byte ∷ concat lines
by_feed true byte lines = refl
by_feed false byte lines = begun_joined byte lines

-- the pieces of a text are all of it
pub pieces_joined : (text : List ℕ) → concat (pieces_of text) ≡ text
pieces_joined [] = refl
pieces_joined (byte ∷ text) = by_feed (byte == 10) byte (pieces_of text) ∙ ap (λ (t : List ℕ). byte ∷ t) (pieces_joined text)

lines_behind : (bytes rest : List ℕ) → lines_of (bytes ++ 10 ∷ rest) ≡ pieces_of (bytes ++ 10 ∷ rest)
lines_behind [] rest = refl
lines_behind (byte ∷ bytes) rest = refl

pub lines_of_line : (line rest : List ℕ) → IsLine line → lines_of (line ++ rest) ≡ line ∷ pieces_of rest
lines_of_line line rest l =
    ap (λ (t : List ℕ). lines_of (t ++ rest)) l.is ∙ ap lines_of (append_assoc l.bytes (10 ∷ []) rest) ∙ lines_behind l.bytes rest
    ∙ ap pieces_of (sym (append_assoc l.bytes (10 ∷ []) rest)) ∙ ap (λ (t : List ℕ). pieces_of (t ++ rest)) (sym l.is) ∙ pieces_of_line line rest l

-- ---- the lines of a page and of a stroke
free_column : (text : List ℕ) → IsFree 10 text → IsFree 10 (column text)
free_column text h = ((λ e. omega arith), h)

pub a_page_line : (page : ℤ × ℤ) → IsListedPage page → IsLine (page_line page)
a_page_line page h = record {
  bytes = codes "page" ++ column (signed_decimal page.0) ++ column (signed_decimal page.1);
  free =
      free-append 10 (codes "page" ++ column (signed_decimal page.0)) (column (signed_decimal page.1))
      (free-append 10 (codes "page") (column (signed_decimal page.0)) (search rules) (free_column (signed_decimal page.0) (free_number 10 (lit< tt) page.0 h.0)))
      (free_column (signed_decimal page.1) (free_number 10 (lit< tt) page.1 h.1));
  is = refl;
}

more : (front text : List ℕ) → IsFree 10 front → IsFree 10 text → IsFree 10 (front ++ column text)
more front text h k = free-append 10 front (column text) h (free_column text k)

pub a_stroke_line : (s : Stroke) → IsListed s → IsLine (stroke_line s)
a_stroke_line s h =
    let a = more (signed_decimal (pos s.view)) (word_of s.mark) (free_natural 10 s.view (lit< tt) (omega (arith, h.view))) (free_word 10 (lit< tt) s.mark) in
    let b = more _ (frac_text s.u1) a (free_short 10 (lit< tt) s.u1 h.u1) in
    let c = more _ (frac_text s.v1) b (free_short 10 (lit< tt) s.v1 h.v1) in
    let d = more _ (frac_text s.u2) c (free_short 10 (lit< tt) s.u2 h.u2) in
    let e = more _ (frac_text s.v2) d (free_short 10 (lit< tt) s.v2 h.v2) in
    let f = more _ (signed_decimal s.x1) e (free_number 10 (lit< tt) s.x1 h.x1) in
    let g = more _ (signed_decimal s.y1) f (free_number 10 (lit< tt) s.y1 h.y1) in
    let i = more _ (signed_decimal s.x2) g (free_number 10 (lit< tt) s.x2 h.x2) in
    let j = more _ (signed_decimal s.y2) i (free_number 10 (lit< tt) s.y2 h.y2) in
    record { bytes = _; free = j; is = refl }
