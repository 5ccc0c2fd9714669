-- Strokes with one line have one entry.
use Rattle.std.proofs.Common.{◌≡◌, ◌⊎◌, inl, inr, ℕ, ◌<◌, ◌^◌, List, [], ◌∷◌, ◌++◌, ℤ, ◌<ℤ◌, pos, unsigned_abs, refl, sym, ◌∙◌, ap, subst, append-nil, lit<}
use Rattle.std.specs.Fmt.{decimal, signed_decimal}
use Rattle.exact_frac.specs.declared.Frac.{Frac}
use Rattle.sheet_plan.proofs.OneKinds.{mark_of_word}
use Rattle.sheet_plan.specs.declared.sheet.Stroke.{Stroke}
use Rattle.sheet_plan.specs.LineKinds.{word_of}
use Rattle.plot_rack.specs.Lists.{frac_text, stroke_line}
use Rattle.piece_verify.specs.declared.line.Entry.{Entry}
use Rattle.piece_verify.specs.Columns.{IsFree}
use Rattle.piece_verify.specs.Values.{IsSmall}
use Rattle.piece_verify.specs.ListLines.{IsListed, IsSameFrac, IsEntryOf}
use Rattle.piece_verify.proofs.Parts.{not_free, same_parts}
use Rattle.piece_verify.proofs.Numerals.{free_natural, same_natural, same_whole}
use Rattle.piece_verify.proofs.Ratios.{IsWhole, IsParted, forms, free_of_line, den_size, positive_size}
use Rattle.piece_verify.proofs.Heads.{free_word, free_short}
use Rattle.piece_verify.proofs.ListLines.{written, view_size}

-- ---- a fraction has a text of its own
record AreSame (a b c d : ℤ) : Type 0 where
  first : a ≡ c
  second : b ≡ d

no_line : (n d : ℤ) (text other : List ℕ) → unsigned_abs n < 2 ^ 104 → text ≡ signed_decimal n → text ≡ other ++ 47 ∷ decimal (unsigned_abs d) → ⊥
no_line n d text other size is parted = not_free 47 other (decimal (unsigned_abs d)) (subst (IsFree 47) (sym is ∙ parted) (free_of_line n size))

same_texts : (a b c d : ℤ) (text : List ℕ) → pos 0 <ℤ b → pos 0 <ℤ d → unsigned_abs a < 2 ^ 104 → unsigned_abs c < 2 ^ 104 → unsigned_abs b < 2 ^ 70 → unsigned_abs d < 2 ^ 70
    → IsWhole a b text ⊎ IsParted a b text → IsWhole c d text ⊎ IsParted c d text → AreSame a b c d
same_texts a b c d text p q ha hc hb hd (inl x) (inl y) = record { first = same_whole a c ha hc (sym x.is ∙ y.is); second = x.one ∙ sym y.one }
same_texts a b c d text p q ha hc hb hd (inl x) (inr y) = absurd (no_line a d text (signed_decimal c) ha x.is y.is)
same_texts a b c d text p q ha hc hb hd (inr x) (inl y) = absurd (no_line c b text (signed_decimal a) hc y.is x.is)
same_texts a b c d text p q ha hc hb hd (inr x) (inr y) =
    let parts =
    same_parts 47 (signed_decimal a) (decimal (unsigned_abs b)) (signed_decimal c) (decimal (unsigned_abs d)) (free_of_line a ha) (free_of_line c hc) (sym x.is ∙ y.is) in
    let sizes = same_natural (unsigned_abs b) (unsigned_abs d) (den_size (unsigned_abs b) hb) (den_size (unsigned_abs d) hd) parts.1 in
    record { first = same_whole a c ha hc parts.0; second = positive_size b p ∙ ap pos sizes ∙ sym (positive_size d q) }

pub same_frac : (f g : Frac) → IsSmall f → IsSmall g → frac_text f ≡ frac_text g → IsSameFrac f g
same_frac f g h k e =
    let same = same_texts f.num f.den g.num g.den (frac_text f) f.positive g.positive h.num k.num h.den k.den (forms f.num f.den (frac_text f) f.positive refl) (forms g.num
    g.den (frac_text f) g.positive e) in
    (same.first, same.second)

-- ---- the columns of one line
-- what a line says of a stroke
record IsAlike (s t : Stroke) : Type 0 where
  view : s.view ≡ t.view
  mark : s.mark ≡ t.mark
  u1 : IsSameFrac s.u1 t.u1
  v1 : IsSameFrac s.v1 t.v1
  u2 : IsSameFrac s.u2 t.u2
  v2 : IsSameFrac s.v2 t.v2

tail_of : Stroke → List ℕ
tail_of s = signed_decimal s.x1 ++ 32 ∷ (signed_decimal s.y1 ++ 32 ∷ (signed_decimal s.x2 ++ 32 ∷ (signed_decimal s.y2 ++ 10 ∷ [])))

line_of : (s : Stroke)
    → stroke_line s ≡ decimal s.view ++ 32 ∷ (word_of s.mark ++ 32 ∷ (frac_text s.u1 ++ 32 ∷ (frac_text s.v1 ++ 32 ∷ (frac_text s.u2 ++ 32 ∷ (frac_text s.v2 ++ 32 ∷ tail_of s)))))
unfolding tail_of
line_of s = sym (append-nil (stroke_line s)) ∙ written (decimal s.view) (word_of s.mark) (frac_text s.u1) (frac_text s.v1) (frac_text s.u2) (frac_text s.v2)
    (signed_decimal s.x1) (signed_decimal s.y1) (signed_decimal s.x2) (signed_decimal s.y2) []

free_fraction : (f : Frac) → IsSmall f → IsFree 32 (frac_text f)
free_fraction f h = free_short 32 (lit< tt) f h

alike : (s t : Stroke) → IsListed s → IsListed t → stroke_line s ≡ stroke_line t → IsAlike s t
alike s t h k e =
    let a = same_parts 32 (decimal s.view) _ (decimal t.view) _ (free_natural 32 s.view (lit< tt) (view_size s.view h.view)) (free_natural 32 t.view (lit< tt)
    (view_size t.view k.view)) (sym (line_of s) ∙ e ∙ line_of t) in
    let b = same_parts 32 (word_of s.mark) _ (word_of t.mark) _ (free_word 32 (lit< tt) s.mark) (free_word 32 (lit< tt) t.mark) a.1 in
    let c = same_parts 32 (frac_text s.u1) _ (frac_text t.u1) _ (free_fraction s.u1 h.u1) (free_fraction t.u1 k.u1) b.1 in
    let d = same_parts 32 (frac_text s.v1) _ (frac_text t.v1) _ (free_fraction s.v1 h.v1) (free_fraction t.v1 k.v1) c.1 in
    let f = same_parts 32 (frac_text s.u2) _ (frac_text t.u2) _ (free_fraction s.u2 h.u2) (free_fraction t.u2 k.u2) d.1 in
    let g = same_parts 32 (frac_text s.v2) _ (frac_text t.v2) _ (free_fraction s.v2 h.v2) (free_fraction t.v2 k.v2) f.1 in
    record {
      view = same_natural s.view t.view (view_size s.view h.view) (view_size t.view k.view) a.0;
      mark = mark_of_word s.mark t.mark b.0;
      u1 = same_frac s.u1 t.u1 h.u1 k.u1 c.0;
      v1 = same_frac s.v1 t.v1 h.v1 k.v1 d.0;
      u2 = same_frac s.u2 t.u2 h.u2 k.u2 f.0;
      v2 = same_frac s.v2 t.v2 h.v2 k.v2 g.0;
    }

chained : (e f g : Frac) → IsSameFrac e f → IsSameFrac f g → IsSameFrac e g
chained e f g h k = (h.0 ∙ k.0, h.1 ∙ k.1)

pub same_view : (s t : Stroke) → IsListed s → IsListed t → stroke_line s ≡ stroke_line t → s.view ≡ t.view
same_view s t h k e = (alike s t h k e).view

pub same_entry : (s t : Stroke) (e : Entry) → IsListed s → IsListed t → stroke_line s ≡ stroke_line t → IsEntryOf s e → IsEntryOf t e
same_entry s t e h k same x =
    let a = alike s t h k same in
    record {
      view = x.view ∙ a.view;
      mark = x.mark ∙ a.mark;
      u1 = chained e.u1 s.u1 t.u1 x.u1 a.u1;
      v1 = chained e.v1 s.v1 t.v1 x.v1 a.v1;
      u2 = chained e.u2 s.u2 t.u2 x.u2 a.u2;
      v2 = chained e.v2 s.v2 t.v2 x.v2 a.v2;
    }
