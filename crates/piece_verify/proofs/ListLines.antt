-- The lines of a list as columns.
use Rattle.std.proofs.Common.{◌≡◌, ◌≢◌, ℕ, ◌<◌, ◌^◌, List, ◌∷◌, ◌++◌, codes, ℤ, refl, sym, ◌∙◌, ap, subst, append_assoc, arith, rules}
use Rattle.std.specs.Fmt.{decimal, signed_decimal}
use Rattle.exact_frac.specs.declared.Frac.{Frac}
use Rattle.sheet_plan.specs.declared.sheet.Mark.{Mark}
use Rattle.sheet_plan.specs.declared.sheet.Stroke.{Stroke}
use Rattle.sheet_plan.specs.LineKinds.{word_of}
use Rattle.plot_rack.specs.Lists.{frac_text, column, stroke_line}
use Rattle.piece_verify.specs.declared.line.Entry.{Entry}
use Rattle.piece_verify.specs.Columns.{IsFree, IsColumn, HasNoColumn}
use Rattle.piece_verify.specs.Values.{IsView, IsAny}
use Rattle.piece_verify.specs.ListLines.{IsPageAt, HasNoPage, IsEntryAt, HasNoEntry}
use Rattle.piece_verify.specs.inner.Pairs.{Both, both_texts, AreNumbers, numbers_text, ArePlaces, places_text, AreEnds, ends_text}
use Rattle.piece_verify.proofs.Parts.{not_free, same_parts}
use Rattle.piece_verify.proofs.Joins.{no_first, no_second, both}

-- ---- the line of a page
page_form : (a b rest : List ℕ) → (codes "page" ++ column a ++ column b ++ codes "\n") ++ rest ≡ codes "page" ++ 32 ∷ ((a ++ 32 ∷ b) ++ 10 ∷ rest)
page_form a b rest = simp append_assoc refl

page_free : IsFree 32 (codes "page")
page_free = search rules

pub no_blank : (text : List ℕ) → IsFree 32 text → HasNoPage text
no_blank text free page rest h e =
    not_free 32 (codes "page") (numbers_text page ++ 10 ∷ rest) (subst (IsFree 32) (e ∙ page_form (signed_decimal page.0) (signed_decimal page.1) rest) free)

pub no_word : (text word behind : List ℕ) → IsFree 32 word → text ≡ word ++ 32 ∷ behind → word ≢ codes "page" → HasNoPage text
no_word text word behind free is other page rest h e =
    other (same_parts 32 word behind (codes "page") (numbers_text page ++ 10 ∷ rest) free page_free (sym is ∙ e ∙ page_form (signed_decimal page.0) (signed_decimal page.1) rest)).0

pub no_numbers : (text word behind : List ℕ) → IsFree 32 word → text ≡ word ++ 32 ∷ behind → HasNoColumn AreNumbers numbers_text 10 behind → HasNoPage text
no_numbers text word behind free is none page rest h e =
    none page rest h (same_parts 32 word behind (codes "page") (numbers_text page ++ 10 ∷ rest) free page_free
    (sym is ∙ e ∙ page_form (signed_decimal page.0) (signed_decimal page.1) rest)).1

pub a_page : (text word behind : List ℕ) (page : ℤ × ℤ) (rest : List ℕ) → text ≡ word ++ 32 ∷ behind → word ≡ codes "page"
    → IsColumn AreNumbers numbers_text 10 behind page rest → IsPageAt text rest
a_page text word behind page rest is same one = record {
  page = page;
  listed = one.holds;
  written = is ∙ (λ i. same i ++ 32 ∷ one.written i) ∙ sym (page_form (signed_decimal page.0) (signed_decimal page.1) rest);
}

-- ---- the line of a stroke
abbrev Points : Type 0 → Type 0
Points X = (X × X) × (X × X)

abbrev pub IsDrawn : Points Frac × Points ℤ → Type 0
IsDrawn = Both AreEnds ArePlaces

abbrev pub drawn_text : Points Frac × Points ℤ → List ℕ
drawn_text = both_texts ends_text places_text

abbrev pub IsMarked : Mark × (Points Frac × Points ℤ) → Type 0
IsMarked = Both IsAny IsDrawn

abbrev pub marked_text : Mark × (Points Frac × Points ℤ) → List ℕ
marked_text = both_texts word_of drawn_text

abbrev IsLine : ℕ → ℕ × (Mark × (Points Frac × Points ℤ)) → Type 0
IsLine least = Both (IsView least) IsMarked

abbrev line_text : ℕ × (Mark × (Points Frac × Points ℤ)) → List ℕ
line_text = both_texts decimal marked_text

shift : (x y t : List ℕ) → (x ++ 32 ∷ y) ++ t ≡ x ++ 32 ∷ (y ++ t)
shift x y t = append_assoc x (32 ∷ y) t

four : (c d e f t : List ℕ) → ((c ++ 32 ∷ d) ++ 32 ∷ (e ++ 32 ∷ f)) ++ t ≡ c ++ 32 ∷ (d ++ 32 ∷ (e ++ 32 ∷ (f ++ t)))
four c d e f t = shift (c ++ 32 ∷ d) (e ++ 32 ∷ f) t ∙ ap (λ (u : List ℕ). (c ++ 32 ∷ d) ++ 32 ∷ u) (shift e f t) ∙ shift c d (32 ∷ (e ++ 32 ∷ (f ++ t)))

-- ten columns behind one another
abbrev pub ten : List ℕ → List ℕ → List ℕ → List ℕ → List ℕ → List ℕ → List ℕ → List ℕ → List ℕ → List ℕ → List ℕ → List ℕ
ten a b c d e f g h i j t = a ++ 32 ∷ (b ++ 32 ∷ (c ++ 32 ∷ (d ++ 32 ∷ (e ++ 32 ∷ (f ++ 32 ∷ (g ++ 32 ∷ (h ++ 32 ∷ (i ++ 32 ∷ (j ++ t)))))))))

nested : (a b c d e f g h i j t : List ℕ)
    → (a ++ 32 ∷ (b ++ 32 ∷ (((c ++ 32 ∷ d) ++ 32 ∷ (e ++ 32 ∷ f)) ++ 32 ∷ ((g ++ 32 ∷ h) ++ 32 ∷ (i ++ 32 ∷ j))))) ++ t ≡ ten a b c d e f g h i j t
nested a b c d e f g h i j t =
    let front = (c ++ 32 ∷ d) ++ 32 ∷ (e ++ 32 ∷ f) in
    let back = (g ++ 32 ∷ h) ++ 32 ∷ (i ++ 32 ∷ j) in
    let inner : (front ++ 32 ∷ back) ++ t ≡ c ++ 32 ∷ (d ++ 32 ∷ (e ++ 32 ∷ (f ++ 32 ∷ (g ++ 32 ∷ (h ++ 32 ∷ (i ++ 32 ∷ (j ++ t)))))))
    = shift front back t ∙ ap (λ (u : List ℕ). front ++ 32 ∷ u) (four g h i j t) ∙ four c d e f (32 ∷ (g ++ 32 ∷ (h ++ 32 ∷ (i ++ 32 ∷ (j ++ t))))) in
    shift a (b ++ 32 ∷ (front ++ 32 ∷ back)) t ∙ ap (λ (u : List ℕ). a ++ 32 ∷ u) (shift b (front ++ 32 ∷ back) t ∙ ap (λ (u : List ℕ). b ++ 32 ∷ u) inner)

pub written : (a b c d e f g h i j rest : List ℕ)
    → (a ++ column b ++ column c ++ column d ++ column e ++ column f ++ column g ++ column h ++ column i ++ column j ++ codes "\n") ++ rest ≡ ten a b c d e f g h i j (10 ∷ rest)
written a b c d e f g h i j rest = simp append_assoc refl

line_form : (a b c d e f g h i j rest : List ℕ)
    → (a ++ column b ++ column c ++ column d ++ column e ++ column f ++ column g ++ column h ++ column i ++ column j ++ codes "\n") ++ rest
    ≡ (a ++ 32 ∷ (b ++ 32 ∷ (((c ++ 32 ∷ d) ++ 32 ∷ (e ++ 32 ∷ f)) ++ 32 ∷ ((g ++ 32 ∷ h) ++ 32 ∷ (i ++ 32 ∷ j))))) ++ 10 ∷ rest
line_form a b c d e f g h i j rest = written a b c d e f g h i j rest ∙ sym (nested a b c d e f g h i j (10 ∷ rest))

-- its columns
abbrev columns : Stroke → ℕ × (Mark × (Points Frac × Points ℤ))
columns s = (s.view, (s.mark, (((s.u1, s.v1), (s.u2, s.v2)), ((s.x1, s.y1), (s.x2, s.y2)))))

stroke_form : (s : Stroke) (rest : List ℕ) → stroke_line s ++ rest ≡ line_text (columns s) ++ 10 ∷ rest
stroke_form s rest =
    line_form (decimal s.view) (word_of s.mark) (frac_text s.u1) (frac_text s.v1) (frac_text s.u2) (frac_text s.v2)
    (signed_decimal s.x1) (signed_decimal s.y1) (signed_decimal s.x2) (signed_decimal s.y2) rest

pub no_line : (least : ℕ) (text : List ℕ) → HasNoColumn (IsLine least) line_text 10 text → HasNoEntry least text
no_line least text none s rest h from e =
    none (columns s) rest (
      record { from = from; size = h.view },
      (
        tt,
        (
          (
            (record { small = h.u1; lowest = s.u1_lowest }, record { small = h.v1; lowest = s.v1_lowest }),
            (record { small = h.u2; lowest = s.u2_lowest }, record { small = h.v2; lowest = s.v2_lowest }),
          ),
          ((h.x1, h.y1), (h.x2, h.y2)),
        ),
      ),
    )
    (e ∙ stroke_form s rest)

no_body : (least : ℕ) (text : List ℕ) (view : ℕ) (second : List ℕ) (mark : Mark) (third : List ℕ) → IsColumn (IsView least) decimal 32 text view second
    → IsColumn IsAny word_of 32 second mark third
    → HasNoColumn IsDrawn drawn_text 10 third → HasNoEntry least text
no_body least text view second mark third one two none =
    no_line least text (no_second (IsView least) IsMarked decimal marked_text 10 text view second one (no_second IsAny IsDrawn word_of drawn_text 10 second mark third two none))

pub no_ends : (least : ℕ) (text : List ℕ) (view : ℕ) (second : List ℕ) (mark : Mark) (third : List ℕ) → IsColumn (IsView least) decimal 32 text view second
    → IsColumn IsAny word_of 32 second mark third
    → HasNoColumn AreEnds ends_text 32 third → HasNoEntry least text
no_ends least text view second mark third one two none = no_body least text view second mark third one two (no_first AreEnds ArePlaces ends_text places_text 10 third none)

pub no_places : (least : ℕ) (text : List ℕ) (view : ℕ) (second : List ℕ) (mark : Mark) (third : List ℕ) (ends : Points Frac) (fourth : List ℕ)
    → IsColumn (IsView least) decimal 32 text view second → IsColumn IsAny word_of 32 second mark third → IsColumn AreEnds ends_text 32 third ends fourth
    → HasNoColumn ArePlaces places_text 10 fourth → HasNoEntry least text
no_places least text view second mark third ends fourth one two three none =
    no_body least text view second mark third one two (no_second AreEnds ArePlaces ends_text places_text 10 third ends fourth three none)

-- the stroke of the columns
abbrev stroke_of : (e : Entry) → AreEnds ((e.u1, e.v1), (e.u2, e.v2)) → Points ℤ → Stroke
stroke_of e h places = record {
  view = e.view;
  mark = e.mark;
  u1 = e.u1;
  v1 = e.v1;
  u2 = e.u2;
  v2 = e.v2;
  x1 = places.0.0;
  y1 = places.0.1;
  x2 = places.1.0;
  y2 = places.1.1;
  u1_lowest = h.0.0.lowest;
  v1_lowest = h.0.1.lowest;
  u2_lowest = h.1.0.lowest;
  v2_lowest = h.1.1.lowest;
}

pub an_entry : (least : ℕ) (text : List ℕ) (e : Entry) (second third fourth : List ℕ) (places : Points ℤ) (rest : List ℕ)
    → IsColumn (IsView least) decimal 32 text e.view second → IsColumn IsAny word_of 32 second e.mark third → IsColumn AreEnds ends_text 32 third (
      (e.u1, e.v1),
      (e.u2, e.v2),
    ) fourth
    → IsColumn ArePlaces places_text 10 fourth places rest → IsEntryAt least text e rest
an_entry least text e second third fourth places rest one two three four =
    let drawn = both AreEnds ArePlaces ends_text places_text 10 third ((e.u1, e.v1), (e.u2, e.v2)) fourth places rest three four in
    let marked = both IsAny IsDrawn word_of drawn_text 10 second e.mark third ((((e.u1, e.v1), (e.u2, e.v2)), places)) rest two drawn in
    let line = both (IsView least) IsMarked decimal marked_text 10 text e.view second (e.mark, (((e.u1, e.v1), (e.u2, e.v2)), places)) rest one marked in
    let s : Stroke = stroke_of e three.holds places in
    record {
      stroke = s;
      listed = record {
        view = one.holds.size;
        u1 = three.holds.0.0.small;
        v1 = three.holds.0.1.small;
        u2 = three.holds.1.0.small;
        v2 = three.holds.1.1.small;
        x1 = four.holds.0.0;
        y1 = four.holds.0.1;
        x2 = four.holds.1.0;
        y2 = four.holds.1.1;
      };
      from = one.holds.from;
      entry = record { view = refl; mark = refl; u1 = (refl, refl); v1 = (refl, refl); u2 = (refl, refl); v2 = (refl, refl) };
      written = line.written ∙ sym (stroke_form s rest);
    }

-- ---- a view's number is small
pub view_size : (n : ℕ) → n < 2 ^ 32 → n < 2 ^ 104
view_size n h = omega (arith, h)
