-- A list as it is read, line by line, and where no list goes on so.
use Rattle.std.proofs.Common.{◌≡◌, ◌≢◌, ℕ, ◌+◌, ◌<◌, ◌≤◌, zero, suc, List, [], ◌∷◌, ◌++◌, length, map, take, flat_map, All, AllPairs, ℤ, pos, refl, sym, ◌∙◌, ap, subst, append_assoc, append-nil, arith}
use Rattle.std.specs.List.{AllZip, concat}
use Rattle.std.proofs.lemmas.Int.{ints}
use Rattle.std.proofs.lemmas.List.{flat_map_more, length-append, length-map, take-append-le}
use Rattle.std.proofs.lemmas.List.Elements.{All-nil, All-cons, All-head, All-tail}
use Rattle.std.proofs.lemmas.List.Kept.{AllPairs-cons}
use Rattle.sheet_plan.specs.declared.sheet.Stroke.{Stroke}
use Rattle.plot_rack.specs.Lists.{page_line, stroke_line, list_of}
use Rattle.piece_verify.specs.declared.line.Entry.{Entry}
use Rattle.piece_verify.specs.ListLines.{IsListedPage, IsListed, IsEntryOf, IsPageAt, HasNoPage, IsEntryAt, HasNoEntry}
use Rattle.piece_verify.proofs.Alike.{same_view, same_entry}
use Rattle.piece_verify.specs.Lists.{pieces_of, lines_of, IsList, BeginsList, IsFaultLine}
use Rattle.piece_verify.proofs.Lines.{IsLine, pieces_of_line, pieces_joined, lines_of_line, a_page_line, a_stroke_line}

-- ---- strokes whose views never fall
abbrev pub IsRising : ℕ → List Stroke → Type 0
IsRising least [] = Unit {0}
IsRising least (s ∷ strokes) = IsListed s × (least ≤ s.view) × IsRising s.view strokes

-- the view of the last
abbrev pub last_view : ℕ → List Stroke → ℕ
last_view least [] = least
last_view least (s ∷ strokes) = last_view s.view strokes

abbrev Rises : Stroke → Stroke → Type 0
Rises s t = s.view ≤ t.view

weaker : (a b : ℕ) (strokes : List Stroke) → a ≤ b → IsRising b strokes → IsRising a strokes
weaker a b [] h r = tt
weaker a b (s ∷ strokes) h r = (r.0, omega (arith, h, r.1), r.2)

rising-push : (least : ℕ) (strokes : List Stroke) (s : Stroke) → IsRising least strokes → IsListed s → last_view least strokes ≤ s.view → IsRising least (strokes ++ s ∷ [])
rising-push least [] s r h k = (h, k, tt)
rising-push least (t ∷ strokes) s r h k = (r.0, r.1, rising-push t.view strokes s r.2 h k)

last-push : (least : ℕ) (strokes : List Stroke) (s : Stroke) → last_view least (strokes ++ s ∷ []) ≡ s.view
last-push least [] s = refl
last-push least (t ∷ strokes) s = last-push t.view strokes s

listed : (least : ℕ) (strokes : List Stroke) → IsRising least strokes → All IsListed strokes
listed least [] r = All-nil IsListed
listed least (s ∷ strokes) r = All-cons IsListed s strokes r.0 (listed s.view strokes r.2)

above : (least : ℕ) (strokes : List Stroke) → IsRising least strokes → All (λ t. least ≤ t.view) strokes
above least [] r = All-nil (λ t. least ≤ t.view)
above least (s ∷ strokes) r = All-cons (λ t. least ≤ t.view) s strokes r.1 (above least strokes (weaker least s.view strokes r.1 r.2))

none_paired : AllPairs Rises []
none_paired i j d h k = absurd (omega arith)

paired : (least : ℕ) (strokes : List Stroke) → IsRising least strokes → AllPairs Rises strokes
paired least [] r = none_paired
paired least (s ∷ strokes) r = AllPairs-cons Rises s strokes (above s.view strokes r.2) (paired s.view strokes r.2)

later : (s : Stroke) (strokes : List Stroke) → AllPairs Rises (s ∷ strokes) → All (Rises s) strokes
later s strokes h k d within = h 0 (suc k) d (omega arith) (omega (arith, within))

others : (s : Stroke) (strokes : List Stroke) → AllPairs Rises (s ∷ strokes) → AllPairs Rises strokes
others s strokes h i j d before within = h (suc i) (suc j) d (omega (arith, before)) (omega (arith, within))

rising : (least : ℕ) (strokes : List Stroke) → All IsListed strokes → AllPairs Rises strokes → All (λ t. least ≤ t.view) strokes → IsRising least strokes
rising least [] h p a = tt
rising least (s ∷ strokes) h p a = (
  All-head IsListed s strokes h,
  All-head (λ t. least ≤ t.view) s strokes a,
  rising s.view strokes (All-tail IsListed s strokes h) (others s strokes p) (later s strokes p),
)

from_zero : (strokes : List Stroke) → All (λ t. 0 ≤ t.view) strokes
from_zero strokes k d within = omega arith

-- ---- their lines
pieces_of_strokes : (least : ℕ) (strokes : List Stroke) (rest : List ℕ) → IsRising least strokes
    → pieces_of (flat_map stroke_line strokes ++ rest) ≡ map stroke_line strokes ++ pieces_of rest
pieces_of_strokes least [] rest r = refl
pieces_of_strokes least (s ∷ strokes) rest r =
    ap pieces_of (append_assoc (stroke_line s) (flat_map stroke_line strokes) rest) ∙ pieces_of_line (stroke_line s) (flat_map stroke_line strokes ++ rest) (a_stroke_line s r.0)
    ∙ ap (λ (t : List (List ℕ)). stroke_line s ∷ t) (pieces_of_strokes s.view strokes rest r.2)

lines_of_list : (page : ℤ × ℤ) (strokes : List Stroke) (rest : List ℕ) → IsListedPage page → IsRising 0 strokes
    → lines_of (list_of page strokes ++ rest) ≡ page_line page ∷ (map stroke_line strokes ++ pieces_of rest)
lines_of_list page strokes rest h r =
    ap lines_of (append_assoc (page_line page) (flat_map stroke_line strokes) rest) ∙ lines_of_line (page_line page) (flat_map stroke_line strokes ++ rest) (a_page_line page h)
    ∙ ap (λ (t : List (List ℕ)). page_line page ∷ t) (pieces_of_strokes 0 strokes rest r)

whole_list : (page : ℤ × ℤ) (strokes : List Stroke) → IsListedPage page → IsRising 0 strokes → lines_of (list_of page strokes) ≡ page_line page ∷ map stroke_line strokes
whole_list page strokes h r =
    ap lines_of (sym (append-nil (list_of page strokes))) ∙ lines_of_list page strokes [] h r
    ∙ ap (λ (t : List (List ℕ)). page_line page ∷ t) (append-nil (map stroke_line strokes))

-- ---- no list goes on so
no_line : (line : List ℕ) (lines : List (List ℕ)) → [] ≡ line ∷ lines → ⊥
no_line line lines e = cc

a_line : (line : List ℕ) (lines : List (List ℕ)) → line ∷ lines ≡ [] → ⊥
a_line line lines e = cc

-- the first piece begins the text
first_piece : (text line : List ℕ) (lines : List (List ℕ)) → concat lines ≡ text → line ∷ [] ≡ take 1 lines → (tail : List ℕ) × (text ≡ line ++ tail)
first_piece text line [] joined e = absurd (a_line line [] e)
first_piece text line (first ∷ lines) joined e = let same : line ≡ first = cc in (concat lines, sym joined ∙ ap (λ (t : List ℕ). t ++ concat lines) (sym same))

none_left : (text : List ℕ) (lines : List (List ℕ)) → concat lines ≡ text → [] ≡ take 1 lines → text ≡ []
none_left text [] joined e = sym joined
none_left text (first ∷ lines) joined e = absurd (no_line first [] e)

differ : (least : ℕ) (strokes others : List Stroke) (rest : List ℕ) → IsRising least strokes → IsRising least others → rest ≢ [] → HasNoEntry (last_view least strokes) rest
    → take (suc (length strokes)) (map stroke_line others) ≡ take (suc (length strokes)) (map stroke_line strokes ++ pieces_of rest) → ⊥
differ least [] [] rest r o some none e = some (none_left rest (pieces_of rest) (pieces_joined rest) e)
differ least [] (o ∷ others) rest r rises some none e =
    let first = first_piece rest (stroke_line o) (pieces_of rest) (pieces_joined rest) e in none o first.0 rises.0 rises.1 first.1
differ least (s ∷ strokes) [] rest r o some none e = no_line _ _ e
differ least (s ∷ strokes) (o ∷ others) rest r rises some none e =
    let head : stroke_line o ≡ stroke_line s = cc in
    let tail : take (suc (length strokes)) (map stroke_line others) ≡ take (suc (length strokes)) (map stroke_line strokes ++ pieces_of rest) = cc in
    let view : o.view ≡ s.view = same_view o s rises.0 r.0 head in
    differ s.view strokes others rest r.2 (subst (λ (v : ℕ). IsRising v others) view rises.2) some none tail

-- ---- as far as a list is read
pub record IsReadTo (text : List ℕ) (entries : List Entry) (least : ℕ) (rest : List ℕ) : Type 0 where
  pub page : ℤ × ℤ
  pub listed_page : IsListedPage page
  pub strokes : List Stroke
  pub rises : IsRising 0 strokes
  pub last : last_view 0 strokes ≡ least
  pub each : AllZip IsEntryOf strokes entries
  pub written : text ≡ list_of page strokes ++ rest

pub started : (text rest : List ℕ) → IsPageAt text rest → IsReadTo text [] 0 rest
started text rest p = record {
  page = p.page;
  listed_page = p.listed;
  strokes = [];
  rises = tt;
  last = refl;
  each = tt;
  written = p.written ∙ ap (λ (t : List ℕ). t ++ rest) (sym (append-nil (page_line p.page)));
}

zip-push : (strokes : List Stroke) (entries : List Entry) (s : Stroke) (e : Entry) → AllZip IsEntryOf strokes entries → IsEntryOf s e
    → AllZip IsEntryOf (strokes ++ s ∷ []) (entries ++ e ∷ [])
zip-push [] [] s e h k = (k, tt)
zip-push [] (x ∷ entries) s e h k = absurd h
zip-push (x ∷ strokes) [] s e h k = absurd h
zip-push (x ∷ strokes) (y ∷ entries) s e h k = (h.0, zip-push strokes entries s e h.1 k)

pub one_more : (text : List ℕ) (entries : List Entry) (least : ℕ) (rest : List ℕ) (e : Entry) (behind : List ℕ) → IsReadTo text entries least rest → IsEntryAt least rest e behind
    → IsReadTo text (entries ++ e ∷ []) e.view behind
one_more text entries least rest e behind r x = record {
  page = r.page;
  listed_page = r.listed_page;
  strokes = r.strokes ++ x.stroke ∷ [];
  rises = rising-push 0 r.strokes x.stroke r.rises x.listed (subst (λ (v : ℕ). v ≤ x.stroke.view) (sym r.last) x.from);
  last = last-push 0 r.strokes x.stroke ∙ sym x.entry.view;
  each = zip-push r.strokes entries x.stroke e r.each x.entry;
  written =
      r.written ∙ ap (λ (t : List ℕ). list_of r.page r.strokes ++ t) x.written ∙ sym (append_assoc (list_of r.page r.strokes) (stroke_line x.stroke) behind)
      ∙ ap (λ (t : List ℕ). t ++ behind) (flat_map_more stroke_line (page_line r.page) r.strokes x.stroke);
}

pub all_read : (text : List ℕ) (entries : List Entry) (least : ℕ) → IsReadTo text entries least []
    → (strokes : List Stroke) × IsList text strokes × AllZip IsEntryOf strokes entries
all_read text entries least r = (
  r.strokes,
  record {
    page = r.page;
    listed_page = r.listed_page;
    listed = listed 0 r.strokes r.rises;
    rising = paired 0 r.strokes r.rises;
    written = r.written ∙ append-nil (list_of r.page r.strokes);
  },
  r.each,
)

-- ---- the line of a fault
least_page : ℤ × ℤ
least_page = (pos 0, pos 0)

is_least : IsListedPage least_page
unfolding least_page
is_least = (record { least = omega (arith, ints); most = omega (arith, ints) }, record { least = omega (arith, ints); most = omega (arith, ints) })

a_list : (page : ℤ × ℤ) (strokes : List Stroke) → IsListedPage page → IsRising 0 strokes → IsList (list_of page strokes) strokes
a_list page strokes h r = record { page = page; listed_page = h; listed = listed 0 strokes r; rising = paired 0 strokes r; written = refl }

begins_none : (text : List ℕ) (m : ℕ) → m < 1 → BeginsList text m
begins_none text zero h = record { list = list_of least_page []; strokes = []; is_list = a_list least_page [] is_least tt; same = refl }
begins_none text (suc m) h = absurd (omega arith)

rises_of : (text : List ℕ) (strokes : List Stroke) → IsList text strokes → IsRising 0 strokes
rises_of text strokes l = rising 0 strokes l.listed l.rising (from_zero strokes)

lines_of_begun : (text : List ℕ) (strokes : List Stroke) (l : IsList text strokes) → lines_of text ≡ page_line l.page ∷ map stroke_line strokes
lines_of_begun text strokes l = ap lines_of l.written ∙ whole_list l.page strokes l.listed_page (rises_of text strokes l)

pieces_whole : (text : List ℕ) → concat (lines_of text) ≡ text
pieces_whole [] = refl
pieces_whole (byte ∷ text) = pieces_joined (byte ∷ text)

pub first_fault : (text : List ℕ) → HasNoPage text → IsFaultLine text 1
first_fault text none = record {
  none = λ b. (
      let begun = lines_of_begun b.list b.strokes b.is_list in
      let same : page_line b.is_list.page ∷ [] ≡ take 1 (lines_of text) = ap (take 1) (sym begun) ∙ b.same in
      let first = first_piece text (page_line b.is_list.page) (lines_of text) (pieces_whole text) same in
      none b.is_list.page first.0 b.is_list.listed_page first.1);
  least = begins_none text;
}

two_more : (n : ℕ) → n + 2 ≡ suc (suc n)
two_more n = omega arith

later_none : (text : List ℕ) (entries : List Entry) (least : ℕ) (rest : List ℕ) (r : IsReadTo text entries least rest) → rest ≢ [] → HasNoEntry least rest
    → BeginsList text (suc (suc (length r.strokes))) → ⊥
later_none text entries least rest r some none b =
    let begun = lines_of_begun b.list b.strokes b.is_list in
    let here : lines_of text ≡ page_line r.page ∷ (map stroke_line r.strokes ++ pieces_of rest) =
    ap lines_of r.written ∙ lines_of_list r.page r.strokes rest r.listed_page r.rises in
    let n = suc (suc (length r.strokes)) in
    let same : take n (page_line b.is_list.page ∷ map stroke_line b.strokes) ≡ take n (page_line r.page ∷ (map stroke_line r.strokes ++ pieces_of rest))
    = ap (take n) (sym begun) ∙ b.same ∙ ap (take n) here in
    let tail : take (suc (length r.strokes)) (map stroke_line b.strokes) ≡ take (suc (length r.strokes)) (map stroke_line r.strokes ++ pieces_of rest) = cc in
    differ 0 r.strokes b.strokes rest r.rises (rises_of b.list b.strokes b.is_list) some (subst (λ (v : ℕ). HasNoEntry v rest) (sym r.last) none) tail

later_begins : (text : List ℕ) (entries : List Entry) (least : ℕ) (rest : List ℕ) (r : IsReadTo text entries least rest) (m : ℕ) → m ≤ length r.strokes + 1 → BeginsList text m
later_begins text entries least rest r m h =
    let here : lines_of text ≡ page_line r.page ∷ (map stroke_line r.strokes ++ pieces_of rest) =
    ap lines_of r.written ∙ lines_of_list r.page r.strokes rest r.listed_page r.rises in
    let size : length (page_line r.page ∷ map stroke_line r.strokes) ≡ length r.strokes + 1 = omega (arith, length-map r.strokes stroke_line) in
    record {
      list = list_of r.page r.strokes;
      strokes = r.strokes;
      is_list = a_list r.page r.strokes r.listed_page r.rises;
      same = ap (take m) (whole_list r.page r.strokes r.listed_page r.rises)
          ∙ sym (take-append-le m (page_line r.page ∷ map stroke_line r.strokes) (pieces_of rest) (omega (arith, size, h))) ∙ ap (take m) (sym here);
    }

zip_length : (strokes : List Stroke) (entries : List Entry) → AllZip IsEntryOf strokes entries → length strokes ≡ length entries
zip_length [] [] h = refl
zip_length [] (e ∷ entries) h = absurd h
zip_length (s ∷ strokes) [] h = absurd h
zip_length (s ∷ strokes) (e ∷ entries) h = ap suc (zip_length strokes entries h.1)

pub later_fault : (text : List ℕ) (entries : List Entry) (least : ℕ) (rest : List ℕ) → IsReadTo text entries least rest → rest ≢ [] → HasNoEntry least rest
    → IsFaultLine text (length entries + 2)
later_fault text entries least rest r some none =
    let size = zip_length r.strokes entries r.each in
    record {
      none = λ b. later_none text entries least rest r some none (subst (BeginsList text) (ap (λ (n : ℕ). n + 2) (sym size) ∙ two_more (length r.strokes)) b);
      least = λ m h. later_begins text entries least rest r m (omega (arith, size, h));
    }

-- ---- a text is one list
same_lines : (least : ℕ) (strokes others : List Stroke) (entries : List Entry) → IsRising least strokes → IsRising least others → map stroke_line strokes ≡ map stroke_line others
    → AllZip IsEntryOf strokes entries → AllZip IsEntryOf others entries
same_lines least [] [] entries r o e z = z
same_lines least [] (o ∷ others) entries r rises e z = absurd (no_line (stroke_line o) (map stroke_line others) e)
same_lines least (s ∷ strokes) [] entries r o e z = absurd (a_line (stroke_line s) (map stroke_line strokes) e)
same_lines least (s ∷ strokes) (o ∷ others) [] r rises e z = absurd z
same_lines least (s ∷ strokes) (o ∷ others) (entry ∷ entries) r rises e z =
    let head : stroke_line s ≡ stroke_line o = cc in
    let tail : map stroke_line strokes ≡ map stroke_line others = cc in
    let view : s.view ≡ o.view = same_view s o r.0 rises.0 head in
    (same_entry s o entry r.0 rises.0 head z.0, same_lines s.view strokes others entries r.2 (subst (λ (v : ℕ). IsRising v others) (sym view) rises.2) tail z.1)

pub one_list : (text : List ℕ) (strokes others : List Stroke) (entries : List Entry) → IsList text strokes → IsList text others → AllZip IsEntryOf strokes entries
    → AllZip IsEntryOf others entries
one_list text strokes others entries l k z =
    let same : page_line l.page ∷ map stroke_line strokes ≡ page_line k.page ∷ map stroke_line others = sym (lines_of_begun text strokes l) ∙ lines_of_begun text others k in
    let tail : map stroke_line strokes ≡ map stroke_line others = cc in
    same_lines 0 strokes others entries (rises_of text strokes l) (rises_of text others k) tail z

-- a text with a fault is no list
pub no_list : (text : List ℕ) (n : ℕ) → IsFaultLine text n → (strokes : List Stroke) → IsList text strokes → ⊥
no_list text n f strokes l = f.none record { list = text; strokes = strokes; is_list = l; same = refl }

-- ---- each line is shorter than what it begins

shorter : (line rest text : List ℕ) → IsLine line → text ≡ line ++ rest → length rest < length text
shorter line rest text l e =
    let size : length text ≡ length line + length rest = ap length e ∙ length-append line rest in
    let whole : length line ≡ length l.bytes + 1 = ap length l.is ∙ length-append l.bytes (10 ∷ []) in
    omega (arith, size, whole)

pub shorter_page : (text rest : List ℕ) → IsPageAt text rest → length rest < length text
shorter_page text rest p = shorter (page_line p.page) rest text (a_page_line p.page p.listed) p.written

pub shorter_entry : (least : ℕ) (text : List ℕ) (e : Entry) (rest : List ℕ) → IsEntryAt least text e rest → length rest < length text
shorter_entry least text e rest x = shorter (stroke_line x.stroke) rest text (a_stroke_line x.stroke x.listed) x.written

pub empty_rest : (rest : List ℕ) → length rest ≡ 0 → rest ≡ []
empty_rest [] h = refl
empty_rest (b ∷ rest) h = absurd (omega (arith, h))

pub some_rest : (rest : List ℕ) → length rest ≢ 0 → rest ≢ []
some_rest rest h e = h (ap length e)
