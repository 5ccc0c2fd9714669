-- Each text is a list, or has a first line at which it can't be one: line by line, as `read_list` goes, with no call.
use Rattle.std.proofs.Common.{◌≡◌, ◌≢◌, ◌⊎◌, inl, inr, ℕ, ◌+◌, ◌<◌, zero, suc, List, [], ◌∷◌, ◌++◌, codes, length, arith, lit<}
use Rattle.sheet_plan.specs.declared.sheet.Stroke.{Stroke}
use Rattle.sheet_plan.specs.LineKinds.{word_of}
use Rattle.std.specs.Fmt.{decimal}
use Rattle.piece_verify.specs.Columns.{IsFree, HasNoColumn}
use Rattle.piece_verify.specs.ListLines.{IsPageAt, HasNoPage, IsEntryAt, HasNoEntry}
use Rattle.piece_verify.specs.Lists.{IsList, IsFaultLine}
use Rattle.piece_verify.specs.Values.{IsView, IsAny}
use Rattle.piece_verify.specs.declared.line.Entry.{Entry}
use Rattle.piece_verify.specs.inner.Pairs.{AreNumbers, numbers_text, ArePlaces, places_text, AreEnds, ends_text}
use Rattle.piece_verify.proofs.ListLines.{no_blank, no_word, no_numbers, a_page, no_line, an_entry, IsDrawn, drawn_text, IsMarked, marked_text}
use Rattle.piece_verify.proofs.Joins.{no_first, no_second}
use Rattle.piece_verify.proofs.Reading.{IsReadTo, started, one_more, all_read, first_fault, later_fault, shorter_entry}
use Rattle.piece_verify.proofs.SomeColumns.{same_bytes, IsSplit, some_split, IsColumnOf, MayHave, view_column, mark_column, number_pair, place_columns, end_columns}

-- ---- the line of a page
record IsPage (text : List ℕ) : Type 0 where
  rest : List ℕ
  is : IsPageAt text rest

some_page : (text : List ℕ) → HasNoPage text ⊎ IsPage text
some_page text = by (some_split 32 text)
  where
    numbers : (s : IsSplit 32 text) → s.head ≡ codes "page" → MayHave AreNumbers numbers_text 10 s.rest → HasNoPage text ⊎ IsPage text
    numbers s same (inl none) = inl (no_numbers text s.head s.rest s.free s.is none)
    numbers s same (inr x) = inr record { rest = x.rest; is = a_page text s.head s.rest x.value x.rest s.is same x.is }

    word : (s : IsSplit 32 text) → (s.head ≡ codes "page") ⊎ (s.head ≢ codes "page") → HasNoPage text ⊎ IsPage text
    word s (inl same) = numbers s same (number_pair 10 (lit< tt) s.rest)
    word s (inr other) = inl (no_word text s.head s.rest s.free s.is other)

    by : IsFree 32 text ⊎ IsSplit 32 text → HasNoPage text ⊎ IsPage text
    by (inl free) = inl (no_blank text free)
    by (inr s) = word s (same_bytes s.head (codes "page"))

-- ---- the line of a stroke
record IsEntry (least : ℕ) (text : List ℕ) : Type 0 where
  entry : Entry
  rest : List ℕ
  is : IsEntryAt least text entry rest

abbrev MayBegin : ℕ → List ℕ → Type 0
MayBegin least text = HasNoEntry least text ⊎ IsEntry least text

some_entry : (least : ℕ) (text : List ℕ) → MayBegin least text
some_entry least text = by (view_column least text)
  where
    none_behind : (v : IsColumnOf (IsView least) decimal 32 text) → HasNoColumn IsMarked marked_text 10 v.rest → HasNoEntry least text
    none_behind v none = no_line least text (no_second (IsView least) IsMarked decimal marked_text 10 text v.value v.rest v.is none)

    none_drawn : (v : IsColumnOf (IsView least) decimal 32 text) (m : IsColumnOf IsAny word_of 32 v.rest) → HasNoColumn IsDrawn drawn_text 10 m.rest → HasNoEntry least text
    none_drawn v m none = none_behind v (no_second IsAny IsDrawn word_of drawn_text 10 v.rest m.value m.rest m.is none)

    places : (v : IsColumnOf (IsView least) decimal 32 text) (m : IsColumnOf IsAny word_of 32 v.rest) (e : IsColumnOf AreEnds ends_text 32 m.rest)
        → MayHave ArePlaces places_text 10 e.rest → MayBegin least text
    places v m e (inl none) = inl (none_drawn v m (no_second AreEnds ArePlaces ends_text places_text 10 m.rest e.value e.rest e.is none))
    places v m e (inr p) =
        let entry : Entry = record { view = v.value; mark = m.value; u1 = e.value.0.0; v1 = e.value.0.1; u2 = e.value.1.0; v2 = e.value.1.1 } in
        inr record { entry = entry; rest = p.rest; is = an_entry least text entry v.rest m.rest e.rest p.value p.rest v.is m.is e.is p.is }

    ends : (v : IsColumnOf (IsView least) decimal 32 text) (m : IsColumnOf IsAny word_of 32 v.rest) → MayHave AreEnds ends_text 32 m.rest → MayBegin least text
    ends v m (inl none) = inl (none_drawn v m (no_first AreEnds ArePlaces ends_text places_text 10 m.rest none))
    ends v m (inr e) = places v m e (place_columns e.rest)

    mark : (v : IsColumnOf (IsView least) decimal 32 text) → MayHave IsAny word_of 32 v.rest → MayBegin least text
    mark v (inl none) = inl (none_behind v (no_first IsAny IsDrawn word_of drawn_text 10 v.rest none))
    mark v (inr m) = ends v m (end_columns m.rest)

    by : MayHave (IsView least) decimal 32 text → MayBegin least text
    by (inl none) = inl (no_line least text (no_first (IsView least) IsMarked decimal marked_text 10 text none))
    by (inr v) = mark v (mark_column v.rest)

-- ---- lists
abbrev IsListOrFault : List ℕ → Type 0
IsListOrFault text = ((strokes : List Stroke) × IsList text strokes) ⊎ ((n : ℕ) × IsFaultLine text n)

no_bytes : (b : ℕ) (bytes : List ℕ) → b ∷ bytes ≢ []
no_bytes b bytes e = cc

-- from what is read on, where the bytes left are fewer than this number
read_from : (text : List ℕ) (most : ℕ) (entries : List Entry) (least : ℕ) (rest : List ℕ) → length rest < most → IsReadTo text entries least rest → IsListOrFault text
read_from text zero entries least rest few r = absurd (omega (arith, few))
read_from text (suc most) entries least [] few r = let (strokes, is, each) = all_read text entries least r in inl (strokes, is)
read_from text (suc most) entries least (b ∷ bytes) few r = elim (some_entry least (b ∷ bytes)) [
  | inl none ↦ inr (length entries + 2, later_fault text entries least (b ∷ bytes) r (no_bytes b bytes) none)
  | inr x ↦ (let less = shorter_entry least (b ∷ bytes) x.entry x.rest x.is in
      read_from text most (entries ++ x.entry ∷ []) x.entry.view x.rest (omega (arith, few, less)) (one_more text entries least (b ∷ bytes) x.entry x.rest r x.is))
]

-- each text is a list, or has a first line at which it can't be one
pub some_list : (text : List ℕ) → IsListOrFault text
some_list text = by (some_page text)
  where
    by : HasNoPage text ⊎ IsPage text → IsListOrFault text
    by (inl none) = inr (1, first_fault text none)
    by (inr p) = read_from text (suc (length p.rest)) [] 0 p.rest (omega arith) (started text p.rest p.is)
