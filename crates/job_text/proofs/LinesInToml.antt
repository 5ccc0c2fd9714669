-- Lines mean the same in TOML.
use Rattle.std.proofs.Common.{◌≡◌, ℕ, zero, suc, ◌-◌, true, false, ◌&&◌, ◌==◌, List, [], ◌∷◌, ◌++◌, length, drop, map, slice_index, Option, Some, None, option_map, option_and_then, Ok, refl, sym, ap, subst, ◌∙◌, inl, inr, arith, append-nil, append_assoc}
use Rattle.std.specs.List.{AllZip}
use Rattle.std.proofs.lemmas.Bool.{cases_Bool, and_parts}
use Rattle.std.proofs.lemmas.Bool.Decides.{nat_tests}
use Rattle.std.proofs.lemmas.Option.{none-some}
use Rattle.toml_parser.specs.Lexical.{Read, first, is_bare, skip_ws, skip_blank}
use Rattle.toml_parser.specs.Strings.{Key, key, key_after, simple_key, recursion_limit}
use Rattle.toml.specs.Data.{Data}
use Rattle.toml.specs.Parse.{after_byte, val, ends_line, header_key, key_equals, expression, line, lines, skip_bom, parse_document}
use Rattle.toml.specs.Tables.{no_nodes, close, key_value, std_table, array_table, Expression, Document, define}
use Rattle.toml.proofs.Blanks.{skip_none}
use Rattle.toml.proofs.Turns as turns
use Rattle.job_text.specs.Readings.{◌>>=◌}
use Rattle.job_text.specs.Values.{Written, one_key, value}
use Rattle.job_text.specs.Lines.{Meaning, header, list_header, entry, TextLine, bracket, header_line, list_header_line, entry_of, entry_after, entry_line, meaning_of, ended, is_unprintable, line_of, lines_after, text_lines}
use Rattle.job_text.specs.Toml.{IsMeaningOf, IsExpressionOf, expressions_after, defined, AreLinesOfToml}
use Rattle.job_text.proofs.ValuesInToml.{both_ok, test_met, test_not_met, told, same_read, left_ok, same_left, value_in_toml, key_in_toml}

-- ---- one line
-- what a line is in TOML: an expression of this meaning, and the text after it
abbrev pub IsRead : (List ℕ → Read Expression) → List ℕ → Meaning → List ℕ → Type 0
IsRead read front m rest = (e : Expression) × IsMeaningOf m e × (read front ≡ Some (e, rest))

-- a key of one part
abbrev key_alone : List ℕ → Key
key_alone k = ([], k)

-- the bracket is the one that TOML asks for
bracket_in_toml : (front rest : List ℕ) → bracket front ≡ Ok rest → after_byte 93 front ≡ Some rest
bracket_in_toml front rest e =
    let met = test_met (first front == 93) (left_ok (drop 1 front)) _ rest e in
    let closing = met.0 in
    rw closing (ap Some (same_left (drop 1 front) rest met.1))

-- a key, and the closing bracket behind it
key_bracketed : (front k behind rest : List ℕ) → one_key (skip_ws front) ≡ Ok (k, behind) → bracket behind ≡ Ok rest → header_key front ≡ Some (key_alone k, rest)
unfolding header_key
key_bracketed front k behind rest named closed = rw ((key_in_toml (skip_ws front) k behind named).1, bracket_in_toml behind rest closed)

-- what TOML reads at the front: a header
header_read : (front : List ℕ) (k : Key) (rest : List ℕ) → (first front == 91) ≡ true → (first front == 91 && slice_index front 1 == 91) ≡ false → header_key (drop 1 front) ≡ Some (k, rest)
    → expression front ≡ Some ((k, std_table), rest)
unfolding expression
header_read front k rest opens alone read = rw (alone, opens, read)

-- a header of a list
list_header_read : (front : List ℕ) (k : Key) (inner rest : List ℕ) → (first front == 91 && slice_index front 1 == 91) ≡ true → header_key (drop 2 front) ≡ Some (k, inner) → after_byte 93 inner ≡ Some rest
    → expression front ≡ Some ((k, array_table), rest)
unfolding expression
list_header_read front k inner rest opens read closed = rw (opens, read, closed)

-- a key and a value
entry_read : (front : List ℕ) (k : Key) (behind : List ℕ) (d : Data) (rest : List ℕ) → (first front == 91) ≡ false → key front ≡ Some (k, behind) → (first behind == 61) ≡ true
    → val recursion_limit (skip_ws (drop 1 behind)) ≡ Some (d, rest) → expression front ≡ Some ((k, key_value d), rest)
unfolding expression key_equals
entry_read front k behind d rest opens named equal read = rw (opens, named, equal, read)

-- ---- what each line is
-- one bracket
header_told : (front k behind left : List ℕ) (m : Meaning) (rest : List ℕ) → (first front == 91) ≡ true → (first front == 91 && slice_index front 1 == 91) ≡ false → one_key (skip_ws (drop 1 front)) ≡ Ok (k, behind)
    → bracket behind ≡ Ok left → told (header k) left ≡ Ok (m, rest) → IsRead expression front m rest
header_told front k behind left m rest opens alone named closed e =
    let is = same_read (header k) m left rest e in
    let whole : Expression = (key_alone k, std_table) in
    let read = header_read front (key_alone k) left opens alone (key_bracketed (drop 1 front) k behind left named closed) in
    (whole, subst (λ (n : Meaning). IsMeaningOf n whole) is.0 refl, read ∙ ap (λ (s : List ℕ). Some (whole, s)) is.1)

-- two brackets
list_header_told : (front k behind inner left : List ℕ) (m : Meaning) (rest : List ℕ) → (first front == 91 && slice_index front 1 == 91) ≡ true → one_key (skip_ws (drop 2 front)) ≡ Ok (k, behind)
    → bracket behind ≡ Ok inner → bracket inner ≡ Ok left → told (list_header k) left ≡ Ok (m, rest) → IsRead expression front m rest
list_header_told front k behind inner left m rest opens named closed outer e =
    let is = same_read (list_header k) m left rest e in
    let whole : Expression = (key_alone k, array_table) in
    let read = list_header_read front (key_alone k) inner left opens (key_bracketed (drop 2 front) k behind inner named closed) (bracket_in_toml inner left outer) in
    (whole, subst (λ (n : Meaning). IsMeaningOf n whole) is.0 refl, read ∙ ap (λ (s : List ℕ). Some (whole, s)) is.1)

-- a key, `=` and a value
entry_told : (size : ℕ) (front k behind : List ℕ) (written : Written) (left : List ℕ) (m : Meaning) (rest : List ℕ) → (first front == 91) ≡ false → one_key front ≡ Ok (k, behind) → (first behind == 61) ≡ true
    → value (skip_ws (drop 1 behind)) ≡ Ok (written, left) → told (entry k written (size - length (skip_ws (drop 1 behind)))) left ≡ Ok (m, rest) → IsRead expression front m rest
entry_told size front k behind written left m rest opens named equal valued e =
    let is = same_read (entry k written (size - length (skip_ws (drop 1 behind)))) m left rest e in
    let made = value_in_toml 79 (skip_ws (drop 1 behind)) written left valued in
    let whole : Expression = (key_alone k, key_value made.0) in
    let read = entry_read front (key_alone k) behind made.0 left opens (key_in_toml front k behind named).1 equal made.2 in
    (whole, subst (λ (n : Meaning). IsMeaningOf n whole) is.0 (made.0, made.1, refl), read ∙ ap (λ (s : List ℕ). Some (whole, s)) is.1)

-- the same from what is read of the line
header_in_toml : (front : List ℕ) (m : Meaning) (rest : List ℕ) → (first front == 91) ≡ true → (first front == 91 && slice_index front 1 == 91) ≡ false → header_line (drop 1 front) ≡ Ok (m, rest) → IsRead expression front m rest
header_in_toml front m rest opens alone e =
    let named = both_ok (one_key (skip_ws (drop 1 front))) (λ k. bracket k.1 >>= λ s. told (header k.0) s) (m, rest) e in
    let closed = both_ok (bracket named.0.1) (λ s. told (header named.0.0) s) (m, rest) named.2 in
    header_told front named.0.0 named.0.1 closed.0 m rest opens alone named.1 closed.1 closed.2

-- of a header of a list
list_header_in_toml : (front : List ℕ) (m : Meaning) (rest : List ℕ) → (first front == 91 && slice_index front 1 == 91) ≡ true → list_header_line (drop 2 front) ≡ Ok (m, rest) → IsRead expression front m rest
list_header_in_toml front m rest opens e =
    let named = both_ok (one_key (skip_ws (drop 2 front))) (λ k. bracket k.1 >>= λ inner. bracket inner >>= λ s. told (list_header k.0) s) (m, rest) e in
    let closed = both_ok (bracket named.0.1) (λ inner. bracket inner >>= λ s. told (list_header named.0.0) s) (m, rest) named.2 in
    let outer = both_ok (bracket closed.0) (λ s. told (list_header named.0.0) s) (m, rest) closed.2 in
    list_header_told front named.0.0 named.0.1 closed.0 outer.0 m rest opens named.1 closed.1 outer.1 outer.2

-- of a key and a value
entry_in_toml : (size : ℕ) (front : List ℕ) (m : Meaning) (rest : List ℕ) → (first front == 91) ≡ false → entry_line size front ≡ Ok (m, rest) → IsRead expression front m rest
entry_in_toml size front m rest opens e =
    let named = both_ok (one_key front) (λ k. entry_after size k.0 k.1) (m, rest) e in
    let at = skip_ws (drop 1 named.0.1) in
    let met = test_met (first named.0.1 == 61) (entry_of size named.0.0 at) _ (m, rest) named.2 in
    let valued = both_ok (value at) (λ v. told (entry named.0.0 v.0 (size - length at)) v.1) (m, rest) met.1 in
    entry_told size front named.0.0 named.0.1 valued.0.0 valued.0.1 m rest opens named.1 met.0 valued.1 valued.2

-- what stands at the front of a line is the expression that TOML reads there
meaning_in_toml : (size : ℕ) (front : List ℕ) (m : Meaning) (rest : List ℕ) → meaning_of size front ≡ Ok (m, rest) → IsRead expression front m rest
meaning_in_toml size front m rest e =
    elim (cases_Bool (first front == 91 && slice_index front 1 == 91)) [
      | inl two ↦ list_header_in_toml front m rest two (rw two at e)
      | inr alone ↦
          elim (cases_Bool (first front == 91)) [
            | inl opens ↦ header_in_toml front m rest opens alone (rw (alone, opens) at e)
            | inr other ↦ entry_in_toml size front m rest other (rw (alone, other) at e)
          ]
    ]

-- an expression that has its line to itself
line_read : (front : List ℕ) (e : Expression) (rest : List ℕ) → expression front ≡ Some (e, rest) → ends_line (skip_ws rest) ≡ true → line front ≡ Some (e, rest)
unfolding line
line_read front e rest read over = rw (read, over)

-- what a line is, where nothing else is on it
line_told : (front : List ℕ) (n : Meaning) (left : List ℕ) (m : Meaning) (rest : List ℕ) → IsRead expression front n left → ends_line (skip_ws left) ≡ true → told n left ≡ Ok (m, rest) → IsRead line front m rest
line_told front n left m rest (e, means, read) over same =
    let is = same_read n m left rest same in
    (e, subst (λ (n : Meaning). IsMeaningOf n e) is.0 means, rw (line_read front e left read over) (ap (λ (s : List ℕ). Some (e, s)) is.1))

-- a line is the line that TOML reads there
pub line_in_toml : (size : ℕ) (front : List ℕ) (m : Meaning) (rest : List ℕ) → line_of size front ≡ Ok (m, rest) → IsRead line front m rest
line_in_toml size front m rest e =
    let printable = test_not_met (is_unprintable front) (meaning_of size front >>= ended) _ (m, rest) e in
    let read = both_ok (meaning_of size front) ended (m, rest) printable.1 in
    let met = test_met (ends_line (skip_ws read.0.1)) (told read.0.0 read.0.1) _ (m, rest) read.2 in
    line_told front read.0.0 read.0.1 m rest (meaning_in_toml size front read.0.0 read.0.1 read.1) met.0 met.1

-- ---- all lines
-- one more line, and those after it
line_more : (n : ℕ) (doc : Document) (front : List ℕ) (e : Expression) (behind : List ℕ) (es : List Expression) (next : Option Document) → (length (skip_blank front) == 0) ≡ false → line (skip_blank front) ≡ Some (e, behind)
    → ((after : Document) → lines n after behind ≡ defined after es) → define doc e ≡ next → lines (suc n) doc front ≡ option_and_then (λ after. defined after es) next
line_more n doc front e behind es None some read rest is = turns.lines_refused (suc n) doc front e behind (omega arith) some read is
line_more n doc front e behind es (Some after) some read rest is =
    let less : suc n - 1 ≡ n = omega arith in
    turns.lines_more (suc n) doc after front e behind (omega arith) some read is ∙ rw less (rest after)

-- what the rest of the lines is in TOML: lines and their expressions, which the document has after it
abbrev pub AreRest : ℕ → ℕ → List TextLine → List ℕ → List TextLine → Type 0
AreRest size n found front all =
    (more : List TextLine) × (es : List (ℕ × Expression)) × (all ≡ found ++ more) × AllZip IsExpressionOf more es × (expressions_after size n front ≡ Some es)
    × ((doc : Document) → lines n doc front ≡ defined doc (map (λ e. e.1) es))

-- one more expression is read
read_more : (size n : ℕ) (front : List ℕ) (e : Expression) (behind : List ℕ) (es : List (ℕ × Expression)) → (length (skip_blank front) == 0) ≡ false → line (skip_blank front) ≡ Some (e, behind)
    → expressions_after size n behind ≡ Some es → expressions_after size (suc n) front ≡ Some ((size - length (skip_blank front), e) ∷ es)
unfolding expressions_after
read_more size n front e behind es some read rest = rw (some, read, rest)

-- none is left
read_none : (size n : ℕ) (front : List ℕ) → (length (skip_blank front) == 0) ≡ true → expressions_after size (suc n) front ≡ Some []
unfolding expressions_after
read_none size n front over = rw over

-- a line, and the rest
rest_more : (size n : ℕ) (found : List TextLine) (front : List ℕ) (l : TextLine) (e : Expression) (behind : List ℕ) (all : List TextLine) → (length (skip_blank front) == 0) ≡ false
    → IsExpressionOf l (size - length (skip_blank front), e) → line (skip_blank front) ≡ Some (e, behind) → AreRest size n (found ++ l ∷ []) behind all → AreRest size (suc n) found front all
rest_more size n found front l e behind all some is read (more, es, whole, zipped, told, rest) = (
  l ∷ more,
  (size - length (skip_blank front), e) ∷ es,
  whole ∙ append_assoc found (l ∷ []) more,
  (is, zipped),
  read_more size n front e behind es some read told,
  λ doc. line_more n doc front e behind (map (λ e. e.1) es) (define doc e) some read rest refl,
)

-- the rest of the lines is the rest that TOML reads
rest_in_toml : (size n : ℕ) (found : List TextLine) (front : List ℕ) (all : List TextLine) → lines_after size n found front ≡ Ok all → AreRest size n found front all
unfolding lines_after
rest_in_toml size zero found front all e = absurd (cc)
rest_in_toml size (suc n) found front all e =
    let start = skip_blank front in
    elim (cases_Bool (length start == 0)) [
      | inl over ↦
          let is : found ≡ all = let ok = rw over at e in cc in
          let none : length start ≡ 0 = grind (arith, nat_tests) in
          ([], [], sym is ∙ sym (append-nil found), tt, read_none size n front over, λ doc. turns.lines_end (suc n) doc front (omega arith) none)
      | inr some ↦
          let read = both_ok (line_of size start) (λ m. lines_after size n (found ++ record { at = size - length start; meaning = m.0 } ∷ []) m.1) all (rw some at e) in
          let l : TextLine = record { at = size - length start; meaning = read.0.0 } in
          let made = line_in_toml size start read.0.0 read.0.1 read.1 in
          rest_more size n found front l made.0 read.0.1 all some (refl, made.1) made.2 (rest_in_toml size n (found ++ l ∷ []) read.0.1 all read.2)
    ]

-- ---- the text
-- a byte order mark begins no key
mark_no_key : (n : ℕ) (path : List (List ℕ)) (front : List ℕ) → (first front == 239) ≡ true → key_after n path front ≡ None
unfolding key_after simple_key
mark_no_key zero path front mark = refl
mark_no_key (suc n) path front mark =
    let not_quote : (first front == 34) ≡ false = grind (arith, nat_tests) in
    let not_apostrophe : (first front == 39) ≡ false = grind (arith, nat_tests) in
    let not_bare : is_bare (first front) ≡ false = grind (arith, nat_tests) in
    rw (not_quote, not_apostrophe, not_bare)

-- nor a key of one part
mark_no_one_key : (front k rest : List ℕ) → (first front == 239) ≡ true → one_key front ≡ Ok (k, rest) → ⊥
mark_no_one_key front k rest mark e =
    let none : key front ≡ None = mark_no_key recursion_limit [] front mark in
    none-some _ (sym none ∙ (key_in_toml front k rest e).1)

-- no header is there
entry_there : (size : ℕ) (front : List ℕ) (m : Meaning × List ℕ) → (first front == 91) ≡ false → meaning_of size front ≡ Ok m → entry_line size front ≡ Ok m
entry_there size front m other e = rw other at e

-- nor does a line begin with it
mark_no_line : (size : ℕ) (front : List ℕ) (m : Meaning × List ℕ) → (first front == 239) ≡ true → line_of size front ≡ Ok m → ⊥
mark_no_line size front m mark e =
    let no_header : (first front == 91) ≡ false = grind (arith, nat_tests) in
    let printable = test_not_met (is_unprintable front) (meaning_of size front >>= ended) _ m e in
    let read = both_ok (meaning_of size front) ended m printable.1 in
    let entry_is = entry_there size front read.0 no_header read.1 in
    let named = both_ok (one_key front) (λ k. entry_after size k.0 k.1) read.0 entry_is in
    mark_no_one_key front named.0.0 named.0.1 mark named.1

-- nor a text of lines
mark_no_lines : (text : List ℕ) (all : List TextLine) → (first text == 239) ≡ true → text_lines text ≡ Ok all → ⊥
unfolding lines_after
mark_no_lines [] all mark e = absurd (grind (arith, nat_tests))
mark_no_lines (c ∷ cs) all mark e =
    let text = c ∷ cs in
    let size = length text in
    let same : skip_blank text ≡ text = skip_none text c refl (grind (arith, nat_tests)) in
    let some : (length (skip_blank text) == 0) ≡ false = rw same (grind (arith, nat_tests)) in
    let read = both_ok (line_of size (skip_blank text)) (λ m. lines_after size size (record { at = size - length (skip_blank text); meaning = m.0 } ∷ []) m.1) all (rw some at e) in
    mark_no_line size (skip_blank text) read.0 (rw same mark) read.1

-- so nothing is skipped before the lines
no_mark : (text : List ℕ) (all : List TextLine) → text_lines text ≡ Ok all → skip_bom text ≡ text
unfolding skip_bom
no_mark text all e =
    elim (cases_Bool ((first text == 239 && slice_index text 1 == 187) && slice_index text 2 == 191)) [
      | inl mark ↦ absurd (mark_no_lines text all (and_parts _ _ (and_parts _ _ mark).0).0 e)
      | inr other ↦ rw other
    ]

-- what the lines of a text say is what TOML says of it
pub lines_in_toml : (text : List ℕ) (lines : List TextLine) → text_lines text ≡ Ok lines → AreLinesOfToml text lines
unfolding parse_document
lines_in_toml text lines e =
    let (more, es, whole, zipped, told, rest) = rest_in_toml (length text) (suc (length text)) [] text lines e in
    record { expressions = es; each = subst (λ (all : List TextLine). AllZip IsExpressionOf all es) (sym whole) zipped; read = told; all = rw (no_mark text lines e) (ap (option_map (λ doc. close doc.0)) (rest (no_nodes, []))) }
