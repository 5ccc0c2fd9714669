-- The title of a sheet, character by character.
use Rattle.std.proofs.Common.{◌≡◌, ℕ, ◌+◌, ◌-◌, ◌<◌, ◌≤◌, Bool, true, false, ◌||◌, List, [], ◌∷◌, ◌++◌, length, get_or, drop, refl, sym, ap, ◌∙◌, append_assoc, arith}
use Rattle.std.specs.Prelude.{IsTrue, ◌==◌, encode_utf8_all, nat_le, if◌then◌else◌}
use Rattle.std.specs.Char.{encode_utf8}
use Rattle.std.specs.List.{list_all}
use Rattle.std.specs.Str.{IsUtf8, chars}
use Rattle.std.proofs.lemmas.Bool.{eqb-false, eqb-true, le-leb, lt-leb, ne_eqb}
use Rattle.std.proofs.lemmas.List.{append-nil, at_drop_more, drop_all}
use Rattle.std.proofs.lemmas.Str.{chars-nil, chars_from_encodes, length-le-encodes}
use Rattle.job_file.specs.Texts.{is_title, is_title_char}
use Rattle.sheet_input.specs.Titles.{has_stop, before_stop, kept, stem}

-- ---- before the last full stop
-- the bytes before the last full stop of a name: `all` of it is read, `front` of that is before a stop, and the characters `rest` are left
abbrev pub front_with : List ℕ → List ℕ → List ℕ → List ℕ
front_with front all rest = if has_stop rest then all ++ encode_utf8_all (before_stop rest) else front

none_before : (cs : List ℕ) → has_stop cs ≡ false → before_stop cs ≡ []
none_before [] h = refl
none_before (c ∷ rest) h = by (c == 46) (has_stop rest) h
  where
    by : (is more : Bool) → (is || more) ≡ false → (if more then c ∷ before_stop rest else []) ≡ []
    by false false h = refl
    by false true h = absurd (cc)
    by true more h = absurd (cc)

-- at the beginning nothing is read
pub front_at_start : (front all cs : List ℕ) → front ≡ [] → all ≡ [] → front_with front all cs ≡ encode_utf8_all (before_stop cs)
front_at_start front all cs no_front none =
    ap (λ (t : List ℕ). front_with t all cs) no_front ∙ ap (λ (t : List ℕ). front_with [] t cs) none ∙ go (has_stop cs) refl
  where
    go : (b : Bool) → has_stop cs ≡ b → (if b then encode_utf8_all (before_stop cs) else []) ≡ encode_utf8_all (before_stop cs)
    go true h = refl
    go false h = sym (ap encode_utf8_all (none_before cs h))

-- one more character is read
front_of_more : (front all rest : List ℕ) (c : ℕ) → front_with (if c == 46 then all else front) (all ++ encode_utf8 c) rest ≡ front_with front all (c ∷ rest)
front_of_more front all rest c = by (c == 46) (has_stop rest)
  where
    by : (is more : Bool)
        → (if more then (all ++ encode_utf8 c) ++ encode_utf8_all (before_stop rest) else (if is then all else front))
        ≡ (if (is || more) then all ++ encode_utf8_all (if more then c ∷ before_stop rest else []) else front)
    by true true = append_assoc all (encode_utf8 c) (encode_utf8_all (before_stop rest))
    by false true = append_assoc all (encode_utf8 c) (encode_utf8_all (before_stop rest))
    by true false = sym (append-nil all)
    by false false = refl

-- a stop moves the front to all that is read, and any other character keeps it
pub front_after_stop : (front all new : List ℕ) (c : ℕ) → c ≡ 46 → new ≡ all → new ≡ (if c == 46 then all else front)
front_after_stop front all new c stop same = same ∙ sym (ap (λ (x : ℕ). if x == 46 then all else front) stop)

pub front_after_other : (front all new : List ℕ) (c : ℕ) → (c ≡ 46 → ⊥) → new ≡ front → new ≡ (if c == 46 then all else front)
front_after_other front all new c other same = same ∙ sym (ap (λ (b : Bool). if b then all else front) (ne_eqb c 46 other))

-- so it is with each character of a list
pub front_after_char : (front all new more whole cs : List ℕ) (n c : ℕ) → (n < length cs) × (c ≡ get_or cs n c) → new ≡ (if c == 46 then all else front) → more ≡ all ++ encode_utf8 c
    → front_with front all (drop n cs) ≡ whole → front_with new more (drop (n + 1) cs) ≡ whole
front_after_char front all new more whole cs n c turn stop step before =
    let here : front_with front all (drop n cs) ≡ front_with front all (c ∷ drop (n + 1) cs) =
    at_drop_more (front_with front all) cs n c turn.0 ∙ ap (λ (x : ℕ). front_with front all (x ∷ drop (n + 1) cs)) (sym turn.1) in
    ap (λ (t : List ℕ). front_with t more (drop (n + 1) cs)) stop ∙ ap (λ (t : List ℕ). front_with (if c == 46 then all else front) t (drop (n + 1) cs)) step
    ∙ front_of_more front all (drop (n + 1) cs) c ∙ sym here ∙ before

-- after the last character
pub front_at_end : (front all whole cs : List ℕ) (n : ℕ) → length cs ≤ n → front_with front all (drop n cs) ≡ whole → front ≡ whole
front_at_end front all whole cs n last before = sym (ap (front_with front all) (drop_all n cs last)) ∙ before

-- ---- a name without its ending
-- if nothing is before a stop, it is the whole name
pub stem_whole : (name front : List ℕ) → front ≡ encode_utf8_all (before_stop (chars name)) → (length front == 0) ≡ true → chars name ≡ stem (chars name)
stem_whole name front same none =
    let cs = chars name in
    let empty : length (before_stop cs) ≡ 0 = omega (arith, length-le-encodes (before_stop cs), ap length same, eqb-true (length front) 0 none) in
    sym (ap (λ (n : ℕ). if n == 0 then cs else before_stop cs) empty)

-- or else it is what is before the last stop
pub stem_front : (name front : List ℕ) → IsUtf8 front → front ≡ encode_utf8_all (before_stop (chars name)) → (length front == 0) ≡ false → chars front ≡ stem (chars name)
stem_front name front utf8 same some = sym (chars_from_encodes (before_stop (chars name)) front utf8 (sym same)) ∙ go (before_stop (chars name)) same
  where
    go : (ds : List ℕ) → front ≡ encode_utf8_all ds → ds ≡ (if length ds == 0 then chars name else ds)
    go [] is = absurd (eqb-false (length front) 0 some (ap length is))
    go (d ∷ ds) is = sym (ap (λ (b : Bool). if b then chars name else d ∷ ds) (ne_eqb (length (d ∷ ds)) 0 (λ e. absurd (omega arith))))

-- ---- as far as there is room
-- the bytes `text` are kept, `room` more fit, and the characters `rest` are left
abbrev pub kept_with : List ℕ → ℕ → List ℕ → List ℕ
kept_with text room rest = text ++ kept room rest

-- at the beginning nothing is kept
pub kept_at_start : (text cs : List ℕ) (room : ℕ) → text ≡ [] → kept_with text room cs ≡ kept room cs
kept_at_start text cs room empty = ap (λ (t : List ℕ). kept_with t room cs) empty

-- the next character
kept_here : (text cs : List ℕ) (room n c : ℕ) → (n < length cs) × (c ≡ get_or cs n c) → kept_with text room (drop n cs) ≡ kept_with text room (c ∷ drop (n + 1) cs)
kept_here text cs room n c turn = at_drop_more (kept_with text room) cs n c turn.0 ∙ ap (λ (x : ℕ). kept_with text room (x ∷ drop (n + 1) cs)) (sym turn.1)

-- if it fits, it is kept
kept_more : (text rest : List ℕ) (room c : ℕ) → length (encode_utf8 c) ≤ room → kept_with (text ++ encode_utf8 c) (room - length (encode_utf8 c)) rest ≡ kept_with text room (c ∷ rest)
kept_more text rest room c fits = by (nat_le (length (encode_utf8 c)) room) (le-leb (length (encode_utf8 c)) room fits)
  where
    next : List ℕ
    next = encode_utf8 c ++ kept (room - length (encode_utf8 c)) rest

    by : (b : Bool) → b ≡ true → (text ++ encode_utf8 c) ++ kept (room - length (encode_utf8 c)) rest ≡ text ++ (if b then next else [])
    by true h = append_assoc text (encode_utf8 c) (kept (room - length (encode_utf8 c)) rest)
    by false h = absurd (cc)

pub kept_after_char : (text new whole cs : List ℕ) (room left size n c : ℕ) → (n < length cs) × (c ≡ get_or cs n c) → size ≡ length (encode_utf8 c) → size ≤ room → left ≡ room - size
    → new ≡ text ++ encode_utf8 c → kept_with text room (drop n cs) ≡ whole → kept_with new left (drop (n + 1) cs) ≡ whole
kept_after_char text new whole cs room left size n c turn long fits less step before =
    let rest = drop (n + 1) cs in
    let within : length (encode_utf8 c) ≤ room = omega (arith, long) in
    let is_left : left ≡ room - length (encode_utf8 c) = less ∙ ap (λ (k : ℕ). room - k) long in
    ap (λ (t : List ℕ). kept_with t left rest) step ∙ ap (λ (k : ℕ). kept_with (text ++ encode_utf8 c) k rest) is_left
    ∙ kept_more text rest room c within ∙ sym (kept_here text cs room n c turn) ∙ before

-- if it doesn't fit, nothing more is kept
pub kept_before : (text whole cs : List ℕ) (room size n c : ℕ) → (n < length cs) × (c ≡ get_or cs n c) → size ≡ length (encode_utf8 c) → room < size → kept_with text room (drop n cs) ≡ whole → text ≡ whole
kept_before text whole cs room size n c turn long wide before = go (nat_le (length (encode_utf8 c)) room) (lt-leb (length (encode_utf8 c)) room (omega (arith, long))) ∙ sym (kept_here text cs room n c turn) ∙ before
  where
    next : List ℕ
    next = encode_utf8 c ++ kept (room - length (encode_utf8 c)) (drop (n + 1) cs)

    go : (b : Bool) → b ≡ false → text ≡ text ++ (if b then next else [])
    go true h = absurd (cc)
    go false h = sym (append-nil text)

-- after the last character
pub kept_at_end : (text whole cs : List ℕ) (room n : ℕ) → length cs ≤ n → kept_with text room (drop n cs) ≡ whole → text ≡ whole
kept_at_end text whole cs room n last before = sym (append-nil text) ∙ sym (ap (kept_with text room) (drop_all n cs last)) ∙ before

-- ---- the empty title
-- a title may be empty
pub empty_proper : (title : List ℕ) → title ≡ [] → IsTrue (is_title title)
empty_proper title none = ap is_title none ∙ ap (list_all is_title_char) chars-nil
