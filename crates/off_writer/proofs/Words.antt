-- Texts of words, each with a space or a line feed behind it, and the tokens of such texts.
use Rattle.std.proofs.Common.{◌≡◌, ℕ, ◌+◌, ◌-◌, ◌<◌, Bool, true, false, List, [], ◌∷◌, ◌++◌, length, drop, filter, refl, sym, ap, subst, ◌∙◌, arith, append_assoc, ne_eqb, lt-ltb, ltb-true, drop-drop}
use Rattle.std.specs.Prelude.{nat_lt}
use Rattle.std.specs.List.{list_all, flat_map}
use Rattle.std.proofs.lemmas.Bool.{and_parts}
use Rattle.std.proofs.Math.Seq.{take-append_seam, drop-append-add}
use Rattle.lex_lines.specs.declared.token.Token.{Token}
use Rattle.lex_lines.specs.Scan.{between, inside, ends_run, tokens_from}
use Rattle.lex_lines.proofs.Steps.{token, begin_step, run_step, end_step}
use Rattle.part_text.specs.Words.{text_of}

-- ---- words
-- a word with a space behind it, or the last word of its line, with a line feed
pub data Word : Type 0 where
  spaced : List ℕ → Word
  ending : List ℕ → Word

abbrev pub letters : Word → List ℕ
letters (spaced text) = text
letters (ending text) = text

abbrev pub mark : Word → ℕ
mark (spaced text) = 32
mark (ending text) = 10

-- the line of what stands behind a word on this line
abbrev pub line_behind : ℕ → Word → ℕ
line_behind line (spaced text) = line
line_behind line (ending text) = line + 1

abbrev pub spelled : List Word → List ℕ
spelled [] = []
spelled (word ∷ words) = letters word ++ (mark word ∷ spelled words)

pub spelled-append : (words others : List Word) → spelled (words ++ others) ≡ spelled words ++ spelled others
spelled-append [] others = refl
spelled-append (word ∷ words) others =
    ap (λ (text : List ℕ). letters word ++ (mark word ∷ text)) (spelled-append words others)
    ∙ sym (append_assoc (letters word) (mark word ∷ spelled words) (spelled others))

pub spelled-flat_map : {X : Type 0} (words_of : X → List Word) (line_of : X → List ℕ) → ((x : X) → spelled (words_of x) ≡ line_of x) → (xs : List X)
    → spelled (flat_map words_of xs) ≡ flat_map line_of xs
spelled-flat_map words_of line_of each [] = refl
spelled-flat_map words_of line_of each (x ∷ xs) =
    spelled-append (words_of x) (flat_map words_of xs) ∙ rw (each x, spelled-flat_map words_of line_of each xs) refl

-- ---- plain words
-- some bytes, each above `#`, as digits, letters, `-` and `.` are
pub record IsPlain (text : List ℕ) : Type 0 where
  pub some : 0 < length text
  pub above : list_all (nat_lt 35) text ≡ true

abbrev pub ArePlain : List Word → Type 0
ArePlain [] = Unit {0}
ArePlain (word ∷ words) = IsPlain (letters word) × ArePlain words

pub plain-append : (words others : List Word) → ArePlain words → ArePlain others → ArePlain (words ++ others)
plain-append [] others p q = q
plain-append (word ∷ words) others (first, p) q = (first, plain-append words others p q)

-- no byte of a plain word ends a run
pub run_goes_on : (comments : Bool) (byte : ℕ) → 35 < byte → ends_run comments byte ≡ false
run_goes_on true byte h =
    rw (
      ne_eqb byte 9 (λ e. omega (arith, e, h)),
      ne_eqb byte 11 (λ e. omega (arith, e, h)),
      ne_eqb byte 12 (λ e. omega (arith, e, h)),
      ne_eqb byte 13 (λ e. omega (arith, e, h)),
      ne_eqb byte 32 (λ e. omega (arith, e, h)),
      ne_eqb byte 10 (λ e. omega (arith, e, h)),
      ne_eqb byte 35 (λ e. omega (arith, e, h)),
    ) refl
run_goes_on false byte h =
    rw (
      ne_eqb byte 9 (λ e. omega (arith, e, h)),
      ne_eqb byte 11 (λ e. omega (arith, e, h)),
      ne_eqb byte 12 (λ e. omega (arith, e, h)),
      ne_eqb byte 13 (λ e. omega (arith, e, h)),
      ne_eqb byte 32 (λ e. omega (arith, e, h)),
      ne_eqb byte 10 (λ e. omega (arith, e, h)),
    ) refl

first_above : (byte : ℕ) (text : List ℕ) → list_all (nat_lt 35) (byte ∷ text) ≡ true → (35 < byte) × (list_all (nat_lt 35) text ≡ true)
first_above byte text h = let both = and_parts (nat_lt 35 byte) (list_all (nat_lt 35) text) h in (ltb-true 35 byte both.0, both.1)

-- ---- the token of a word
goes_on : (comments : Bool) (text rest : List ℕ) (place line start : ℕ) → list_all (nat_lt 35) text ≡ true
    → tokens_from comments (text ++ rest) place line (inside start) ≡ tokens_from comments rest (place + length text) line (inside start)
goes_on comments [] rest place line start h = let e : place ≡ place + 0 = omega arith in ap (λ (p : ℕ). tokens_from comments rest p line (inside start)) e
goes_on comments (byte ∷ text) rest place line start h =
    let both = first_above byte text h in
    let e : place + 1 + length text ≡ place + length (byte ∷ text) = omega arith in
    run_step comments byte (text ++ rest) place line start (run_goes_on comments byte both.0) ∙ goes_on comments text rest (place + 1) line start both.1
    ∙ ap (λ (p : ℕ). tokens_from comments rest p line (inside start)) e

begins : (comments : Bool) (text rest : List ℕ) (place line : ℕ) → 0 < length text → list_all (nat_lt 35) text ≡ true
    → tokens_from comments (text ++ rest) place line between ≡ tokens_from comments (text ++ rest) place line (inside place)
begins comments [] rest place line some h = absurd (omega (arith, some))
begins comments (byte ∷ text) rest place line some h =
    let solid = run_goes_on comments byte (first_above byte text h).0 in
    begin_step comments byte (text ++ rest) place line solid ∙ sym (run_step comments byte (text ++ rest) place line place solid)

mark_ends : (comments : Bool) (word : Word) → ends_run comments (mark word) ≡ true
mark_ends comments (spaced text) = refl
mark_ends comments (ending text) = refl

-- behind a mark the pass is between tokens
behind_mark : (comments : Bool) (word : Word) (rest : List ℕ) (place line : ℕ)
    → tokens_from comments (mark word ∷ rest) place line between ≡ tokens_from comments rest (place + 1) (line_behind line word) between
behind_mark true (spaced text) rest place line = refl
behind_mark false (spaced text) rest place line = refl
behind_mark true (ending text) rest place line = refl
behind_mark false (ending text) rest place line = refl

pub word_token : (comments : Bool) (word : Word) (rest : List ℕ) (place line : ℕ) → IsPlain (letters word)
    → tokens_from comments (letters word ++ (mark word ∷ rest)) place line between
    ≡ token place (place + length (letters word)) line ∷ tokens_from comments rest (place + length (letters word) + 1) (line_behind line word) between
word_token comments word rest place line plain =
    let text = letters word in
    let end = place + length text in
    begins comments text (mark word ∷ rest) place line plain.some plain.above ∙ goes_on comments text (mark word ∷ rest) place line place plain.above
    ∙ end_step comments (mark word) rest end line place (mark_ends comments word)
    ∙ ap (λ (tokens : List Token). token place end line ∷ tokens) (behind_mark comments word rest end line)

-- ---- tokens that spell words
-- the tokens' texts are these words, the first on this line
abbrev pub Spells : List ℕ → ℕ → List Word → List Token → Type 0
Spells bytes line [] [] = Unit {0}
Spells bytes line [] (t ∷ tokens) = ⊥
Spells bytes line (word ∷ words) [] = ⊥
Spells bytes line (word ∷ words) (t ∷ tokens) = (text_of bytes t ≡ letters word) × (t.line ≡ line) × Spells bytes (line_behind line word) words tokens

bytes_here : (bytes text : List ℕ) (byte : ℕ) (rest : List ℕ) (place line : ℕ) → drop place bytes ≡ text ++ (byte ∷ rest) → text_of bytes (token place (place + length text) line) ≡ text
bytes_here bytes text byte rest place line here =
    let size : place + length text - place ≡ length text = omega arith in
    rw (size, here) (take-append_seam text (byte ∷ rest))

bytes_behind : (bytes text : List ℕ) (byte : ℕ) (rest : List ℕ) (place : ℕ) → drop place bytes ≡ text ++ (byte ∷ rest) → drop (place + length text + 1) bytes ≡ rest
bytes_behind bytes text byte rest place here =
    let e : place + length text + 1 ≡ place + (length text + 1) = omega arith in
    rw e (sym (drop-drop (length text + 1) place bytes) ∙ ap (drop (length text + 1)) here ∙ drop-append-add text (byte ∷ rest) 1)

pub spells : (comments : Bool) (bytes : List ℕ) (words : List Word) (place line : ℕ) → ArePlain words → drop place bytes ≡ spelled words
    → Spells bytes line words (tokens_from comments (spelled words) place line between)
spells comments bytes [] place line plain here = tt
spells comments bytes (word ∷ words) place line (first, plain) here =
    let text = letters word in
    let rest = spells comments bytes words (place + length text + 1) (line_behind line word) plain (bytes_behind bytes text (mark word) (spelled words) place here) in
    subst (Spells bytes line (word ∷ words)) (sym (word_token comments word (spelled words) place line first))
    (bytes_here bytes text (mark word) (spelled words) place line here, refl, rest)

-- ---- later lines
later_behind : (before line : ℕ) (word : Word) → before < line → before < line_behind line word
later_behind before line (spaced text) h = h
later_behind before line (ending text) h = omega (arith, h)

-- words on later lines stay where the rest of a line is passed over
pub later_kept : (bytes : List ℕ) (before line : ℕ) (words : List Word) (tokens : List Token) → before < line → Spells bytes line words tokens
    → filter (λ t. nat_lt before t.line) tokens ≡ tokens
later_kept bytes before line [] [] h s = refl
later_kept bytes before line [] (t ∷ tokens) h s = absurd s
later_kept bytes before line (word ∷ words) [] h s = absurd s
later_kept bytes before line (word ∷ words) (t ∷ tokens) h (text, at, more) =
    let later : nat_lt before t.line ≡ true = lt-ltb before t.line (let k : before < t.line = rw at h in k) in
    let rest = later_kept bytes before (line_behind line word) words tokens (later_behind before line word h) more in
    rw (later, rest) refl
