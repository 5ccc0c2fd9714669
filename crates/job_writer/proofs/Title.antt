-- A title in quotes, with its escapes.
use Rattle.std.proofs.Common.{◌≡◌, ℕ, suc, ◌+◌, ◌/◌, ◌%◌, ◌<◌, ◌≤◌, inl, inr, true, false, ◌&&◌, ◌==◌, nat_le, ltb, List, [], ◌∷◌, ◌++◌, length, slice_index, Some, IsUtf8, codes, refl, sym, ap, ◌∙◌, arith, append_assoc, encode_utf8, encode_utf8_all}
use Rattle.std.proofs.lemmas.Bool.{cases_Bool, cases_eq, cases_lt, and_parts, and_left}
use Rattle.std.proofs.lemmas.Bool.Decides.{nat_tests}
use Rattle.std.proofs.lemmas.Str.{encode_ascii, encodes-chars}
use Rattle.std.specs.List.{flat_map, list_all}
use Rattle.std.specs.Str.{chars}
use lib.Utf8.{encode}
use Rattle.toml_parser.specs.Lexical.{first}
use Rattle.toml_parser.specs.Strings.{body, quoted, one_line}
use Rattle.toml_writer.specs.Text.{needs_escape, quotes_after, escaped}
use Rattle.toml_writer.proofs.Escapes.{Escaped-needed, quotes_after_other, apart_from_plain, needs_quote}
use Rattle.toml_writer.proofs.Bodies.{escaped-cons, escaped-nil, body_escaped}
use Rattle.toml.specs.Data.{string}
use Rattle.toml.specs.Parse.{atom, val}
use Rattle.toml.proofs.Turns.{val_atom}
use Rattle.job_file.specs.Texts.{is_title_char, is_title}
use Rattle.job_writer.specs.Pairs.{escaped_char, escaped_title, in_quotes}
use Rattle.job_writer.proofs.Values.{IsReadAs}

-- ---- the escapes are those of the crate for TOML
-- bytes that aren't ASCII
wide_two : (a b : ℕ) → list_all (nat_le 128) ((192 + a) ∷ (128 + b) ∷ []) ≡ true
wide_two a b = grind (arith, nat_tests)

wide_three : (a b c : ℕ) → list_all (nat_le 128) ((224 + a) ∷ (128 + b) ∷ (128 + c) ∷ []) ≡ true
wide_three a b c = grind (arith, nat_tests)

wide_four : (a b c d : ℕ) → list_all (nat_le 128) ((240 + a) ∷ (128 + b) ∷ (128 + c) ∷ (128 + d) ∷ []) ≡ true
wide_four a b c d = grind (arith, nat_tests)

wide : (c : ℕ) → ltb c 128 ≡ false → list_all (nat_le 128) (encode_utf8 c) ≡ true
unfolding encode
wide c large =
    elim (cases_Bool (ltb c 2048)) [
      | inl two ↦ rw (large, two) (wide_two (c / 64) (c % 64))
      | inr more ↦ elim (cases_Bool (ltb c 65536)) [
        | inl three ↦ rw (large, more, three) (wide_three (c / 4096) (c / 64 % 64) (c % 64))
        | inr four ↦ rw (large, more, four) (wide_four (c / 262144) (c / 4096 % 64) (c / 64 % 64) (c % 64))
      ]
    ]

plain_byte : (c : ℕ) (s : List ℕ) → needs_escape false 0 c ≡ false → (c == 34) ≡ false → escaped false 0 (c ∷ s) ≡ c ∷ escaped false 0 s
unfolding escaped
plain_byte c s plain other = rw (plain, quotes_after_other false 0 c other)

wide_kept : (bytes s : List ℕ) → list_all (nat_le 128) bytes ≡ true → escaped false 0 (bytes ++ s) ≡ bytes ++ escaped false 0 s
unfolding needs_escape
wide_kept [] s all = refl
wide_kept (c ∷ cs) s all =
    let (here, more) = and_parts (nat_le 128 c) (list_all (nat_le 128) cs) all in
    let plain : needs_escape false 0 c ≡ false = grind (arith, nat_tests) in
    let other : (c == 34) ≡ false = grind (arith, nat_tests) in
    plain_byte c (cs ++ s) plain other ∙ ap (λ (t : List ℕ). c ∷ t) (wide_kept cs s more)

-- one character
quote_kept : (s : List ℕ) → escaped false 0 (34 ∷ s) ≡ 92 ∷ 34 ∷ escaped false 0 s
unfolding escaped needs_escape quotes_after
quote_kept s = refl

backslash_kept : (s : List ℕ) → escaped false 0 (92 ∷ s) ≡ 92 ∷ 92 ∷ escaped false 0 s
unfolding escaped needs_escape quotes_after
backslash_kept s = refl

ascii_kept : (c : ℕ) (s : List ℕ) → c < 128 → is_title_char c ≡ true → escaped false 0 (c ∷ s) ≡ escaped_char c ++ escaped false 0 s
unfolding needs_escape
ascii_kept c s small fine =
    elim (cases_eq c 34) [
      | inl quote ↦ rw quote (quote_kept s)
      | inr no_quote ↦ elim (cases_eq c 92) [
        | inl backslash ↦ rw backslash (backslash_kept s)
        | inr no_backslash ↦
            let other : (c == 34) ≡ false = grind (arith, nat_tests) in
            let another : (c == 92) ≡ false = grind (arith, nat_tests) in
            let plain : needs_escape false 0 c ≡ false = grind (arith, nat_tests) in
            rw (other, another, encode_ascii c small) (plain_byte c s plain other)
      ]
    ]

wide_is : (c : ℕ) → 128 ≤ c → escaped_char c ≡ encode_utf8 c
wide_is c large =
    let other : (c == 34) ≡ false = grind (arith, nat_tests) in
    let another : (c == 92) ≡ false = grind (arith, nat_tests) in
    rw (other, another)

char_kept : (c : ℕ) (s : List ℕ) → is_title_char c ≡ true → escaped false 0 (encode_utf8 c ++ s) ≡ escaped_char c ++ escaped false 0 s
char_kept c s fine =
    elim (cases_lt c 128) [
      | inl small ↦ ap (λ (t : List ℕ). escaped false 0 (t ++ s)) (encode_ascii c small) ∙ ascii_kept c s small fine
      | inr large ↦ rw (wide_is c large) (wide_kept (encode_utf8 c) s (wide c (grind (arith, nat_tests))))
    ]

chars_kept : (cs : List ℕ) → list_all is_title_char cs ≡ true → escaped false 0 (encode_utf8_all cs) ≡ flat_map escaped_char cs
chars_kept [] fine = escaped-nil false 0
chars_kept (c ∷ cs) fine =
    let (here, more) = and_parts (is_title_char c) (list_all is_title_char cs) fine in
    char_kept c (encode_utf8_all cs) here ∙ ap (λ (t : List ℕ). escaped_char c ++ t) (chars_kept cs more)

title_kept : (title : List ℕ) → IsUtf8 title → list_all is_title_char (chars title) ≡ true → escaped_title title ≡ escaped false 0 title
title_kept title utf8 fine = sym (chars_kept (chars title) fine) ∙ ap (escaped false 0) (encodes-chars title utf8)

-- ---- the text is read
-- two quotes begin no title before the end of its line
no_more_quotes : (s rest : List ℕ) → let t = escaped false 0 s ++ (34 ∷ 10 ∷ rest) in (first t == 34 && slice_index t 1 == 34) ≡ false
no_more_quotes [] rest = rw (escaped-nil false 0)
no_more_quotes (c ∷ cs) rest =
    let turn = escaped-cons false 0 c cs (34 ∷ 10 ∷ rest) in
    elim (cases_Bool (needs_escape false 0 c)) [
      | inl needed ↦ let e = Escaped-needed false 0 c needed in rw (turn, needed, e.text)
      | inr plain ↦ rw (turn, plain) (and_left (c == 34) _ (apart_from_plain false 0 c 34 plain (needs_quote 0)))
    ]

one_quote : (t : List ℕ) → (first t == 34 && slice_index t 1 == 34) ≡ false → quoted (34 ∷ t) ≡ body 34 false (suc (length t)) t
unfolding quoted one_line
one_quote t other = rw other

quoted_read : (s rest : List ℕ) → quoted (34 ∷ (escaped false 0 s ++ (34 ∷ 10 ∷ rest))) ≡ Some (s, 10 ∷ rest)
quoted_read s rest = one_quote _ (no_more_quotes s rest) ∙ body_escaped false s (10 ∷ rest) 0 _ (omega arith) refl (omega arith)

value_read : (t s rest : List ℕ) → quoted (34 ∷ t) ≡ Some (s, rest) → val 80 (34 ∷ t) ≡ Some (string s, rest)
unfolding atom
value_read t s rest read = val_atom 80 (34 ∷ t) refl refl ∙ rw read

pub title_read : (title : List ℕ) → IsUtf8 title → is_title title ≡ true → IsReadAs (in_quotes (escaped_title title)) (string title)
title_read title utf8 fine rest =
    let kept = title_kept title utf8 (and_parts (nat_le (length title) 120) (list_all is_title_char (chars title)) fine).1 in
    let whole : in_quotes (escaped_title title) ++ 10 ∷ rest ≡ 34 ∷ (escaped false 0 title ++ (34 ∷ 10 ∷ rest)) = rw kept (ap (λ (t : List ℕ). 34 ∷ t) (append_assoc (escaped false 0 title) (codes "\"") (10 ∷ rest))) in
    (refl, rw whole (value_read _ title (10 ∷ rest) (quoted_read title rest)))
