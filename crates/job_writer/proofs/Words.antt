-- Words in quotes, lists of them, and numbers.
use Rattle.std.proofs.Common.{◌≡◌, ℕ, ◌^◌, ◌<◌, ◌≤◌, ℤ, pos, unsigned_abs, Bool, true, false, not, ◌&&◌, ◌==◌, nat_le, nat_lt, List, [], ◌∷◌, ◌++◌, map, codes, decimal, refl, sym, arith, append_assoc}
use Rattle.std.proofs.lemmas.Bool.{and_parts}
use Rattle.std.proofs.lemmas.Bool.Decides.{nat_tests}
use Rattle.std.proofs.lemmas.Int.{fits_signed_from_abs}
use Rattle.std.specs.Fmt.{signed_decimal}
use Rattle.std.specs.Int.{w64}
use Rattle.std.specs.List.{list_all, list_any}
use Rattle.lattice.specs.Triple.{Triple}
use Rattle.toml_parser.specs.Lexical.{backslash}
use Rattle.toml_writer.specs.Text.{is_control, needs_escape, escaped, has, encoding_of, string_text}
use Rattle.toml_writer.proofs.Escapes.{quotes_after_other}
use Rattle.toml.specs.Data.{string, integer, array, Items, no_items, item, items_depth, items_have_valid_dates}
use Rattle.toml.specs.Text.{IsItemsText, breaks_lines}
use Rattle.toml.specs.View.{items_of}
use Rattle.job_writer.specs.Pairs.{in_quotes, behind_commas, in_brackets}
use Rattle.job_writer.specs.PlainJobs.{direction_text}
use Rattle.job_writer.proofs.Values.{IsReadAs, printed}

-- a byte of ASCII behind `"`, but `\` and the control character
abbrev pub is_word_byte : ℕ → Bool
is_word_byte c = nat_le 35 c && (nat_lt c 127 && not (c == backslash))

abbrev pub IsWord : List ℕ → Type 0
IsWord text = list_all is_word_byte text ≡ true

word_more : (c : ℕ) (cs : List ℕ) → IsWord (c ∷ cs) → (is_word_byte c ≡ true) × IsWord cs
word_more c cs is = and_parts (is_word_byte c) (list_all is_word_byte cs) is

-- ---- a word needs no escape
no_control : (text : List ℕ) → IsWord text → list_any is_control text ≡ false
no_control [] is = refl
no_control (c ∷ cs) is =
    let (here, more) = word_more c cs is in
    let other : is_control c ≡ false = grind (arith, nat_tests) in
    rw other (no_control cs more)

has_none : (mark : ℕ) (text : List ℕ) → is_word_byte mark ≡ false → IsWord text → has mark text ≡ false
has_none mark [] none is = refl
has_none mark (c ∷ cs) none is =
    let (here, more) = word_more c cs is in
    let other : (c == mark) ≡ false = grind (arith, nat_tests) in
    rw other (has_none mark cs none more)

unescaped : (text : List ℕ) → IsWord text → escaped false 0 text ≡ text
unfolding escaped needs_escape
unescaped [] is = refl
unescaped (c ∷ cs) is =
    let (here, more) = word_more c cs is in
    let plain : needs_escape false 0 c ≡ false = grind (arith, nat_tests) in
    let other : (c == 34) ≡ false = grind (arith, nat_tests) in
    rw (plain, quotes_after_other false 0 c other, unescaped cs more)

word_text : (text : List ℕ) → IsWord text → string_text text ≡ in_quotes text
unfolding string_text encoding_of
word_text text is = rw (no_control text is, has_none 92 text refl is, has_none 34 text refl is, has_none 10 text refl is, unescaped text is)

pub word_read : (text : List ℕ) → IsWord text → IsReadAs (in_quotes text) (string text)
word_read text is = printed (in_quotes text) (string text) (sym (word_text text is)) (omega arith) refl

-- ---- lists of words
abbrev pub AreWords : List (List ℕ) → Type 0
AreWords [] = Unit {0}
AreWords (text ∷ texts) = IsWord text × AreWords texts

abbrev pub strings : List (List ℕ) → Items
strings texts = items_of (map string texts)

others_text : (texts : List (List ℕ)) → AreWords texts → IsItemsText false false false (strings texts) (behind_commas (map in_quotes texts) ++ codes "]")
others_text [] are = refl
others_text (text ∷ texts) (is, are) = (in_quotes text, behind_commas (map in_quotes texts) ++ codes "]", simp append_assoc refl, sym (word_text text is), others_text texts are)

never_breaks : (ds : Items) → breaks_lines false ds ≡ false
never_breaks no_items = refl
never_breaks (item d no_items) = refl
never_breaks (item d (item e ds)) = refl

flat : (texts : List (List ℕ)) → items_depth (strings texts) ≡ 0
flat [] = refl
flat (text ∷ texts) = rw (flat texts)

undated : (texts : List (List ℕ)) → items_have_valid_dates (strings texts) ≡ true
undated [] = refl
undated (text ∷ texts) = undated texts

pub words_read : (texts : List (List ℕ)) → AreWords texts → IsReadAs (in_brackets (map in_quotes texts)) (array (strings texts))
words_read [] are = printed (codes "[]") (array no_items) (codes "]", refl, refl) (omega arith) refl
words_read (text ∷ texts) (is, are) =
    let rest = in_quotes text ++ (behind_commas (map in_quotes texts) ++ codes "]") in
    let all : IsItemsText false false true (strings (text ∷ texts)) rest = (in_quotes text, behind_commas (map in_quotes texts) ++ codes "]", refl, sym (word_text text is), others_text texts are) in
    printed _ (array (strings (text ∷ texts))) (rest, refl, rw (never_breaks (strings (text ∷ texts))) all) (let few = flat (text ∷ texts) in omega (arith, few)) (undated (text ∷ texts))

-- ---- numbers
pub number_read : (z : ℤ) → unsigned_abs z < 2 ^ 63 → IsReadAs (signed_decimal z) (integer z)
number_read z small = printed (signed_decimal z) (integer z) (refl, fits_signed_from_abs w64 z small) (omega arith) refl

pub count_read : (n : ℕ) → n < 2 ^ 63 → IsReadAs (decimal n) (integer (pos n))
count_read n small = number_read (pos n) small

abbrev pub numbers : Triple → Items
numbers d = item (integer d.x) (item (integer d.y) (item (integer d.z) no_items))

pub direction_read : (d : Triple) → unsigned_abs d.x ≤ 9 → unsigned_abs d.y ≤ 9 → unsigned_abs d.z ≤ 9 → IsReadAs (direction_text d) (array (numbers d))
direction_read d x y z =
    printed (direction_text d) (array (numbers d)) (
      _,
      refl,
      (_, _, refl, (refl, fits_signed_from_abs w64 d.x (omega (arith, x))), (_, _, refl, (refl, fits_signed_from_abs w64 d.y (omega (arith, y))), (_, _, refl, (refl, fits_signed_from_abs w64 d.z (omega (arith, z))), refl))),
    )
    (omega arith)
    refl
