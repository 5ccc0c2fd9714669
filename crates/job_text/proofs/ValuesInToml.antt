-- Keys and values mean the same in TOML.
use Rattle.std.proofs.Common.{◌≡◌, ℕ, zero, suc, ◌+◌, ◌-◌, Bool, true, false, cond, ◌||◌, ◌==◌, List, [], ◌∷◌, ◌++◌, length, take, drop, take_all, length-drop, Option, Some, None, option_map, Result, Ok, Err, refl, sym, ap, subst, ◌∙◌, inl, inr, arith, append-nil, append_assoc}
use Rattle.std.specs.List.{AllZip, list_all, prefix_len}
use Rattle.std.proofs.lemmas.Bool.{cases_Bool, cases_lt}
use Rattle.std.proofs.lemmas.Bool.Decides.{nat_tests}
use Rattle.std.proofs.lemmas.Option.{none-some, same_Some}
use Rattle.toml_parser.specs.Lexical.{Read, first, is_ws, is_word, skip_ws, skip_from, skip_turn, skip_blank}
use Rattle.toml_parser.specs.Numbers.{unquoted, word_len, word_value}
use Rattle.toml_parser.specs.Strings.{Key, key, quoted, starts_string}
use Rattle.toml_parser.specs.declared.scalar.Scalar.{Scalar}
use Rattle.toml_parser.specs.declared.scalar.Scalar.TheVariants.{Boolean, Integer, Float, Datetime}
use Rattle.toml_parser.proofs.LexicalLemmas.{skip_ws_none}
use Rattle.toml.specs.Data.{Data, string, array, Items, no_items, push_item}
use Rattle.toml.specs.Parse.{read_map, scalar_data, atom, val, after_element}
use Rattle.toml.specs.Parse as parse
use Rattle.toml.proofs.Blanks.{skip_none}
use Rattle.toml.proofs.Turns as turns
use Rattle.job_text.specs.declared.fault.Flaw.{Flaw}
use Rattle.job_text.specs.declared.fault.Flaw.TheVariants.{InnerList}
use Rattle.job_text.specs.Readings.{TextReading, flawed, ◌>>=◌}
use Rattle.job_text.specs.Values.{TextItem, text, flag, number, Written, one, several, one_part, one_key, is_number_byte, number_item, item_of_scalar, item_of_word, item_of_quotes, starts_long, bare_item, item, after_item, items, list, as_several, as_one, value}
use Rattle.job_text.specs.Toml.{IsItemOf, pushed_items, IsWrittenOf}

-- ---- steps that are there
-- both steps of what is read
pub both_ok : {A B : Type 0} (r : Result A (Flaw × ℕ)) (f : A → Result B (Flaw × ℕ)) (b : B) → (r >>= f) ≡ Ok b → (a : A) × (r ≡ Ok a) × (f a ≡ Ok b)
both_ok (Ok a) f b e = (a, refl, e)
both_ok (Err x) f b e = cc

-- a test was met, if no flaw is told
pub test_met : {A : Type 0} (test : Bool) (r : Result A (Flaw × ℕ)) (x : Flaw × ℕ) (a : A) → cond test r (Err x) ≡ Ok a → (test ≡ true) × (r ≡ Ok a)
test_met true r x a e = (refl, e)
test_met false r x a e = cc

-- the test was not met, if no flaw is told
pub test_not_met : {A : Type 0} (test : Bool) (r : Result A (Flaw × ℕ)) (x : Flaw × ℕ) (a : A) → cond test (Err x) r ≡ Ok a → (test ≡ false) × (r ≡ Ok a)
test_not_met true r x a e = cc
test_not_met false r x a e = (refl, e)

-- the second, where the test isn't met
not_first : {A : Type 0} (test : Bool) (r s : Result A (Flaw × ℕ)) (a : A) → test ≡ false → cond test r s ≡ Ok a → s ≡ Ok a
not_first true r s a is e = cc
not_first false r s a is e = e

-- what is read, and the text after it
abbrev pub told : {A : Type 0} → A → List ℕ → TextReading A
told a s = Ok (a, s)

-- if two are what is read, they are the same
pub same_read : {A : Type 0} (a b : A) (s t : List ℕ) → told a s ≡ Ok (b, t) → (a ≡ b) × (s ≡ t)
same_read {A} a b s t e =
    let left : A × List ℕ = (a, s) in
    let pair : left ≡ (b, t) = cc in
    (ap (λ p. p.0) pair, ap (λ p. p.1) pair)

-- ---- white space
-- a byte of white space is skipped by both
skip_ws_white : (c : ℕ) (cs : List ℕ) → is_ws c ≡ true → skip_ws (c ∷ cs) ≡ skip_ws cs
unfolding skip_ws
skip_ws_white c cs white =
    let n = prefix_len is_ws cs in
    let more : 1 + n ≡ suc n = omega arith in
    rw (white, more)

skip_blank_white : (c : ℕ) (cs : List ℕ) → is_ws c ≡ true → skip_blank (c ∷ cs) ≡ skip_blank cs
unfolding skip_from
skip_blank_white c cs white =
    let turn : skip_turn true false c (first cs) ≡ Some false = grind (arith, nat_tests) in
    rw turn

-- a byte that neither skips
blank_free : (x c : ℕ) → x ≡ c → is_ws x ≡ false → ((c == 10 || c == 13) || c == 35) ≡ false → (((x == 10 || x == 13) || x == 32) || (x == 9 || x == 35)) ≡ false
blank_free x c e other h = grind (arith, nat_tests)

-- white space alone is skipped where no line end and no comment is after it
pub blank_is_ws : (text : List ℕ) (c : ℕ) → first (skip_ws text) ≡ c → ((c == 10 || c == 13) || c == 35) ≡ false → skip_blank text ≡ skip_ws text
unfolding skip_ws skip_from
blank_is_ws [] c e h = refl
blank_is_ws (x ∷ xs) c e h =
    elim (cases_Bool (is_ws x)) [
      | inl white ↦ skip_blank_white x xs white ∙ blank_is_ws xs c (ap first (sym (skip_ws_white x xs white)) ∙ e) h ∙ sym (skip_ws_white x xs white)
      | inr other ↦
          let same : skip_ws (x ∷ xs) ≡ x ∷ xs = skip_ws_none (x ∷ xs) other in
          skip_none (x ∷ xs) x refl (blank_free x c (ap first (sym same) ∙ e) other h) ∙ sym same
    ]

-- ---- items
-- an item doesn't begin with a bracket, a line end or a comment
pub no_atom : (front : List ℕ) (c : ℕ) → first front ≡ c → (((c == 10 || c == 13) || c == 35) || (c == 91 || c == 123)) ≡ true → atom front ≡ None
unfolding atom unquoted word_len
no_atom [] c e h = absurd (grind (arith, nat_tests))
no_atom (x ∷ xs) c e h =
    let not_quote : (x == 34) ≡ false = grind (arith, nat_tests) in
    let not_apostrophe : (x == 39) ≡ false = grind (arith, nat_tests) in
    let not_word : is_word x ≡ false = grind (arith, nat_tests) in
    let not_space : (x == 32) ≡ false = grind (arith, nat_tests) in
    rw (not_quote, not_apostrophe, not_word, not_space)

-- so where an item is read none of these bytes is first
pub atom_front : (front : List ℕ) (r : Data × List ℕ) → atom front ≡ Some r → (((first front == 10 || first front == 13) || first front == 35) || (first front == 91 || first front == 123)) ≡ false
atom_front front r read =
    elim (cases_Bool (((first front == 10 || first front == 13) || first front == 35) || (first front == 91 || first front == 123))) [
      | inl bad ↦ absurd (none-some r (sym (no_atom front (first front) refl bad) ∙ read))
      | inr good ↦ good
    ]

-- what is before the rest of a text is its front
word_before : (front : List ℕ) (n : ℕ) → take (length front - length (drop n front)) front ≡ take n front
word_before front n =
    elim (cases_lt n (length front)) [
      | inl within ↦ ap (λ (k : ℕ). take k front) (omega (arith, length-drop n front))
      | inr past ↦ take_all _ front (omega (arith, length-drop n front)) ∙ sym (take_all n front (omega arith))
    ]

-- the value of a word of so many bytes, and the text after it
abbrev read_at : ℕ → List ℕ → Option Scalar → Read Scalar
read_at n front word = option_map (λ d. (d, drop n front)) word

-- what the word is, and what is after it
word_of_scalar : (front : List ℕ) (word : Option Scalar) (n : ℕ) (scalar : Scalar) (rest : List ℕ) → read_at n front word ≡ Some (scalar, rest) → (word ≡ Some scalar) × (drop n front ≡ rest)
word_of_scalar front None n scalar rest e = absurd (none-some _ e)
word_of_scalar front (Some s) n scalar rest e = let pair = same_Some (s, drop n front) (scalar, rest) e in (ap (λ p. Some p.0) pair, ap (λ p. p.1) pair)

-- the word of a scalar is the front that the text after it leaves
word_read : (front : List ℕ) (scalar : Scalar) (rest : List ℕ) → unquoted front ≡ Some (scalar, rest) → word_value (take (length front - length rest) front) ≡ Some scalar
unfolding unquoted
word_read front scalar rest e =
    elim (cases_Bool (word_len front == 0)) [
      | inl none ↦ absurd (none-some _ (rw none at e))
      | inr some ↦
          let parts = word_of_scalar front (word_value (take (word_len front) front)) (word_len front) scalar rest (rw some at e) in
          ap (λ (behind : List ℕ). word_value (take (length front - length behind) front)) (sym parts.1) ∙ ap word_value (word_before front (word_len front)) ∙ parts.0
    ]

-- a number's data is that of its word
number_data : (front : List ℕ) (scalar : Scalar) (rest : List ℕ) (i : TextItem) (behind : List ℕ) → word_value (take (length front - length rest) front) ≡ Some scalar
    → number_item front (take (length front - length rest) front) rest ≡ Ok (i, behind) → IsItemOf i (scalar_data scalar) × (rest ≡ behind)
number_data front scalar rest i behind is e =
    let word = take (length front - length rest) front in
    let met = test_met (list_all is_number_byte word) (Ok (number word, rest)) _ (i, behind) e in
    let same = same_read (number word) i rest behind met.1 in
    (subst (λ (j : TextItem). IsItemOf j (scalar_data scalar)) same.0 (scalar, is, refl), same.1)

-- the data of a word without quotes
scalar_item : (front : List ℕ) (scalar : Scalar) (rest : List ℕ) (i : TextItem) (behind : List ℕ) → word_value (take (length front - length rest) front) ≡ Some scalar
    → item_of_scalar front scalar rest ≡ Ok (i, behind) → IsItemOf i (scalar_data scalar) × (rest ≡ behind)
scalar_item front (Boolean b) rest i behind is e =
    let same = same_read (flag b) i rest behind e in
    (subst (λ (j : TextItem). IsItemOf j (scalar_data (Boolean b))) same.0 refl, same.1)
scalar_item front (Integer z) rest i behind is e = number_data front (Integer z) rest i behind is e
scalar_item front (Float x) rest i behind is e = number_data front (Float x) rest i behind is e
scalar_item front (Datetime d) rest i behind is e = absurd (cc)

-- the same of what is read
word_item : (front : List ℕ) (read : Read Scalar) (i : TextItem) (behind : List ℕ) → unquoted front ≡ read → item_of_word front read ≡ Ok (i, behind) → (d : Data) × IsItemOf i d × (read_map scalar_data read ≡ Some (d, behind))
word_item front None i behind is e = absurd (cc)
word_item front (Some (scalar, rest)) i behind is e =
    let made = scalar_item front scalar rest i behind (word_read front scalar rest is) e in
    (scalar_data scalar, made.0, ap (λ (after : List ℕ). Some (scalar_data scalar, after)) made.1)

-- a text in quotes is that string
quotes_item : (front : List ℕ) (read : Read (List ℕ)) (i : TextItem) (behind : List ℕ) → item_of_quotes front read ≡ Ok (i, behind) → (d : Data) × IsItemOf i d × (read_map string read ≡ Some (d, behind))
quotes_item front None i behind e = absurd (cc)
quotes_item front (Some (content, rest)) i behind e =
    let same = same_read (text content) i rest behind e in
    (string content, subst (λ (j : TextItem). IsItemOf j (string content)) same.0 refl, ap (λ (after : List ℕ). Some (string content, after)) same.1)

-- an item is the value that TOML reads there
pub item_atom : (front : List ℕ) (i : TextItem) (behind : List ℕ) → item front ≡ Ok (i, behind) → (d : Data) × IsItemOf i d × (atom front ≡ Some (d, behind))
unfolding atom
item_atom front i behind e =
    elim (cases_Bool (starts_string front)) [
      | inl begins ↦
          let met = test_not_met (starts_long front) (item_of_quotes front (quoted front)) _ (i, behind) (rw begins at e) in
          let made = quotes_item front (quoted front) i behind met.1 in
          (made.0, made.1, rw begins made.2)
      | inr bare ↦
          let no_table = test_not_met (first front == 123) (cond (first front == 91) (flawed InnerList front) (bare_item front)) _ (i, behind) (rw bare at e) in
          let no_list = test_not_met (first front == 91) (bare_item front) _ (i, behind) no_table.1 in
          let made = word_item front (unquoted front) i behind refl no_list.1 in
          (made.0, made.1, rw bare made.2)
    ]

-- an item is a value at any depth
pub item_val : (depth : ℕ) (front : List ℕ) (i : TextItem) (behind : List ℕ) → item front ≡ Ok (i, behind) → (d : Data) × IsItemOf i d × (val depth front ≡ Some (d, behind))
item_val depth front i behind e =
    let made = item_atom front i behind e in
    let good = atom_front front (made.0, behind) made.2 in
    (made.0, made.1, turns.val_atom depth front (grind (arith, nat_tests)) (grind (arith, nat_tests)) ∙ made.2)

-- only white space is before an item
item_blank : (front : List ℕ) (i : TextItem) (behind : List ℕ) → item (skip_ws front) ≡ Ok (i, behind) → skip_blank front ≡ skip_ws front
item_blank front i behind e =
    let made = item_atom (skip_ws front) i behind e in
    let good = atom_front (skip_ws front) (made.0, behind) made.2 in
    blank_is_ws front (first (skip_ws front)) refl (grind (arith, nat_tests))

-- ---- lists
-- the text that is left
abbrev pub left_ok : List ℕ → Result (List ℕ) (Flaw × ℕ)
left_ok s = Ok s

-- if two are left, they are the same
pub same_left : (s t : List ℕ) → left_ok s ≡ Ok t → s ≡ t
same_left s t e = cc

-- a comma, or the closing bracket, is behind an item for TOML too
pub after_in_toml : (behind next : List ℕ) → after_item (skip_ws behind) ≡ Ok next → after_element 93 behind ≡ Some next
unfolding after_element
after_in_toml behind next e =
    let start = skip_ws behind in
    elim (cases_Bool (first start == 44)) [
      | inl comma ↦
          let same : skip_blank behind ≡ start = blank_is_ws behind (first start) refl (grind (arith, nat_tests)) in
          let is = same_left (drop 1 start) next (rw comma at e) in
          rw (same, comma) (ap Some is)
      | inr other ↦
          let met = test_met (first start == 93) (Ok start) _ next (rw other at e) in
          let closing = met.0 in
          let same : skip_blank behind ≡ start = blank_is_ws behind (first start) refl (grind (arith, nat_tests)) in
          let is = same_left start next met.1 in
          rw (same, other, closing) (ap Some is)
    ]

-- what the rest of a list is in TOML: items and their values, and the text after it
abbrev pub IsRest : (List ℕ → Read Data) → ℕ → List TextItem → Items → List ℕ → List TextItem → List ℕ → Type 0
IsRest v n found before front all behind =
    (more : List TextItem) × (ds : List Data) × (all ≡ found ++ more) × AllZip IsItemOf more ds × (parse.items v n before front ≡ Some (pushed_items before ds, behind))

-- the end of a list
items_rest_end : (v : List ℕ → Read Data) (n : ℕ) (found : List TextItem) (before : Items) (front : List ℕ) (all : List TextItem) (left : List ℕ) → (first (skip_ws front) == 93) ≡ true
    → told found (drop 1 (skip_ws front)) ≡ Ok (all, left) → IsRest v (suc n) found before front all left
items_rest_end v n found before front all left closing e =
    let same : skip_blank front ≡ skip_ws front = blank_is_ws front (first (skip_ws front)) refl (grind (arith, nat_tests)) in
    let is = same_read found all (drop 1 (skip_ws front)) left e in
    let over : parse.items v (suc n) before front ≡ Some (before, drop 1 (skip_blank front)) = turns.items_end v (suc n) before front (omega arith) (rw same closing) in
    let behind : drop 1 (skip_blank front) ≡ left = rw same is.1 in
    ([], [], sym is.0 ∙ sym (append-nil found), tt, rw over (ap (λ (s : List ℕ). Some (before, s)) behind))

-- an item and the values after it
items_rest_more : (depth n : ℕ) (found : List TextItem) (before : Items) (front : List ℕ) (i : TextItem) (behind next : List ℕ) (all : List TextItem) (left : List ℕ) → (first (skip_ws front) == 93) ≡ false
    → item (skip_ws front) ≡ Ok (i, behind) → after_item (skip_ws behind) ≡ Ok next → ((then : Items) → IsRest (val depth) n (found ++ i ∷ []) then next all left) → IsRest (val depth) (suc n) found before front all left
items_rest_more depth n found before front i behind next all left other read element tail =
    let (d, is, valued) = item_val depth (skip_ws front) i behind read in
    let (more, ds, whole, zipped, rest) = tail (push_item before d) in
    let same = item_blank front i behind read in
    let less : suc n - 1 ≡ n = omega arith in
    let turn = turns.items_more (val depth) (suc n) before front d behind next (omega arith) (rw same other) (ap (val depth) same ∙ valued) (after_in_toml behind next element) in
    (i ∷ more, d ∷ ds, whole ∙ append_assoc found (i ∷ []) more, (is, zipped), turn ∙ rw less rest)

-- the rest of a list is the rest that TOML reads
pub items_in_toml : (depth n : ℕ) (found : List TextItem) (before : Items) (front : List ℕ) (all : List TextItem) (behind : List ℕ) → items n found front ≡ Ok (all, behind) → IsRest (val depth) n found before front all behind
unfolding items
items_in_toml depth zero found before front all behind e = absurd (cc)
items_in_toml depth (suc n) found before front all behind e =
    let start = skip_ws front in
    elim (cases_Bool (first start == 93)) [
      | inl closing ↦ items_rest_end (val depth) n found before front all behind closing (rw closing at e)
      | inr other ↦
          let read = both_ok (item start) (λ i. after_item (skip_ws i.1) >>= λ next. items n (found ++ i.0 ∷ []) next) (all, behind) (rw other at e) in
          let element = both_ok (after_item (skip_ws read.0.1)) (λ next. items n (found ++ read.0.0 ∷ []) next) (all, behind) read.2 in
          items_rest_more depth n found before front read.0.0 read.0.1 element.0 all behind other read.1 element.1
          (λ then. items_in_toml depth n (found ++ read.0.0 ∷ []) then element.0 all behind element.2)
    ]

-- ---- values
-- a list is an array
list_told : (depth : ℕ) (front : List ℕ) (all : List TextItem) (left : List ℕ) (written : Written) (behind : List ℕ) → (first front == 91) ≡ true → list front ≡ Ok (all, left) → told (several all) left ≡ Ok (written, behind)
    → (d : Data) × IsWrittenOf written d × (val (suc depth) front ≡ Some (d, behind))
list_told depth front all left written behind bracket read e =
    let is = same_read (several all) written left behind e in
    let (more, ds, whole, zipped, rest) = items_in_toml depth (length front) [] no_items (drop 1 front) all left read in
    let d = array (pushed_items no_items ds) in
    let same : AllZip IsItemOf all ds = subst (λ (items : List TextItem). AllZip IsItemOf items ds) (sym whole) zipped in
    let valued : val (suc depth) front ≡ Some (d, left) = rw (turns.val_array depth front bracket, rest) in
    (d, subst (λ (w : Written). IsWrittenOf w d) is.0 (ds, same, refl), rw valued (ap (λ (s : List ℕ). Some (d, s)) is.1))

-- an item is its value
item_told : (depth : ℕ) (front : List ℕ) (i : TextItem) (left : List ℕ) (written : Written) (behind : List ℕ) → item front ≡ Ok (i, left) → told (one i) left ≡ Ok (written, behind)
    → (d : Data) × IsWrittenOf written d × (val depth front ≡ Some (d, behind))
item_told depth front i left written behind read e =
    let is = same_read (one i) written left behind e in
    let (d, same, valued) = item_val depth front i left read in
    (d, subst (λ (w : Written). IsWrittenOf w d) is.0 same, rw valued (ap (λ (s : List ℕ). Some (d, s)) is.1))

-- a list on its line, or an item, is the value that TOML reads there
pub value_in_toml : (depth : ℕ) (front : List ℕ) (written : Written) (behind : List ℕ) → value front ≡ Ok (written, behind) → (d : Data) × IsWrittenOf written d × (val (suc depth) front ≡ Some (d, behind))
value_in_toml depth front written behind e =
    elim (cases_Bool (first front == 91)) [
      | inl bracket ↦
          let read = both_ok (list front) (λ r. Ok (as_several r)) (written, behind) (rw bracket at e) in
          list_told depth front read.0.0 read.0.1 written behind bracket read.1 read.2
      | inr other ↦
          let read = both_ok (item front) (λ r. Ok (as_one r)) (written, behind) (not_first (first front == 91) (list front >>= λ r. Ok (as_several r)) (item front >>= λ r. Ok (as_one r)) (written, behind) other e) in
          item_told (suc depth) front read.0.0 read.0.1 written behind read.1 read.2
    ]

-- ---- keys
-- a key of one part, and the text after it
key_of_part : (front : List ℕ) (read : Read Key) (k rest : List ℕ) → one_part front read ≡ Ok (k, rest) → read ≡ Some (([], k), rest)
key_of_part front None k rest e = absurd (cc)
key_of_part front (Some (([], last), behind)) k rest e =
    let same = same_read last k behind rest e in
    ap (λ (name : List ℕ). Some (([], name), behind)) same.0 ∙ ap (λ (s : List ℕ). Some (([], k), s)) same.1
key_of_part front (Some ((part ∷ path, last), behind)) k rest e = absurd (cc)

-- a key of one part is the key that TOML reads there
pub key_in_toml : (front k rest : List ℕ) → one_key front ≡ Ok (k, rest) → (starts_string front ≡ false) × (key front ≡ Some (([], k), rest))
key_in_toml front k rest e =
    let met = test_not_met (starts_string front) (one_part front (key front)) _ (k, rest) e in
    (met.0, key_of_part front (key front) k rest met.1)
