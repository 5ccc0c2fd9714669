-- What `clap` sees of one word, by its kind in the grammar.
use Rattle.std.proofs.Common.{◌≡◌, ◌∙◌, ◌⊎◌, inl, inr, ◌+◌, ◌||◌, ◌==◌, ◌<◌, ℕ, zero, suc, length, Bool, true, false, not, refl, sym, ap, subst, arith, List, [], ◌∷◌, ◌++◌, codes, Option, Some, None, option_map, is_some, eqb-true, true≢false}
use Rattle.std.specs.Prelude.{if◌then◌else◌, slice_get}
use Rattle.std.specs.Char.{encode_utf8}
use Rattle.std.specs.List.{after_first, before_first, list_all, list_any, position_or_len}
use Rattle.std.specs.Option.{option_map_or}
use Rattle.std.specs.Str.{IsUtf8, bytes_eq, chars, encode_utf8_all}
use Rattle.std.proofs.lemmas.Bool.Decides.{nat_tests}
use Rattle.std.proofs.lemmas.Str.{chars_past_char, encodes-chars}
use Rattle.clap.specs.Faults.{bundle_fault, flag_word_fault, flags_fault}
use Rattle.clap.specs.Kinds.{Kinds}
use Rattle.clap.specs.Lexer.{has_byte, long_of, short_of}
use Rattle.clap.specs.Walk.{Held, Text, arg_by_id, arg_by_long}
use Rattle.command_words.specs.Grammar.{Listed, Purpose, Reading, Table, WordKind, alone, asks_for, behind, ends, for_help, for_version, gives, is_flag, is_marked, is_name, is_table, kind_among, opens, plain, refused, takes_value, unknown_option, valued, wants, word_kind}
use Rattle.command_words.specs.inner.App.{reading_by}
use Rattle.command_words.proofs.RuleLemmas.{both, by_id, by_long, by_short, is_same, listed_arg, named_good, named_so, not_true, option_arg, option_named, rules, turned}

-- one fault, that says this of the words
abbrev pub Fails : Reading → Kinds → Type 0
Fails r [] = ⊥
Fails r (k ∷ []) = reading_by k ≡ Some r
Fails r (k ∷ other ∷ ks) = ⊥

abbrev pub IsFault : Kinds → Type 0
IsFault = Fails refused

-- ---- a name and what stands behind `=`, as `clap` cuts a word
abbrev is_equals : ℕ → Bool
is_equals b = b == 61

abbrev cut : Text → Option Text
cut word = if has_byte 61 word then Some (after_first is_equals word) else None

-- a name without `=`
abbrev IsName : Text → Type 0
IsName [] = Unit {0}
IsName (c ∷ name) = (is_equals c ≡ false) × IsName name

neither : (a b : Bool) → (a || b) ≡ false → (a ≡ false) × (b ≡ false)
neither true b e = absurd (true≢false e)
neither false b e = (refl, e)

without_equals : (name : Text) → list_any is_equals name ≡ false → IsName name
without_equals [] none = tt
without_equals (c ∷ name) none =
    let one = neither (is_equals c) (list_any is_equals name) none in
    (one.0, without_equals name one.1)

-- a name alone, or with a value behind `=`, or another word
module _ (here : WordKind) (with_text : Text → WordKind) (other : WordKind) where
  abbrev name_or : Text → Text → WordKind
  name_or name word = if bytes_eq word name then here else option_map_or with_text (behind (name ++ codes "=") word) other

  abbrev with_value : Option Text → WordKind
  with_value None = here
  with_value (Some value) = with_text value

  abbrev cut_or : Text → Text → WordKind
  cut_or name word = if bytes_eq name (before_first is_equals word) then with_value (cut word) else other

  -- the grammar's reading of a word without its two minus signs is that of the cut
  name_or-cut : (name word : Text) → IsName name → name_or name word ≡ cut_or name word
  name_or-cut [] [] h = refl
  name_or-cut [] (b ∷ word) h = go (is_equals b) refl
    where
      go : (t : Bool) → is_equals b ≡ t → name_or [] (b ∷ word) ≡ cut_or [] (b ∷ word)
      go true e = rw e refl
      go false e =
          let next : 1 + position_or_len is_equals word ≡ suc (position_or_len is_equals word) = omega arith in
          rw (e, next) refl
  name_or-cut (c ∷ name) [] h = refl
  name_or-cut (c ∷ name) (b ∷ word) h = go (is_equals b) refl (b == c) refl (name_or-cut name word h.1)
    where
      go : (t : Bool) → is_equals b ≡ t → (s : Bool) → (b == c) ≡ s → name_or name word ≡ cut_or name word
          → name_or (c ∷ name) (b ∷ word) ≡ cut_or (c ∷ name) (b ∷ word)
      go true e true same shorter =
          let no : is_equals b ≡ false = rw (eqb-true b c same) h.0 in
          absurd (true≢false (sym e ∙ no))
      go true e false differ shorter = rw (e, differ) refl
      go false e true same shorter =
          let next : 1 + position_or_len is_equals word ≡ suc (position_or_len is_equals word) = omega arith in
          let later : suc (position_or_len is_equals word) + 1 ≡ suc (position_or_len is_equals word + 1) = omega arith in
          let turned : (c == b) ≡ true = grind (arith, nat_tests) in
          rw (e, next, later, same, turned) shorter
      go false e false differ shorter =
          let next : 1 + position_or_len is_equals word ≡ suc (position_or_len is_equals word) = omega arith in
          let turned : (c == b) ≡ false = grind (arith, nat_tests) in
          rw (e, next, differ, turned) refl

-- ---- the option that a word names
abbrev found_kind : Purpose → Text → Option Text → WordKind
found_kind purpose name None = alone purpose name
found_kind purpose name (Some value) = valued purpose name value

abbrev kind_found : Option Listed → Option Text → WordKind
kind_found None value = unknown_option
kind_found (Some o) value = found_kind o.purpose o.name value

kind_is_found : (d : ℕ) (ds part : Text) (os : List Listed) → list_all (λ (o : Listed). is_name part o.name) os ≡ true
    → kind_among os (45 ∷ 45 ∷ d ∷ ds) ≡ kind_found (option_named os (before_first is_equals (d ∷ ds))) (cut (d ∷ ds))
kind_is_found d ds part [] good = refl
kind_is_found d ds part (o ∷ os) good =
    name_or-cut (alone o.purpose o.name) (valued o.purpose o.name) (kind_among os (45 ∷ 45 ∷ d ∷ ds)) o.name (d ∷ ds) named
    ∙ go (bytes_eq o.name (before_first is_equals (d ∷ ds))) refl (cut (d ∷ ds)) (kind_is_found d ds part os (both (is_name part o.name) _ good).1)
  where
    named : IsName o.name
    named = without_equals o.name (not_true (list_any is_equals o.name) (both (not (list_any is_equals o.name)) (not (bytes_eq o.name part)) (both (is_name part o.name) _ good).0).0)

    go : (b : Bool) → bytes_eq o.name (before_first is_equals (d ∷ ds)) ≡ b → (value : Option Text)
        → kind_among os (45 ∷ 45 ∷ d ∷ ds) ≡ kind_found (option_named os (before_first is_equals (d ∷ ds))) value
        → (if b then with_value (alone o.purpose o.name) (valued o.purpose o.name) (kind_among os (45 ∷ 45 ∷ d ∷ ds)) value else kind_among os (45 ∷ 45 ∷ d ∷ ds))
        ≡ kind_found (if b then Some o else option_named os (before_first is_equals (d ∷ ds))) value
    go true e None later = refl
    go true e (Some v) later = refl
    go false e value later = later

-- ---- a word by its kind
abbrev pub is_end : Text → Bool
is_end word = bytes_eq word (codes "--")

pub record ReadsPlain (word : Text) : Type 0 where
  pub unmarked : is_marked word ≡ false
  pub no_end : is_end word ≡ false
  pub long : long_of word ≡ None
  pub short : short_of word ≡ None

module _ (t : Table) where
  -- the argument of this name is that of an option of this kind
  pub record IsOption (purpose : Purpose) (name : Text) : Type 0 where
    pub by_long : arg_by_long (rules t) name ≡ Some (option_arg purpose name)
    pub by_id : arg_by_id (rules t) name ≡ Some (option_arg purpose name)
    pub not_plain : bytes_eq name t.plain ≡ false

  -- its flag, with a value or without one
  pub record ReadsFlag (purpose : Purpose) (name : Text) (value : Option Text) (word : Text) : Type 0 where
    pub marked : is_marked word ≡ true
    pub no_end : is_end word ≡ false
    pub long : long_of word ≡ Some (name, value)
    pub option : IsOption purpose name

  pub record ReadsUnknown (word : Text) : Type 0 where
    pub marked : is_marked word ≡ true
    pub no_end : is_end word ≡ false
    pub fault : (h : Held) → h.skip ≡ 0 → IsFault (flag_word_fault (rules t) false (long_of word) word h)

  abbrev pub Reads : WordKind → Text → Type 0
  Reads ends word = (is_marked word ≡ true) × (is_end word ≡ true)
  Reads (opens name) word = ReadsFlag takes_value name None word
  Reads (gives name value) word = ReadsFlag takes_value name (Some value) word ⊎ (ReadsFlag is_flag name None word × (value ≡ []))
  Reads (wants question) word = (name : Text) × ReadsFlag (asks_for question) name None word
  Reads unknown_option word = ReadsUnknown word
  Reads plain word = ReadsPlain word

  -- a word of text has a character behind its minus sign
  some_char : (x : ℕ) (xs : Text) → IsUtf8 (45 ∷ x ∷ xs) → (cs : List ℕ) → chars (x ∷ xs) ≡ cs → (c : ℕ) × (slice_get cs 0 ≡ Some c)
  unfolding encode_utf8
  some_char x xs utf8 [] none =
      let all : chars (45 ∷ x ∷ xs) ≡ 45 ∷ chars (x ∷ xs) = chars_past_char (45 ∷ x ∷ xs) (x ∷ xs) 45 utf8 refl in
      let one : 45 ∷ [] ≡ 45 ∷ x ∷ xs = sym (ap encode_utf8_all (all ∙ ap (λ (cs : List ℕ). 45 ∷ cs) none)) ∙ encodes-chars (45 ∷ x ∷ xs) utf8 in
      let bad : 1 ≡ length (45 ∷ x ∷ xs) = ap length one in
      absurd (omega (arith, bad))
  some_char x xs utf8 (c ∷ cs) is = (c, refl)

  -- no argument has a name of one character
  no_short : (k : ℕ) (flags : Text) (x : ℕ) (h : Held) → 0 < k → slice_get (chars flags) 0 ≡ Some x → IsFault (flags_fault (rules t) false k flags 0 h)
  unfolding flags_fault
  no_short zero flags x h some first = absurd (omega arith)
  no_short (suc k) flags x h some first = rw (first, by_short t x) refl

  bundle_faults : (x : ℕ) (xs : Text) (h : Held) → IsUtf8 (45 ∷ x ∷ xs) → h.skip ≡ 0 → IsFault (bundle_fault (rules t) false (x ∷ xs) h)
  bundle_faults x xs h utf8 none =
      let first = some_char x xs utf8 (chars (x ∷ xs)) refl in
      rw none (no_short (length (x ∷ xs)) (x ∷ xs) first.0 (record h { skip = 0 }) (omega arith) first.1)

  -- two minus signs, and the name of an option
  module _ (rest : Text) (no_end : is_end (45 ∷ 45 ∷ rest) ≡ false) where
    abbrev whole : Text
    whole = 45 ∷ 45 ∷ rest

    flag : (purpose : Purpose) (name : Text) (value : Option Text) → IsOption purpose name → long_of whole ≡ Some (name, value) → ReadsFlag purpose name value whole
    flag purpose name value option long = record { marked = refl; no_end = no_end; long = long; option = option }

    unknown : (fault : (h : Held) → h.skip ≡ 0 → IsFault (flag_word_fault (rules t) false (long_of whole) whole h)) → ReadsUnknown whole
    unknown fault = record { marked = refl; no_end = no_end; fault = fault }

    reads_option : (purpose : Purpose) (name : Text) (value : Option Text) → IsOption purpose name → long_of whole ≡ Some (name, value) → Reads (found_kind purpose name value) whole
    reads_option takes_value name None option long = flag takes_value name None option long
    reads_option takes_value name (Some v) option long = inl (flag takes_value name (Some v) option long)
    reads_option is_flag name None option long = inr (flag is_flag name None option long, refl)
    reads_option is_flag name (Some v) option long = unknown (λ h none. rw (long, option.by_long) refl)
    reads_option (asks_for question) name None option long = (name, flag (asks_for question) name None option long)
    reads_option (asks_for for_help) name (Some v) option long = unknown (λ h none. rw (long, option.by_long) refl)
    reads_option (asks_for for_version) name (Some v) option long = unknown (λ h none. rw (long, option.by_long) refl)

    reads_found : (n : Text) (value : Option Text) (f : Option Listed) → is_table t ≡ true → long_of whole ≡ Some (n, value) → option_named t.options n ≡ f → Reads (kind_found f value) whole
    reads_found n value None good long found =
        let none : arg_by_long (rules t) n ≡ None = by_long t n ∙ ap (option_map listed_arg) found in
        unknown (λ h no_skip. rw (long, none) refl)
    reads_found n value (Some o) good long found =
        let not_plain : bytes_eq n t.plain ≡ false = named_good t.plain t.options n good (ap is_some found) in
        let name : o.name ≡ n = is_same o.name n (named_so t.options n o found) in
        let here : arg_by_long (rules t) n ≡ Some (option_arg o.purpose o.name) = by_long t n ∙ ap (option_map listed_arg) found in
        let there : arg_by_id (rules t) n ≡ Some (option_arg o.purpose o.name) = by_id t n (turned n t.plain not_plain) ∙ ap (option_map listed_arg) found in
        reads_option o.purpose o.name value (record {
          by_long = subst (λ (m : Text). arg_by_long (rules t) m ≡ Some (option_arg o.purpose o.name)) (sym name) here;
          by_id = subst (λ (m : Text). arg_by_id (rules t) m ≡ Some (option_arg o.purpose o.name)) (sym name) there;
          not_plain = subst (λ (m : Text). bytes_eq m t.plain ≡ false) (sym name) not_plain;
        }) (subst (λ (m : Text). long_of whole ≡ Some (m, value)) (sym name) long)

  two_marks : (word : Text) → is_table t ≡ true → Reads (word_kind t.options (45 ∷ 45 ∷ word)) (45 ∷ 45 ∷ word)
  two_marks [] good = (refl, refl)
  two_marks (d ∷ ds) good =
      let n = before_first is_equals (d ∷ ds) in
      subst (λ (k : WordKind). Reads k (45 ∷ 45 ∷ d ∷ ds)) (sym (kind_is_found d ds t.plain t.options good))
      (reads_found (d ∷ ds) refl n (cut (d ∷ ds)) (option_named t.options n) good refl refl)

  -- a word that doesn't begin with two minus signs is none of the options
  record IsOther (word : Text) : Type 0 where
    differs : (name : Text) → bytes_eq word (codes "--" ++ name) ≡ false
    no_value : (name : Text) → behind (codes "--" ++ name ++ codes "=") word ≡ None

  other_kind : (word : Text) (os : List Listed) → IsOther word → kind_among os word ≡ (if is_marked word then unknown_option else plain)
  other_kind word [] other = refl
  other_kind word (o ∷ os) other = rw (other.differs o.name, other.no_value o.name) (other_kind word os other)

  plain_word : (word : Text) → is_end word ≡ false → is_marked word ≡ false → IsOther word → long_of word ≡ None → short_of word ≡ None → Reads (word_kind t.options word) word
  plain_word word no_end unmarked other long short =
      let kind : word_kind t.options word ≡ plain = rw no_end (other_kind word t.options other ∙ ap (λ (b : Bool). if b then unknown_option else plain) unmarked) in
      subst (λ (k : WordKind). Reads k word) (sym kind) (record { unmarked = unmarked; no_end = no_end; long = long; short = short })

  one_mark : (c : ℕ) (word : Text) → is_table t ≡ true → IsUtf8 (45 ∷ c ∷ word) → Reads (word_kind t.options (45 ∷ c ∷ word)) (45 ∷ c ∷ word)
  one_mark c word good utf8 = go (c == 45) refl
    where
      go : (b : Bool) → (c == 45) ≡ b → Reads (word_kind t.options (45 ∷ c ∷ word)) (45 ∷ c ∷ word)
      go true e = rw (eqb-true c 45 e) (two_marks word good)
      go false e =
          let no_end : is_end (45 ∷ c ∷ word) ≡ false = rw e refl in
          let kind : word_kind t.options (45 ∷ c ∷ word) ≡ unknown_option = rw no_end (other_kind (45 ∷ c ∷ word) t.options (record { differs = λ name. rw e refl; no_value = λ name. rw e refl })) in
          subst (λ (k : WordKind). Reads k (45 ∷ c ∷ word)) (sym kind)
          (record { marked = refl; no_end = no_end; fault = λ h none. rw (e, e) (bundle_faults c word h utf8 none) })

  pub reads : (word : Text) → is_table t ≡ true → IsUtf8 word → Reads (word_kind t.options word) word
  reads [] good utf8 = plain_word [] refl refl (record { differs = λ name. refl; no_value = λ name. refl }) refl refl
  reads (b ∷ []) good utf8 = go (b == 45) refl
    where
      go : (s : Bool) → (b == 45) ≡ s → Reads (word_kind t.options (b ∷ [])) (b ∷ [])
      go true e = rw (eqb-true b 45 e) (plain_word (45 ∷ []) refl refl (record { differs = λ name. refl; no_value = λ name. refl }) refl refl)
      go false e = plain_word (b ∷ []) (rw e refl) refl (record { differs = λ name. rw e refl; no_value = λ name. rw e refl }) (rw e refl) (rw e refl)
  reads (b ∷ c ∷ word) good utf8 = go (b == 45) refl
    where
      go : (s : Bool) → (b == 45) ≡ s → Reads (word_kind t.options (b ∷ c ∷ word)) (b ∷ c ∷ word)
      go true e =
          let is = eqb-true b 45 e in
          rw is (one_mark c word good (rw is at utf8))
      go false e = plain_word (b ∷ c ∷ word) (rw e refl) e (record { differs = λ name. rw e refl; no_value = λ name. rw e refl }) (rw e refl) (rw e refl)
