-- `clap` takes exactly the sentences of the grammar, and finds what they give.
use Rattle.std.proofs.Common.{◌≡◌, ◌∙◌, ℕ, Bool, true, false, refl, sym, ap, ap₂, subst, List, [], ◌∷◌, Option, Some, None, inl, inr, is_some, true≢false}
use Rattle.std.specs.Prelude.{Err, IfOk, Ok, Result, if◌then◌else◌, String, unwrap_or}
use Rattle.std.specs.declared.alloc.Global.{Global}
use Rattle.std.specs.Str.{IsUtf8, bytes_eq}
use Rattle.std.proofs.lemmas.Str.{IsUtf8-string_bytes}
use Rattle.clap.specs.Faults.{built_fault, entered_fault, fault_of, level_fault, settle_fault, use_fault}
use Rattle.clap.specs.Kinds.{HasKind, IsAmong, Kinds}
use Rattle.clap.specs.Values.{kind_of}
use Rattle.clap.specs.Simple.{App, entered, matches_of, names_of}
use Rattle.clap.specs.Walk.{Held, Row, Rule, Text, Waiting, Walk, arg_by_id, finished, idle, nothing_held, option, reacted, rows_after, settled, used, walk}
use Rattle.clap.specs.declared.error.Error.{Error}
use Rattle.clap.specs.declared.error.kind.ErrorKind.{ErrorKind}
use Rattle.clap.specs.declared.error.kind.ErrorKind.TheVariants.{UnknownArgument}
use Rattle.command_words.specs.Grammar.{GivenTexts, Reading, Table, WordKind, all_given, asks, ends, gives, giving, is_marked, is_table, nothing, opens, plain, plain_from, read_at, read_from, reading_of, refused, takes_value, unknown_option, wants, with_text, word_kind}
use Rattle.command_words.specs.Seen.{sentence_seen, texts}
use Rattle.command_words.specs.inner.App.{reading_by, table_app}
use Rattle.command_words.specs.declared.sentence.Sentence.{Sentence}
use Rattle.command_words.proofs.RuleLemmas.{built_flat, built_table, flat_is, option_arg, plain_arg, plain_by_id, rules, same, top}
use Rattle.command_words.proofs.RowLemmas.{Holds, IsUse, first_use, given_held, given_in, holds_used, plain_use, second_use, value_use}
use Rattle.command_words.proofs.WordLemmas.{Fails, IsFault, Reads, reads}
use Rattle.command_words.proofs.TurnLemmas.{GivesText, IsPlainAt, Moves, end_is, end_moves, finished_is, gives_again, gives_fails, gives_moves, gives_text, held_after, late_fails, left_end, left_fault, move_passes, opened, opens_fails, opens_moves, plain_fails, plain_held, plain_moves, question_asks, question_fails, standing, taken, turn_fails, unknown_fails, waits, with_value}

AreUtf8 : List Text → Type 0
AreUtf8 [] = Unit {0}
AreUtf8 (word ∷ words) = IsUtf8 word × AreUtf8 words

-- what is told of words: a fault where they are refused or ask, and else none, and rows with what they give
abbrev pub Tells : Reading → Kinds → List Row → Type 0
Tells refused fault rows = Fails refused fault
Tells (asks question) fault rows = Fails (asks question) fault
Tells (all_given g) fault rows = (fault ≡ []) × Holds g rows

second_or_fault : (has_plain : Bool) (fault : Kinds) → IsFault fault → IsFault (if has_plain then UnknownArgument ∷ [] else fault)
second_or_fault true fault f = refl
second_or_fault false fault f = f

module _ (t : Table) where
  abbrev TellsFrom : Reading → Walk → List Text → Type 0
  TellsFrom r w words = Tells r (left_fault t w words) (finished (rules t) (held_after t w words))

  moved_by : (r : Reading) (w to : Walk) (word : Text) (words : List Text) → left_fault t w (word ∷ words) ≡ left_fault t to words
      → finished (rules t) (held_after t w (word ∷ words)) ≡ finished (rules t) (held_after t to words) → TellsFrom r to words → TellsFrom r w (word ∷ words)
  moved_by refused w to word words fault rows h = subst (Fails refused) (sym fault) h
  moved_by (asks question) w to word words fault rows h = subst (Fails (asks question)) (sym fault) h
  moved_by (all_given g) w to word words fault rows h = (fault ∙ h.0, subst (Holds g) (sym rows) h.1)

  moved : (r : Reading) (w to : Walk) (word : Text) (words : List Text) → Moves t w word to → TellsFrom r to words → TellsFrom r w (word ∷ words)
  moved r w to word words m h =
      moved_by r w to word words (move_passes t w to word words m) (ap (λ (v : Walk). finished (rules t) (held_after t v words)) m.walked_to) h

  -- ---- where a walk stands
  -- what is held is that which was given before, and it settles
  record IsClosed (g : GivenTexts) (h : Held) : Type 0 where
    settles : settle_fault (rules t) false h ≡ []
    rows : Holds g (settled (rules t) h).rows
    skip : h.skip ≡ 0

  -- the argument of this name is that of an option with a value
  record TakesValue (name : Text) : Type 0 where
    found : arg_by_id (rules t) name ≡ Some (option_arg takes_value name)
    not_plain : bytes_eq name t.plain ≡ false

  -- an option waits for its value
  record IsWaiting (name : Text) (g : GivenTexts) (h : Held) : Type 0 where
    takes : TakesValue name
    rows : Holds g h.rows
    pending : h.pending ≡ Some (name, [])
    skip : h.skip ≡ 0

  abbrev has_plain : GivenTexts → Bool
  has_plain g = is_some (g t.plain)

  same_plain : (name v : Text) (g : GivenTexts) → bytes_eq name t.plain ≡ false → has_plain (with_text name v g) ≡ has_plain g
  same_plain name v g not_plain = rw not_plain refl

  -- one value of an argument waits to be used
  module _ (rule : Rule) (name v : Text) (rows : List Row) (skip : ℕ) (found : arg_by_id (rules t) name ≡ Some rule) where
    abbrev pending_value : Held
    pending_value = record { rows = rows; pending = Some (name, v ∷ []); skip = skip }

    value_settles : settle_fault (rules t) false pending_value ≡ use_fault false rule (v ∷ []) rows
    value_settles = rw found refl

    value_rows : (settled (rules t) pending_value).rows ≡ used rule (v ∷ []) rows
    value_rows = rw found refl

    closed_value : (g : GivenTexts) → IsUse rule (v ∷ []) name v → Holds g rows → skip ≡ 0 → g name ≡ None → IsClosed (with_text name v g) pending_value
    closed_value g u holds zero_skip none = record {
      settles = value_settles ∙ first_use rule (v ∷ []) name v u g rows holds none;
      rows = subst (Holds (with_text name v g)) (sym value_rows) (holds_used rule (v ∷ []) name v u g rows holds none);
      skip = zero_skip;
    }

  closed_given : (name v word : Text) (r : GivesText t name v word) (g : GivenTexts) (h : Held) → IsClosed g h → g name ≡ None → IsClosed (with_text name v g) (reacted (rules t) r.rule r.values h)
  closed_given name v word r g h c none = record {
    settles = refl;
    rows = holds_used r.rule r.values name v r.is_use g (settled (rules t) h).rows c.rows none;
    skip = c.skip;
  }

  -- ---- behind the last word
  closed_end : (ended : Bool) (g : GivenTexts) (h : Held) → IsClosed g h → TellsFrom (all_given g) (standing idle (has_plain g) ended h) []
  closed_end ended g h c = (left_end t (standing idle (has_plain g) ended h) ∙ end_is t h ∙ c.settles, subst (Holds g) (sym (finished_is t h)) c.rows)

  fault_at_end : (w : Walk) → IsFault (settle_fault (rules t) false w.held) → IsFault (left_fault t w [])
  fault_at_end w f = subst IsFault (sym (left_end t w ∙ end_is t w.held)) f

  -- ---- where what is held doesn't settle
  unsettled_ended : (words : List Text) (waiting : Waiting) (plain_met : Bool) (h : Held) → IsFault (settle_fault (rules t) false h) → IsFault (left_fault t (standing waiting plain_met true h) words)
  unsettled_ended [] waiting plain_met h f = fault_at_end (standing waiting plain_met true h) f
  unsettled_ended (word ∷ words) waiting plain_met h f = turn_fails t refused (standing waiting plain_met true h) word words (late_fails t waiting plain_met word h f)

  -- a marked word
  unsettled_mark : (kind : WordKind) (word : Text) (words : List Text) (waiting : Waiting) (plain_met : Bool) (h : Held) → Reads t kind word → is_marked word ≡ true
      → IsFault (settle_fault (rules t) false h) → h.skip ≡ 0 → IsFault (left_fault t (standing waiting plain_met false h) (word ∷ words))
  unsettled_mark ends word words waiting plain_met h r marked f none =
      subst IsFault (sym (move_passes t (standing waiting plain_met false h) (standing waiting plain_met true h) word words (end_moves t waiting plain_met word h r.1))) (unsettled_ended words waiting plain_met h f)
  unsettled_mark (opens name) word words waiting plain_met h r marked f none = turn_fails t refused (standing waiting plain_met false h) word words (opens_fails t name waiting plain_met word h r f)
  unsettled_mark (gives name v) word words waiting plain_met h r marked f none =
      turn_fails t refused (standing waiting plain_met false h) word words (gives_fails t name v waiting plain_met word h (gives_text t name v word r) f)
  unsettled_mark (wants question) word words waiting plain_met h r marked f none = turn_fails t refused (standing waiting plain_met false h) word words (question_fails t question r.0 waiting plain_met word h r.1 f)
  unsettled_mark unknown_option word words waiting plain_met h r marked f none = turn_fails t refused (standing waiting plain_met false h) word words (unknown_fails t waiting plain_met word h r none)
  unsettled_mark plain word words waiting plain_met h r marked f none = absurd (true≢false (sym marked ∙ r.unmarked))

  is_plain : (kind : WordKind) (word : Text) → Reads t kind word → is_marked word ≡ false → IsPlainAt false word
  is_plain ends word r unmarked = absurd (true≢false (sym r.0 ∙ unmarked))
  is_plain (opens name) word r unmarked = absurd (true≢false (sym r.marked ∙ unmarked))
  is_plain (gives name v) word (inl r) unmarked = absurd (true≢false (sym r.marked ∙ unmarked))
  is_plain (gives name v) word (inr p) unmarked = absurd (true≢false (sym p.0.marked ∙ unmarked))
  is_plain (wants question) word r unmarked = absurd (true≢false (sym r.1.marked ∙ unmarked))
  is_plain unknown_option word r unmarked = absurd (true≢false (sym r.marked ∙ unmarked))
  is_plain plain word r unmarked = r

  module _ (good : is_table t ≡ true) where
    reads_word : (word : Text) → IsUtf8 word → Reads t (word_kind t.options word) word
    reads_word word utf8 = reads t word good utf8

    unsettled : (words : List Text) (plain_met : Bool) (h : Held) → AreUtf8 words → IsFault (settle_fault (rules t) false h) → h.skip ≡ 0 → IsFault (left_fault t (standing idle plain_met false h) words)
    unfolding AreUtf8
    unsettled [] plain_met h utf8 f none = fault_at_end (standing idle plain_met false h) f
    unsettled (word ∷ words) plain_met h utf8 f none = go (is_marked word) refl
      where
        go : (b : Bool) → is_marked word ≡ b → IsFault (left_fault t (standing idle plain_met false h) (word ∷ words))
        go true marked = unsettled_mark (word_kind t.options word) word words idle plain_met h (reads_word word utf8.0) marked f none
        go false unmarked = turn_fails t refused (standing idle plain_met false h) word words
            (plain_fails t false plain_met word h (is_plain (word_kind t.options word) word (reads_word word utf8.0) unmarked) (second_or_fault plain_met (settle_fault (rules t) false h) f))

    -- ---- a plain word, before `--` or behind it
    module _ (ended : Bool) (word : Text) (words : List Text) (g : GivenTexts) (h : Held) (next : GivenTexts → Reading) where
      plain_word : IsPlainAt ended word → IsClosed g h
          → ((more : GivenTexts) (held : Held) → IsClosed more held → TellsFrom (next more) (standing idle (has_plain more) ended held) words)
          → TellsFrom (giving t.plain word g next) (standing idle (has_plain g) ended h) (word ∷ words)
      plain_word r c later = go (g t.plain) refl
        where
          go : (o : Option Text) → g t.plain ≡ o → TellsFrom (if is_some o then refused else next (with_text t.plain word g)) (standing idle (is_some o) ended h) (word ∷ words)
          go (Some x) some = turn_fails t refused (standing idle true ended h) word words (plain_fails t ended true word h r refl)
          go None none =
              let held = plain_held t word h in
              let closed : IsClosed (with_text t.plain word g) held =
              closed_value (plain_arg t.plain) t.plain word (settled (rules t) h).rows h.skip (plain_by_id t) g (plain_use t.plain word) c.rows c.skip none in
              let there : has_plain (with_text t.plain word g) ≡ true = rw (same t.plain) refl in
              let after : TellsFrom (next (with_text t.plain word g)) (standing idle true ended held) words =
              subst (λ (b : Bool). TellsFrom (next (with_text t.plain word g)) (standing idle b ended held) words) there (later (with_text t.plain word g) held closed) in
              moved (next (with_text t.plain word g)) (standing idle false ended h) (standing idle true ended held) word words (plain_moves t ended word h r c.settles) after

    tells_ended : (words : List Text) (g : GivenTexts) (h : Held) → IsClosed g h → TellsFrom (plain_from t g words) (standing idle (has_plain g) true h) words
    tells_ended [] g h c = closed_end true g h c
    tells_ended (word ∷ words) g h c = plain_word true word words g h (λ more. plain_from t more words) tt c (λ more held closed. tells_ended words more held closed)

    -- ---- before `--`
    -- where no option waits for its value, or one does
    abbrev Stands : Option Text → GivenTexts → Held → Type 0
    Stands None g h = IsClosed g h
    Stands (Some name) g h = IsWaiting name g h

    abbrev waiting_for : Option Text → Waiting
    waiting_for None = idle
    waiting_for (Some name) = option name

    abbrev Later : List Text → Type 0
    Later words = (pending : Option Text) (g : GivenTexts) (h : Held) → Stands pending g h
        → TellsFrom (read_from t pending g words) (standing (waiting_for pending) (has_plain g) false h) words

    -- behind the text of an option
    later_value : (name v : Text) (words : List Text) (g : GivenTexts) (held : Held) → bytes_eq name t.plain ≡ false → IsClosed (with_text name v g) held → Later words
        → TellsFrom (read_from t None (with_text name v g) words) (standing idle (has_plain g) false held) words
    later_value name v words g held not_plain c later =
        subst (λ (b : Bool). TellsFrom (read_from t None (with_text name v g) words) (standing idle b false held) words) (same_plain name v g not_plain) (later None (with_text name v g) held c)

    given_word : (name v word : Text) (words : List Text) (g : GivenTexts) (h : Held) → GivesText t name v word → IsClosed g h → Later words
        → TellsFrom (giving name v g (λ more. read_from t None more words)) (standing idle (has_plain g) false h) (word ∷ words)
    given_word name v word words g h r c later = go (g name) refl
      where
        go : (o : Option Text) → g name ≡ o → TellsFrom (if is_some o then refused else read_from t None (with_text name v g) words) (standing idle (has_plain g) false h) (word ∷ words)
        go (Some x) some =
            turn_fails t refused (standing idle (has_plain g) false h) word words
            (gives_again t name v idle (has_plain g) word h r c.settles (second_use r.rule r.values name v r.is_use g (settled (rules t) h).rows c.rows x some))
        go None none =
            let held = reacted (rules t) r.rule r.values h in
            moved (read_from t None (with_text name v g) words) (standing idle (has_plain g) false h) (standing idle (has_plain g) false held) word words
            (gives_moves t name v (has_plain g) word h r c.settles (first_use r.rule r.values name v r.is_use g (settled (rules t) h).rows c.rows none))
            (later_value name v words g held r.not_plain (closed_given name v word r g h c none) later)

    closed_word : (kind : WordKind) (word : Text) (words : List Text) (g : GivenTexts) (h : Held) → Reads t kind word → IsClosed g h → Later words
        → TellsFrom (read_at t kind word words g (λ pending more. read_from t pending more words)) (standing idle (has_plain g) false h) (word ∷ words)
    closed_word ends word words g h r c later =
        moved (plain_from t g words) (standing idle (has_plain g) false h) (standing idle (has_plain g) true h) word words (end_moves t idle (has_plain g) word h r.1) (tells_ended words g h c)
    closed_word (opens name) word words g h r c later =
        let takes : TakesValue name = record { found = r.option.by_id; not_plain = r.option.not_plain } in
        moved (read_from t (Some name) g words) (standing idle (has_plain g) false h) (standing (option name) (has_plain g) false (opened t name h)) word words
        (opens_moves t name (has_plain g) word h r c.settles) (later (Some name) g (opened t name h) (record { takes = takes; rows = c.rows; pending = refl; skip = c.skip }))
    closed_word (gives name v) word words g h r c later = given_word name v word words g h (gives_text t name v word r) c later
    closed_word (wants question) word words g h r c later =
        turn_fails t (asks question) (standing idle (has_plain g) false h) word words (question_asks t question r.0 idle (has_plain g) word h r.1 c.settles)
    closed_word unknown_option word words g h r c later = turn_fails t refused (standing idle (has_plain g) false h) word words (unknown_fails t idle (has_plain g) word h r c.skip)
    closed_word plain word words g h r c later = plain_word false word words g h (λ more. read_from t None more words) r c (λ more held closed. later None more held closed)

    -- a word behind an option that waits
    module _ (name word : Text) (words : List Text) (g : GivenTexts) (rows : List Row) (takes : TakesValue name) (holds : Holds g rows) where
      -- it has no value yet
      waiting_fault : IsFault (settle_fault (rules t) false (waits name rows))
      waiting_fault = rw takes.found refl

      abbrev here : Walk
      here = standing (option name) (has_plain g) false (waits name rows)

      taken_word : AreUtf8 words → IsPlainAt false word → Later words → TellsFrom (giving name word g (λ more. read_from t None more words)) here (word ∷ words)
      taken_word utf8 r later =
          moved (giving name word g (λ more. read_from t None more words)) here (standing idle (has_plain g) false (with_value name word rows)) word words
          (taken t name (has_plain g) word rows takes.found r) (go (g name) refl)
        where
          settles : settle_fault (rules t) false (with_value name word rows) ≡ use_fault false (option_arg takes_value name) (word ∷ []) rows
          settles = value_settles (option_arg takes_value name) name word rows 0 takes.found

          go : (o : Option Text) → g name ≡ o
              → TellsFrom (if is_some o then refused else read_from t None (with_text name word g) words) (standing idle (has_plain g) false (with_value name word rows)) words
          go (Some x) some =
              unsettled words (has_plain g) (with_value name word rows) utf8
              (subst IsFault (sym settles) (second_use (option_arg takes_value name) (word ∷ []) name word (value_use name word) g rows holds x some)) refl
          go None none =
              later_value name word words g (with_value name word rows) takes.not_plain
              (closed_value (option_arg takes_value name) name word rows 0 takes.found g (value_use name word) holds refl none) later

      option_word : IsUtf8 word → AreUtf8 words → Later words
          → TellsFrom (if is_marked word then refused else giving name word g (λ more. read_from t None more words)) here (word ∷ words)
      option_word utf8 are later = go (is_marked word) refl
        where
          go : (b : Bool) → is_marked word ≡ b → TellsFrom (if b then refused else giving name word g (λ more. read_from t None more words)) here (word ∷ words)
          go true marked = unsettled_mark (word_kind t.options word) word words (option name) (has_plain g) (waits name rows) (reads_word word utf8) marked waiting_fault refl
          go false unmarked = taken_word are (is_plain (word_kind t.options word) word (reads_word word utf8) unmarked) later

    -- what is held where an option waits
    waits_for : (name : Text) (g : GivenTexts) (h : Held) → IsWaiting name g h → waits name h.rows ≡ h
    waits_for name g h s = λ i. record { rows = h.rows; pending = sym s.pending i; skip = sym s.skip i }

    tells : (words : List Text) → AreUtf8 words → Later words
    unfolding AreUtf8
    tells [] utf8 None g h c = closed_end false g h c
    tells [] utf8 (Some name) g h s =
        fault_at_end (standing (option name) (has_plain g) false h)
        (subst (λ (held : Held). IsFault (settle_fault (rules t) false held)) (waits_for name g h s) (waiting_fault name [] [] g h.rows s.takes s.rows))
    tells (word ∷ words) utf8 None g h c = closed_word (word_kind t.options word) word words g h (reads_word word utf8.0) c (tells words utf8.1)
    tells (word ∷ words) utf8 (Some name) g h s =
        subst (λ (held : Held). TellsFrom (read_from t (Some name) g (word ∷ words)) (standing (option name) (has_plain g) false held) (word ∷ words)) (waits_for name g h s)
        (option_word name word words g h.rows s.takes s.rows utf8.0 utf8.1 (tells words utf8.1))

  -- ---- the whole call
  nothing_entered : (stop : Option (Text × List Text)) → is_some (entered (built_table t) stop) ≡ false
  nothing_entered None = refl
  nothing_entered (Some p) = refl

  nothing_below : (stop : Option (Text × List Text)) → entered_fault (built_table t) stop ≡ []
  nothing_below None = refl
  nothing_below (Some p) = refl

  built_fault_is : (words : List Text) → built_fault (built_table t) nothing_held words ≡ left_fault t (standing idle false false nothing_held) words
  built_fault_is words =
      let stop = (walk (rules t) [] nothing_held words).stopped in
      ap₂ (λ (b : Bool) (below : Kinds). level_fault (top t) [] nothing_held words b below) (nothing_entered stop) (nothing_below stop)

  fault_is : (words : List Text) → fault_of (table_app t) words ≡ left_fault t (standing idle false false nothing_held) words
  fault_is words = ap (λ (a : App). fault_of a words) (flat_is t) ∙ ap (λ (b : App). built_fault b nothing_held words) (built_flat t) ∙ built_fault_is words

  rows_are : (words : List Text) → matches_of (table_app t) words ≡ finished (rules t) (held_after t (standing idle false false nothing_held) words)
  rows_are words = ap (λ (a : App). matches_of a words) (flat_is t) ∙ ap (λ (b : App). rows_after b.top.rules (names_of b) words) (built_flat t)

are_utf8 : (words : List (String Global)) → AreUtf8 (texts words)
unfolding AreUtf8
are_utf8 [] = tt
are_utf8 (word ∷ words) = (IsUtf8-string_bytes word, are_utf8 words)

module _ (t : Table) (good : is_table t ≡ true) (words : List (String Global)) where
  -- the fault of `clap` and its rows tell what the words come to
  sentence : Tells (reading_of t (texts words)) (fault_of (table_app t) (texts words)) (matches_of (table_app t) (texts words))
  sentence =
      let all : TellsFrom t (reading_of t (texts words)) (standing idle false false nothing_held) (texts words) =
      tells t good (texts words) (are_utf8 words) None nothing nothing_held (record { settles = refl; rows = λ name. refl; skip = refl }) in
      subst (λ (k : Kinds). Tells (reading_of t (texts words)) k (matches_of (table_app t) (texts words))) (sym (fault_is t (texts words)))
      (subst (λ (rows : List Row). Tells (reading_of t (texts words)) (left_fault t (standing idle false false nothing_held) (texts words)) rows) (sym (rows_are t (texts words))) all)

  read_taken : (r : Reading) (fault : Kinds) (rows : List Row) → Tells r fault rows → fault ≡ [] → r ≡ all_given (given_in rows)
  read_taken refused fault rows h none = absurd (subst (Fails refused) none h)
  read_taken (asks question) fault rows h none = absurd (subst (Fails (asks question)) none h)
  read_taken (all_given g) fault rows h none = ap all_given (sym (given_held g rows h.1))

  pub taken_words : (rows : List Row) → fault_of (table_app t) (texts words) ≡ [] → rows ≡ matches_of (table_app t) (texts words) → reading_of t (texts words) ≡ all_given (given_in rows)
  taken_words rows fits found =
      read_taken (reading_of t (texts words)) (fault_of (table_app t) (texts words)) (matches_of (table_app t) (texts words)) sentence fits ∙ ap (λ (rs : List Row). all_given (given_in rs)) (sym found)

  one_kind : (r : Reading) (fault : Kinds) (k : ErrorKind) (said : Reading) → Fails r fault → IsAmong k fault → reading_by k ≡ Some said → r ≡ said
  one_kind r [] k said h among is = absurd h
  one_kind r (x ∷ []) k said h (inl same) is = ap (λ (o : Option Reading). unwrap_or o r) (sym h ∙ ap reading_by (sym same) ∙ is)
  one_kind r (x ∷ []) k said h (inr none) is = absurd none
  one_kind r (x ∷ y ∷ fault) k said h among is = absurd h

  read_kind : (r : Reading) (fault : Kinds) (rows : List Row) (k : ErrorKind) (said : Reading) → Tells r fault rows → IsAmong k fault → reading_by k ≡ Some said → r ≡ said
  read_kind refused fault rows k said h among is = one_kind refused fault k said h among is
  read_kind (asks question) fault rows k said h among is = one_kind (asks question) fault k said h among is
  read_kind (all_given g) fault rows k said h among is = absurd (subst (IsAmong k) h.0 among)

  -- an error of `clap` says what the words come to
  answered_words : (e : Error) (said : Reading) → HasKind (fault_of (table_app t) (texts words)) e → reading_by (kind_of e) ≡ Some said → reading_of t (texts words) ≡ said
  answered_words e said (inl memory) is = absurd (true≢false (sym (ap is_some (sym (ap reading_by memory) ∙ is))))
  answered_words e said (inr among) is =
      read_kind (reading_of t (texts words)) (fault_of (table_app t) (texts words)) (matches_of (table_app t) (texts words)) (kind_of e) said sentence among is

  pub answered_sentence : {F : Type 0} (e : Error) (k : ErrorKind) (r : Result Sentence F) → HasKind (fault_of (table_app t) (texts words)) e → k ≡ kind_of e
      → IfOk r (λ s. reading_by k ≡ Some (sentence_seen s)) → IfOk r (λ s. reading_of t (texts words) ≡ sentence_seen s)
  answered_sentence e k (Ok s) has same is = answered_words e (sentence_seen s) has (sym (ap reading_by same) ∙ is)
  answered_sentence e k (Err w) has same is = is
