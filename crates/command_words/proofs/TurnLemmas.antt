-- What the walk of `clap` makes of one word, by its kind.
use Rattle.std.proofs.Common.{◌≡◌, ◌∙◌, ◌⊎◌, inl, inr, ◌&&◌, ◌||◌, ℕ, Bool, cond, true, false, refl, sym, ap, ap₂, subst, List, [], ◌∷◌, Option, Some, None, fold}
use Rattle.std.specs.Prelude.{if◌then◌else◌}
use Rattle.std.specs.Option.{option_map_or}
use Rattle.std.specs.Str.{bytes_eq}
use Rattle.clap.specs.Faults.{check_fault, default_fault, defaults_fault, flag_word_fault, positional_fault, settle_fault, step_fault, stray_fault, turn_fault, use_fault, walk_fault, word_fault}
use Rattle.clap.specs.Kinds.{Kinds, check_kinds, or_else}
use Rattle.clap.specs.Lexer.{long_of}
use Rattle.clap.specs.Walk.{Held, Row, Rule, Step, Text, Waiting, Walk, after_step, arg_by_id, finished, has_row, idle, is_pending, long_or_other, next, option, reacted, settled, trailing, value, walked, with_default, word_met}
use Rattle.clap.specs.declared.error.kind.ErrorKind.TheVariants.{DisplayHelp, DisplayVersion, UnknownArgument}
use Rattle.clap.specs.declared.error.kind.ErrorKind.{ErrorKind}
use Rattle.command_words.specs.Grammar.{Question, Reading, Table, asks, asks_for, for_help, for_version, is_flag, takes_value}
use Rattle.command_words.proofs.RuleLemmas.{HasNoDefaults, no_defaults, no_second, none_required, option_arg, plain_arg, rules, same, top}
use Rattle.command_words.proofs.RowLemmas.{IsUse, flag_use, value_use}
use Rattle.command_words.proofs.WordLemmas.{Fails, IsFault, ReadsFlag, ReadsPlain, ReadsUnknown, is_end}

-- ---- faults, one after the other
pub first_fails : (r : Reading) (a b : Kinds) → Fails r a → Fails r (or_else a b)
first_fails r [] b h = absurd h
first_fails r (k ∷ []) b h = h
first_fails r (k ∷ other ∷ ks) b h = absurd h

or_else-assoc : (a b c : Kinds) → or_else (or_else a b) c ≡ or_else a (or_else b c)
or_else-assoc [] b c = refl
or_else-assoc (k ∷ ks) b c = refl

and_false : (b : Bool) → (b && false) ≡ false
and_false true = refl
and_false false = refl

-- where the walk stands: what waits, whether there is a plain word, whether `--` was met, and what is held
abbrev pub place : Bool → ℕ
place true = 2
place false = 1

abbrev pub standing : Waiting → Bool → Bool → Held → Walk
standing waiting has_plain ended h = record { held = h; waiting = waiting; position = place has_plain; is_trailing = ended; stopped = None }

abbrev pub with_value : Text → Text → List Row → Held
with_value name word rows = record { rows = rows; pending = Some (name, word ∷ []); skip = 0 }

abbrev pub waits : Text → List Row → Held
waits name rows = record { rows = rows; pending = Some (name, []); skip = 0 }

-- behind `--` every word is plain
abbrev pub IsPlainAt : Bool → Text → Type 0
IsPlainAt true word = Unit {0}
IsPlainAt false word = ReadsPlain word

module _ (t : Table) where
  -- ---- the walk from here on
  abbrev pub end_fault : Held → Kinds
  end_fault h = or_else (settle_fault (rules t) false h) (or_else (defaults_fault (settled (rules t) h).rows (rules t)) (check_fault (top t) (finished (rules t) h) false))

  abbrev pub held_after : Walk → List Text → Held
  held_after w words = (fold (walked (rules t) []) w words).held

  abbrev pub left_fault : Walk → List Text → Kinds
  left_fault w words = or_else (walk_fault (top t) [] w words) (end_fault (held_after w words))

  abbrev pub turn : Walk → Text → Kinds
  turn w word = turn_fault (top t) [] w word

  turned : (w : Walk) (word : Text) (words : List Text) → left_fault w (word ∷ words) ≡ or_else (turn w word) (left_fault (walked (rules t) [] w word) words)
  unfolding walk_fault
  turned w word words = or_else-assoc (turn w word) (walk_fault (top t) [] (walked (rules t) [] w word) words) (end_fault (held_after (walked (rules t) [] w word) words))

  pub turn_fails : (r : Reading) (w : Walk) (word : Text) (words : List Text) → Fails r (turn w word) → Fails r (left_fault w (word ∷ words))
  turn_fails r w word words h = subst (Fails r) (sym (turned w word words)) (first_fails r (turn w word) _ h)

  -- from one place the walk goes to another at a word
  pub record Moves (w : Walk) (word : Text) (to : Walk) : Type 0 where
    pub passes : turn w word ≡ []
    pub walked_to : walked (rules t) [] w word ≡ to

  pub move_passes : (w to : Walk) (word : Text) (words : List Text) → Moves w word to → left_fault w (word ∷ words) ≡ left_fault to words
  move_passes w to word words m =
      turned w word words ∙ ap (λ (k : Kinds). or_else k (left_fault (walked (rules t) [] w word) words)) m.passes ∙ ap (λ (v : Walk). left_fault v words) m.walked_to

  -- ---- one word
  word_fault_is : (waiting : Waiting) (word : Text) (h : Held)
      → word_fault (top t) [] false waiting word h ≡ (if is_end word then [] else flag_word_fault (rules t) false (long_of word) word h)
  word_fault_is Waiting.idle word h = refl
  word_fault_is (Waiting.option id) word h = refl
  word_fault_is Waiting.positional word h = refl

  word_met_is : (waiting : Waiting) (position : ℕ) (word : Text) (h : Held)
      → word_met (rules t) [] false waiting position word h ≡ (if is_end word then (h, trailing position) else long_or_other (rules t) waiting word (long_of word) h)
  word_met_is Waiting.idle position word h = refl
  word_met_is (Waiting.option id) position word h = refl
  word_met_is Waiting.positional position word h = refl

  -- a turn, by what the word is and its fault
  module _ (waiting : Waiting) (has_plain ended : Bool) (h : Held) (word : Text) where
    turn_is : (met : Held × Step) (fault : Kinds) → word_met (rules t) [] ended waiting (place has_plain) word h ≡ met → word_fault (top t) [] ended waiting word h ≡ fault
        → turn (standing waiting has_plain ended h) word ≡ or_else fault (step_fault (top t) (place has_plain) met.0 met.1)
    turn_is met fault m f = ap₂ (λ (k : Kinds) (p : Held × Step). or_else k (step_fault (top t) (place has_plain) p.0 p.1)) f m

    walked_is : (met : Held × Step) → word_met (rules t) [] ended waiting (place has_plain) word h ≡ met
        → walked (rules t) [] (standing waiting has_plain ended h) word ≡ after_step (rules t) word (standing waiting has_plain ended h) met.0 met.1
    unfolding walked
    walked_is met m = ap (λ (p : Held × Step). after_step (rules t) word (standing waiting has_plain ended h) p.0 p.1) m

    word_fails : (r : Reading) (fault : Kinds) → word_fault (top t) [] ended waiting word h ≡ fault → Fails r fault → Fails r (turn (standing waiting has_plain ended h) word)
    word_fails r fault is f = first_fails r (word_fault (top t) [] ended waiting word h) _ (subst (Fails r) (sym is) f)

  -- ---- a plain word
  value_fault : (has_plain : Bool) (h : Held) → step_fault (top t) (place has_plain) h value ≡ (if has_plain then UnknownArgument ∷ [] else settle_fault (rules t) false h)
  value_fault true h = ap (λ (o : Option Rule). option_map_or (λ (a : Rule). positional_fault (rules t) false a h) o (stray_fault (top t))) (no_second t)
  value_fault false h = rw (and_false (is_pending (plain_arg t.plain) h.pending)) refl

  abbrev pub plain_held : Text → Held → Held
  plain_held word h = record { rows = (settled (rules t) h).rows; pending = Some (t.plain, word ∷ []); skip = h.skip }

  value_step : (ended : Bool) (h : Held) (word : Text) → after_step (rules t) word (standing idle false ended h) h value ≡ standing idle true ended (plain_held word h)
  value_step true h word = rw (and_false (is_pending (plain_arg t.plain) h.pending)) refl
  value_step false h word = rw (and_false (is_pending (plain_arg t.plain) h.pending)) refl

  plain_fault : (waiting : Waiting) (word : Text) (h : Held) → ReadsPlain word → word_fault (top t) [] false waiting word h ≡ []
  plain_fault waiting word h r = word_fault_is waiting word h ∙ rw (r.no_end, r.long, r.short) refl

  plain_met : (position : ℕ) (word : Text) (h : Held) → ReadsPlain word → word_met (rules t) [] false idle position word h ≡ (h, value)
  plain_met position word h r = word_met_is idle position word h ∙ rw (r.no_end, r.long, r.short) refl

  plain_turn : (ended has_plain : Bool) (word : Text) (h : Held) → IsPlainAt ended word
      → turn (standing idle has_plain ended h) word ≡ (if has_plain then UnknownArgument ∷ [] else settle_fault (rules t) false h)
  plain_turn true has_plain word h r = turn_is idle has_plain true h word (h, value) [] refl refl ∙ value_fault has_plain h
  plain_turn false has_plain word h r = turn_is idle has_plain false h word (h, value) [] (plain_met (place has_plain) word h r) (plain_fault idle word h r) ∙ value_fault has_plain h

  plain_walked : (ended : Bool) (word : Text) (h : Held) → IsPlainAt ended word → walked (rules t) [] (standing idle false ended h) word ≡ standing idle true ended (plain_held word h)
  plain_walked true word h r = walked_is idle false true h word (h, value) refl ∙ value_step true h word
  plain_walked false word h r = walked_is idle false false h word (h, value) (plain_met 1 word h r) ∙ value_step false h word

  pub plain_fails : (ended has_plain : Bool) (word : Text) (h : Held) → IsPlainAt ended word → IsFault (if has_plain then UnknownArgument ∷ [] else settle_fault (rules t) false h)
      → IsFault (turn (standing idle has_plain ended h) word)
  plain_fails ended has_plain word h r f = subst IsFault (sym (plain_turn ended has_plain word h r)) f

  pub plain_moves : (ended : Bool) (word : Text) (h : Held) → IsPlainAt ended word → settle_fault (rules t) false h ≡ [] → Moves (standing idle false ended h) word (standing idle true ended (plain_held word h))
  plain_moves ended word h r settles = record { passes = plain_turn ended false word h r ∙ settles; walked_to = plain_walked ended word h r }

  -- behind `--` a fault of what is held is that of the next word, whatever waits
  pub late_fails : (waiting : Waiting) (has_plain : Bool) (word : Text) (h : Held) → IsFault (settle_fault (rules t) false h) → IsFault (turn (standing waiting has_plain true h) word)
  late_fails waiting true word h f = subst IsFault (sym (turn_is waiting true true h word (h, value) [] refl refl ∙ value_fault true h)) refl
  late_fails waiting false word h f = subst IsFault (sym (turn_is waiting false true h word (h, value) [] refl refl ∙ value_fault false h)) f

  -- an option takes it
  taken_met : (name : Text) (position : ℕ) (word : Text) (rows : List Row) → arg_by_id (rules t) name ≡ Some (option_arg takes_value name) → ReadsPlain word
      → word_met (rules t) [] false (option name) position word (waits name rows) ≡ (with_value name word rows, next idle)
  taken_met name position word rows found r = word_met_is (option name) position word (waits name rows) ∙ rw (r.no_end, r.long, r.short, found, same name) refl

  pub taken : (name : Text) (has_plain : Bool) (word : Text) (rows : List Row) → arg_by_id (rules t) name ≡ Some (option_arg takes_value name) → ReadsPlain word
      → Moves (standing (option name) has_plain false (waits name rows)) word (standing idle has_plain false (with_value name word rows))
  taken name has_plain word rows found r =
      let h = waits name rows in
      let met = taken_met name (place has_plain) word rows found r in
      record {
        passes = turn_is (option name) has_plain false h word (with_value name word rows, next idle) [] met (plain_fault (option name) word h r);
        walked_to = walked_is (option name) has_plain false h word (with_value name word rows, next idle) met;
      }

  -- ---- `--`
  pub end_moves : (waiting : Waiting) (has_plain : Bool) (word : Text) (h : Held) → is_end word ≡ true → Moves (standing waiting has_plain false h) word (standing waiting has_plain true h)
  end_moves waiting has_plain word h e =
      let met : word_met (rules t) [] false waiting (place has_plain) word h ≡ (h, trailing (place has_plain)) = word_met_is waiting (place has_plain) word h ∙ rw e refl in
      record {
        passes = turn_is waiting has_plain false h word (h, trailing (place has_plain)) [] met (word_fault_is waiting word h ∙ rw e refl);
        walked_to = walked_is waiting has_plain false h word (h, trailing (place has_plain)) met;
      }

  -- ---- `--help` and `--version`
  abbrev answer : Question → ErrorKind
  answer for_help = DisplayHelp
  answer for_version = DisplayVersion

  question_fault : (question : Question) (name : Text) (waiting : Waiting) (word : Text) (h : Held) → ReadsFlag t (asks_for question) name None word
      → word_fault (top t) [] false waiting word h ≡ or_else (settle_fault (rules t) false h) (answer question ∷ [])
  question_fault for_help name waiting word h r = word_fault_is waiting word h ∙ rw (r.no_end, r.long, r.option.by_long) refl
  question_fault for_version name waiting word h r = word_fault_is waiting word h ∙ rw (r.no_end, r.long, r.option.by_long) refl

  pub question_fails : (question : Question) (name : Text) (waiting : Waiting) (has_plain : Bool) (word : Text) (h : Held) → ReadsFlag t (asks_for question) name None word
      → IsFault (settle_fault (rules t) false h) → IsFault (turn (standing waiting has_plain false h) word)
  question_fails question name waiting has_plain word h r f =
      word_fails waiting has_plain false h word _ _ (question_fault question name waiting word h r) (first_fails _ (settle_fault (rules t) false h) _ f)

  pub question_asks : (question : Question) (name : Text) (waiting : Waiting) (has_plain : Bool) (word : Text) (h : Held) → ReadsFlag t (asks_for question) name None word
      → settle_fault (rules t) false h ≡ [] → Fails (asks question) (turn (standing waiting has_plain false h) word)
  question_asks question name waiting has_plain word h r settles =
      word_fails waiting has_plain false h word (asks question) (answer question ∷ []) (question_fault question name waiting word h r ∙ ap (λ (k : Kinds). or_else k (answer question ∷ [])) settles) (go question)
    where
      go : (q : Question) → Fails (asks q) (answer q ∷ [])
      go for_help = refl
      go for_version = refl

  -- ---- an option that waits for its value
  opens_fault : (name : Text) (waiting : Waiting) (word : Text) (h : Held) → ReadsFlag t takes_value name None word → word_fault (top t) [] false waiting word h ≡ settle_fault (rules t) false h
  opens_fault name waiting word h r = word_fault_is waiting word h ∙ rw (r.no_end, r.long, r.option.by_long) refl

  pub opens_fails : (name : Text) (waiting : Waiting) (has_plain : Bool) (word : Text) (h : Held) → ReadsFlag t takes_value name None word → IsFault (settle_fault (rules t) false h)
      → IsFault (turn (standing waiting has_plain false h) word)
  opens_fails name waiting has_plain word h r f = word_fails waiting has_plain false h word _ _ (opens_fault name waiting word h r) f

  abbrev pub opened : Text → Held → Held
  opened name h = record (settled (rules t) h) { pending = Some (name, []) }

  opens_met : (name : Text) (position : ℕ) (word : Text) (h : Held) → ReadsFlag t takes_value name None word → word_met (rules t) [] false idle position word h ≡ (opened name h, next (option name))
  opens_met name position word h r = word_met_is idle position word h ∙ rw (r.no_end, r.long, r.option.by_long) refl

  pub opens_moves : (name : Text) (has_plain : Bool) (word : Text) (h : Held) → ReadsFlag t takes_value name None word → settle_fault (rules t) false h ≡ []
      → Moves (standing idle has_plain false h) word (standing (option name) has_plain false (opened name h))
  opens_moves name has_plain word h r settles =
      let met = opens_met name (place has_plain) word h r in
      record {
        passes = turn_is idle has_plain false h word (opened name h, next (option name)) [] met (opens_fault name idle word h r ∙ settles);
        walked_to = walked_is idle has_plain false h word (opened name h, next (option name)) met;
      }

  -- ---- an option that gives a text
  pub record GivesText (name v word : Text) : Type 0 where
    pub rule : Rule
    pub values : List Text
    pub is_use : IsUse rule values name v
    pub not_plain : bytes_eq name t.plain ≡ false
    pub fault : (waiting : Waiting) (h : Held) → word_fault (top t) [] false waiting word h ≡ or_else (settle_fault (rules t) false h) (use_fault false rule values (settled (rules t) h).rows)
    pub met : (position : ℕ) (h : Held) → word_met (rules t) [] false idle position word h ≡ (reacted (rules t) rule values h, next idle)

  pub gives_text : (name v word : Text) → ReadsFlag t takes_value name (Some v) word ⊎ (ReadsFlag t is_flag name None word × (v ≡ [])) → GivesText name v word
  gives_text name v word (inl r) = record {
    rule = option_arg takes_value name;
    values = v ∷ [];
    is_use = value_use name v;
    not_plain = r.option.not_plain;
    fault = λ waiting h. word_fault_is waiting word h ∙ rw (r.no_end, r.long, r.option.by_long) refl;
    met = λ position h. word_met_is idle position word h ∙ rw (r.no_end, r.long, r.option.by_long) refl;
  }
  gives_text name v word (inr p) = record {
    rule = option_arg is_flag name;
    values = [];
    is_use = subst (IsUse (option_arg is_flag name) [] name) (sym p.1) (flag_use name);
    not_plain = p.0.option.not_plain;
    fault = λ waiting h. word_fault_is waiting word h ∙ rw (p.0.no_end, p.0.long, p.0.option.by_long) refl;
    met = λ position h. word_met_is idle position word h ∙ rw (p.0.no_end, p.0.long, p.0.option.by_long) refl;
  }

  module _ (name v : Text) (waiting : Waiting) (has_plain : Bool) (word : Text) (h : Held) (r : GivesText name v word) where
    pub gives_fails : IsFault (settle_fault (rules t) false h) → IsFault (turn (standing waiting has_plain false h) word)
    gives_fails f = word_fails waiting has_plain false h word _ _ (r.fault waiting h) (first_fails _ (settle_fault (rules t) false h) _ f)

    pub gives_again : settle_fault (rules t) false h ≡ [] → IsFault (use_fault false r.rule r.values (settled (rules t) h).rows) → IsFault (turn (standing waiting has_plain false h) word)
    gives_again settles f =
        word_fails waiting has_plain false h word _ _ (r.fault waiting h ∙ ap (λ (k : Kinds). or_else k (use_fault false r.rule r.values (settled (rules t) h).rows)) settles) f

  pub gives_moves : (name v : Text) (has_plain : Bool) (word : Text) (h : Held) (r : GivesText name v word) → settle_fault (rules t) false h ≡ []
      → use_fault false r.rule r.values (settled (rules t) h).rows ≡ [] → Moves (standing idle has_plain false h) word (standing idle has_plain false (reacted (rules t) r.rule r.values h))
  gives_moves name v has_plain word h r settles used =
      let met = r.met (place has_plain) h in
      let held = reacted (rules t) r.rule r.values h in
      record {
        passes = turn_is idle has_plain false h word (held, next idle) [] met (r.fault idle h ∙ ap₂ or_else settles used);
        walked_to = walked_is idle has_plain false h word (held, next idle) met;
      }

  -- ---- any other word that begins with a minus sign
  pub unknown_fails : (waiting : Waiting) (has_plain : Bool) (word : Text) (h : Held) → ReadsUnknown t word → h.skip ≡ 0 → IsFault (turn (standing waiting has_plain false h) word)
  unknown_fails waiting has_plain word h r none =
      word_fails waiting has_plain false h word _ _ (word_fault_is waiting word h ∙ rw r.no_end refl) (r.fault h none)

  -- ---- behind the last word
  pub left_end : (w : Walk) → left_fault w [] ≡ end_fault w.held
  unfolding walk_fault
  left_end w = refl

same_rows : (b : Bool) (rows : List Row) → cond b rows rows ≡ rows
same_rows true rows = refl
same_rows false rows = refl

with_default-none : (r : Rule) (rows : List Row) → r.defaults ≡ [] → with_default rows r ≡ rows
with_default-none r rows none = rw none (same_rows (has_row r.id rows) rows)

or_true : (b : Bool) → (b || true) ≡ true
or_true true = refl
or_true false = refl

default_fault-none : (r : Rule) (rows : List Row) → r.defaults ≡ [] → default_fault rows r ≡ []
default_fault-none r rows none = rw (none, or_true (has_row r.id rows)) refl

defaults_fault-none : (rs : List Rule) (rows : List Row) → HasNoDefaults rs → defaults_fault rows rs ≡ []
unfolding defaults_fault
defaults_fault-none [] rows none = refl
defaults_fault-none (r ∷ rs) rows none =
    ap₂ or_else (default_fault-none r rows none.0) (ap (λ (rest : List Row). defaults_fault rest rs) (with_default-none r rows none.0) ∙ defaults_fault-none rs rows none.1)

all_defaults-none : (rs : List Rule) (rows : List Row) → HasNoDefaults rs → fold with_default rows rs ≡ rows
all_defaults-none [] rows none = refl
all_defaults-none (r ∷ rs) rows none = ap (λ (rest : List Row). fold with_default rest rs) (with_default-none r rows none.0) ∙ all_defaults-none rs rows none.1

pub finished_is : (t : Table) (h : Held) → finished (rules t) h ≡ (settled (rules t) h).rows
finished_is t h = all_defaults-none (rules t) (settled (rules t) h).rows (no_defaults t)

checks : (t : Table) (rows : List Row) → check_fault (top t) rows false ≡ []
checks t rows = ap (check_kinds false false) (none_required rows t.options)

nothing_more : (k : Kinds) → or_else k [] ≡ k
nothing_more [] = refl
nothing_more (x ∷ k) = refl

pub end_is : (t : Table) (h : Held) → end_fault t h ≡ settle_fault (rules t) false h
end_is t h =
    ap (or_else (settle_fault (rules t) false h)) (ap₂ or_else (defaults_fault-none (rules t) (settled (rules t) h).rows (no_defaults t)) (checks t (finished (rules t) h)))
    ∙ nothing_more (settle_fault (rules t) false h)
