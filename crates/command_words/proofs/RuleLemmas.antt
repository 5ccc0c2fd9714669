-- The command of a table as `clap` builds it, and which of its arguments answers to a name.
use Rattle.std.proofs.Common.{◌≡◌, ◌∙◌, ◌+◌, ◌<◌, ◌≤◌, length, get_or, drop, ◌&&◌, ◌==◌, ℕ, Bool, true, false, not, refl, sym, ap, ap₂, subst, List, [], ◌∷◌, ◌++◌, map, Option, Some, None, option_map, fold, is_some, true≢false, append-nil, append_assoc}
use Rattle.std.specs.Prelude.{count_by, find}
use Rattle.std.specs.List.{list_all, list_any}
use Rattle.std.specs.Str.{bytes_eq}
use Rattle.std.proofs.lemmas.List.{at_drop_more, drop_all}
use Rattle.std.proofs.lemmas.Slice.Eq.{bytes_eq-Decides}
use Rattle.clap.specs.Faults.{is_free_app, is_simple_and_free}
use Rattle.clap.specs.Simple.{App, Shape, built, filled, filled_from, is_in_order, is_ready, is_ready_leaf, is_simple, with_index, with_rule}
use Rattle.clap.specs.Takes.{is_given}
use Rattle.clap.specs.Walk.{Row, Rule, Text, arg_by_id, arg_by_index, arg_by_long, arg_by_short, is_early_multiple}
use Rattle.command_words.specs.Grammar.{Listed, Purpose, Table, asks_for, for_help, for_version, is_flag, is_name, takes_value}
use Rattle.command_words.specs.Seen.{option_seen}
use Rattle.command_words.specs.inner.App.{option_rule, plain_app, plain_rule, table_app, with_option}
use Rattle.command_words.specs.declared.table.WordOption.{WordOption}

-- ---- texts and tests
pub same : (name : Text) → bytes_eq name name ≡ true
same name = (bytes_eq-Decides name name).1 refl

pub is_same : (a b : Text) → bytes_eq a b ≡ true → a ≡ b
is_same a b e = (bytes_eq-Decides a b).0 e

pub turned : (a b : Text) → bytes_eq a b ≡ false → bytes_eq b a ≡ false
turned a b e = go (bytes_eq b a) refl
  where
    go : (t : Bool) → bytes_eq b a ≡ t → bytes_eq b a ≡ false
    go true s = absurd (true≢false (sym ((bytes_eq-Decides a b).1 (sym (is_same b a s))) ∙ e))
    go false s = s

pub both : (a b : Bool) → (a && b) ≡ true → (a ≡ true) × (b ≡ true)
both true b e = (refl, e)
both false b e = absurd (true≢false (sym e))

pub not_true : (a : Bool) → not a ≡ true → a ≡ false
not_true true e = absurd (true≢false (sym e))
not_true false e = refl

-- ---- the arguments, as they are built
abbrev pub plain_arg : Text → Rule
plain_arg name = with_index 1 (filled (plain_rule name))

abbrev pub option_arg : Purpose → Text → Rule
option_arg purpose name = filled (option_rule purpose name)

abbrev pub listed_rule : Listed → Rule
listed_rule o = option_rule o.purpose o.name

abbrev pub listed_arg : Listed → Rule
listed_arg o = option_arg o.purpose o.name

abbrev pub rules : Table → List Rule
rules t = plain_arg t.plain ∷ map listed_arg t.options

abbrev pub with_rules : App → List Rule → App
with_rules a rs = record a { top = record a.top { rules = rs } }

with_all : (os : List Listed) (a : App) → fold with_option a os ≡ with_rules a (a.top.rules ++ map listed_rule os)
with_all [] a = ap (with_rules a) (sym (append-nil a.top.rules))
with_all (o ∷ os) a = with_all os (with_option a o) ∙ ap (with_rules a) (append_assoc a.top.rules (listed_rule o ∷ []) (map listed_rule os))

abbrev pub flat_app : Table → App
flat_app t = with_rules (plain_app t.plain) (plain_rule t.plain ∷ map listed_rule t.options)

pub flat_is : (t : Table) → table_app t ≡ flat_app t
flat_is t = with_all t.options (plain_app t.plain)

filled_options : (i : ℕ) (os : List Listed) → filled_from i (map listed_rule os) ≡ map listed_arg os
filled_options i [] = refl
filled_options i (o ∷ os) = ap (λ (rest : List Rule). listed_arg o ∷ rest) (filled_options i os)

abbrev pub top : Table → Shape
top t = record (built (flat_app t)).top { rules = rules t }

abbrev pub built_table : Table → App
built_table t = record { top = top t; subs = [] }

pub built_flat : (t : Table) → built (flat_app t) ≡ built_table t
built_flat t = ap (λ (rest : List Rule). record { top = record (built (flat_app t)).top { rules = plain_arg t.plain ∷ rest }; subs = [] }) (filled_options 2 t.options)

pub built_is : (t : Table) → built (table_app t) ≡ built_table t
built_is t = ap built (flat_is t) ∙ built_flat t

-- ---- the command is simple
all_simple : (os : List Listed) → list_all (λ (r : Rule). r.is_simple) (map listed_rule os) ≡ true
all_simple [] = refl
all_simple (o ∷ os) = all_simple os

args_simple : (os : List Listed) → list_all (λ (r : Rule). r.is_simple) (map listed_arg os) ≡ true
args_simple [] = refl
args_simple (o ∷ os) = args_simple os

args_free : (os : List Listed) → list_all (λ (r : Rule). r.is_free) (map listed_arg os) ≡ true
args_free [] = refl
args_free (o ∷ os) = args_free os

none_early : (n : ℕ) (os : List Listed) → list_any (is_early_multiple n) (map listed_arg os) ≡ false
none_early n [] = refl
none_early n (o ∷ os) = none_early n os

in_order : (t : Table) → is_in_order (rules t) ≡ true
in_order t = ap not (none_early (count_by (λ (r : Rule). is_some r.index) (rules t)) t.options)

ready : (t : Table) → is_ready (top t) ≡ true
ready t = ap₂ ◌&&◌ (args_simple t.options) (in_order t)

flat_ready : (t : Table) → (is_ready (built (flat_app t)).top && list_all is_ready_leaf (built (flat_app t)).subs) ≡ true
flat_ready t = ap (λ (b : App). is_ready b.top && list_all is_ready_leaf b.subs) (built_flat t) ∙ ap (λ b. b && true) (ready t)

flat_simple : (t : Table) → is_simple_and_free (flat_app t) ≡ true
flat_simple t =
    let simple : is_simple (flat_app t) ≡ true = ap₂ ◌&&◌ (ap (λ b. b && true) (all_simple t.options)) (flat_ready t) in
    let free : is_free_app (built (flat_app t)) ≡ true = ap is_free_app (built_flat t) ∙ ap (λ b. b && true) (args_free t.options) in
    ap₂ ◌&&◌ simple free

pub simple_and_free : (t : Table) → is_simple_and_free (table_app t) ≡ true
simple_and_free t = ap is_simple_and_free (flat_is t) ∙ flat_simple t

pub simple : (t : Table) → is_simple (table_app t) ≡ true
simple t = (both (is_simple (table_app t)) (is_free_app (built (table_app t))) (simple_and_free t)).0

-- ---- which argument answers
-- the first option with this name
abbrev pub option_named : List Listed → Text → Option Listed
option_named os n = find (λ (o : Listed). bytes_eq o.name n) os

args_by_long : (os : List Listed) (n : Text) → arg_by_long (map listed_arg os) n ≡ option_map listed_arg (option_named os n)
args_by_long [] n = refl
args_by_long (o ∷ os) n = go (bytes_eq o.name n) refl (args_by_long os n)
  where
    go : (b : Bool) → bytes_eq o.name n ≡ b → arg_by_long (map listed_arg os) n ≡ option_map listed_arg (option_named os n)
        → arg_by_long (map listed_arg (o ∷ os)) n ≡ option_map listed_arg (option_named (o ∷ os) n)
    go true e later = rw e refl
    go false e later = rw e later

args_by_id : (os : List Listed) (n : Text) → arg_by_id (map listed_arg os) n ≡ option_map listed_arg (option_named os n)
args_by_id [] n = refl
args_by_id (o ∷ os) n = go (bytes_eq o.name n) refl (args_by_id os n)
  where
    go : (b : Bool) → bytes_eq o.name n ≡ b → arg_by_id (map listed_arg os) n ≡ option_map listed_arg (option_named os n)
        → arg_by_id (map listed_arg (o ∷ os)) n ≡ option_map listed_arg (option_named (o ∷ os) n)
    go true e later = rw e refl
    go false e later = rw e later

pub by_long : (t : Table) (n : Text) → arg_by_long (rules t) n ≡ option_map listed_arg (option_named t.options n)
by_long t n = args_by_long t.options n

pub by_id : (t : Table) (n : Text) → bytes_eq t.plain n ≡ false → arg_by_id (rules t) n ≡ option_map listed_arg (option_named t.options n)
by_id t n other = rw other (args_by_id t.options n)

pub plain_by_id : (t : Table) → arg_by_id (rules t) t.plain ≡ Some (plain_arg t.plain)
plain_by_id t = rw (same t.plain) refl

no_index : (i : ℕ) (os : List Listed) → arg_by_index (map listed_arg os) i ≡ None
no_index i [] = refl
no_index i (o ∷ os) = no_index i os

pub no_second : (t : Table) → arg_by_index (rules t) 2 ≡ None
no_second t = no_index 2 t.options

args_by_short : (x : ℕ) (os : List Listed) → arg_by_short (map listed_arg os) x ≡ None
args_by_short x [] = refl
args_by_short x (o ∷ os) = args_by_short x os

pub by_short : (t : Table) (x : ℕ) → arg_by_short (rules t) x ≡ None
by_short t x = args_by_short x t.options

-- an option that is found has that name, and is one of the table
pub named_so : (os : List Listed) (n : Text) (o : Listed) → option_named os n ≡ Some o → bytes_eq o.name n ≡ true
named_so [] n o e = absurd (true≢false (sym (ap is_some e)))
named_so (x ∷ os) n o e = go (bytes_eq x.name n) refl (named_so os n o)
  where
    go : (b : Bool) → bytes_eq x.name n ≡ b → (option_named os n ≡ Some o → bytes_eq o.name n ≡ true) → bytes_eq o.name n ≡ true
    go true same later =
        let found : Some x ≡ Some o = rw same at e in
        subst (λ (p : Option Listed). (elim p as (λ _. Type 0) [ None ↦ Unit {0} | Some y ↦ bytes_eq y.name n ≡ true ])) found same
    go false same later = later (rw same at e)

pub named_good : (plain : Text) (os : List Listed) (n : Text) → list_all (λ (o : Listed). is_name plain o.name) os ≡ true → is_some (option_named os n) ≡ true → bytes_eq n plain ≡ false
named_good plain [] n good some = absurd (true≢false (sym some))
named_good plain (x ∷ os) n good some = go (bytes_eq x.name n) refl (named_good plain os n (both (is_name plain x.name) _ good).1)
  where
    go : (b : Bool) → bytes_eq x.name n ≡ b → (is_some (option_named os n) ≡ true → bytes_eq n plain ≡ false) → bytes_eq n plain ≡ false
    go true e later =
        let named = (both (not (list_any (λ b. b == 61) x.name)) (not (bytes_eq x.name plain)) (both (is_name plain x.name) _ good).0).1 in
        subst (λ (m : Text). bytes_eq m plain ≡ false) (is_same x.name n e) (not_true (bytes_eq x.name plain) named)
    go false e later = later (rw e at some)

-- ---- what isn't there
abbrev pub HasNoDefaults : List Rule → Type 0
HasNoDefaults [] = Unit {0}
HasNoDefaults (r ∷ rs) = (r.defaults ≡ []) × HasNoDefaults rs

no_default : (purpose : Purpose) (name : Text) → (option_arg purpose name).defaults ≡ []
no_default takes_value name = refl
no_default is_flag name = refl
no_default (asks_for for_help) name = refl
no_default (asks_for for_version) name = refl

args_no_defaults : (os : List Listed) → HasNoDefaults (map listed_arg os)
args_no_defaults [] = tt
args_no_defaults (o ∷ os) = (no_default o.purpose o.name, args_no_defaults os)

pub no_defaults : (t : Table) → HasNoDefaults (rules t)
no_defaults t = (refl, args_no_defaults t.options)

pub none_required : (rows : List Row) (os : List Listed) → list_any (λ (r : Rule). r.required && not (is_given r.id rows)) (map listed_arg os) ≡ false
none_required rows [] = refl
none_required rows (o ∷ os) = none_required rows os

-- ---- the options, one by one
-- a command with these options more
abbrev pub with_left : App → List WordOption → App
with_left a os = fold with_option a (map option_seen os)

pub one_added : (xs : List WordOption) (k : ℕ) (x : WordOption) (now new all : App) (rule : Rule) → k < length xs → new ≡ with_rule now rule → rule ≡ listed_rule (option_seen (get_or xs k x))
    → with_left now (drop k xs) ≡ all → with_left new (drop (k + 1) xs) ≡ all
one_added xs k x now new all rule within step is before =
    ap (λ (a : App). with_left a (drop (k + 1) xs)) (step ∙ ap (with_rule now) is) ∙ sym (at_drop_more (with_left now) xs k x within) ∙ before

pub all_added : (xs : List WordOption) (k : ℕ) (now all : App) → length xs ≤ k → with_left now (drop k xs) ≡ all → now ≡ all
all_added xs k now all last so_far = sym (ap (with_left now) (drop_all k xs last)) ∙ so_far
