-- What is given, as the rows of `clap`.
use Rattle.std.proofs.Common.{◌≡◌, ◌∙◌, Bool, true, false, refl, ap, subst, List, [], ◌∷◌, ◌++◌, Option, Some, None, is_some, true≢false, append-nil}
use Rattle.std.specs.Prelude.{find, if◌then◌else◌, option_and_then, option_map, slice_get}
use Rattle.std.specs.Str.{bytes_eq}
use Rattle.clap.specs.Faults.{use_fault}
use Rattle.clap.specs.Walk.{Row, Rule, Text, at_row, first_of, has_row, more_values, used, with_values, without}
use Rattle.clap.specs.declared.builder.value_parser.Reading.{Reading}
use Rattle.clap.specs.declared.builder.value_parser.Reading.TheVariants.{AsWritten}
use Rattle.clap.specs.declared.error.kind.ErrorKind.TheVariants.{ArgumentConflict}
use Rattle.clap.specs.declared.parser.matches.ValueSource.TheVariants.{CommandLine}
use Rattle.command_words.specs.Grammar.{GivenTexts, is_flag, takes_value, with_text}
use Rattle.command_words.proofs.RuleLemmas.{is_same, option_arg, plain_arg, same}
use Rattle.command_words.proofs.WordLemmas.{IsFault}

-- ---- rows
abbrev pub row : Text → Text → Row
row name text = record { id = name; values = text ∷ []; count = None; source = Some CommandLine; reading = AsWritten }

abbrev pub row_with : Text → List Row → Option Row
row_with id rows = find (λ r. bytes_eq r.id id) rows

-- each name has the row of its text, if it has one
abbrev pub Holds : GivenTexts → List Row → Type 0
Holds g rows = (name : Text) → row_with name rows ≡ option_map (row name) (g name)

has_row-is : (id : Text) (rows : List Row) → has_row id rows ≡ is_some (row_with id rows)
has_row-is id [] = refl
has_row-is id (r ∷ rows) = go (bytes_eq r.id id) refl (has_row-is id rows)
  where
    go : (t : Bool) → bytes_eq r.id id ≡ t → has_row id rows ≡ is_some (row_with id rows) → has_row id (r ∷ rows) ≡ is_some (row_with id (r ∷ rows))
    go true e later = rw e refl
    go false e later = rw e later

is_some-map : {X Y : Type 0} (f : X → Y) (o : Option X) → is_some (option_map f o) ≡ is_some o
is_some-map f None = refl
is_some-map f (Some x) = refl

held_row : (name : Text) (g : GivenTexts) (rows : List Row) → Holds g rows → has_row name rows ≡ is_some (g name)
held_row name g rows holds = has_row-is name rows ∙ ap is_some (holds name) ∙ is_some-map (row name) (g name)

-- ---- one more row
at_row-missing : (id : Text) (change : Row → List Row) (missing rows : List Row) → has_row id rows ≡ false → at_row id change missing rows ≡ rows ++ missing
at_row-missing id change missing [] none = refl
at_row-missing id change missing (r ∷ rows) none = go (bytes_eq r.id id) refl (at_row-missing id change missing rows)
  where
    go : (t : Bool) → bytes_eq r.id id ≡ t → (has_row id rows ≡ false → at_row id change missing rows ≡ rows ++ missing)
        → at_row id change missing (r ∷ rows) ≡ r ∷ rows ++ missing
    go true e later = absurd (true≢false (rw e at none))
    go false e later = rw e (ap (λ (rest : List Row). r ∷ rest) (later (rw e at none)))

new_row : (id : Text) (how : Reading) (v : Text) (rows : List Row) → has_row id rows ≡ false
    → with_values id how CommandLine (v ∷ []) (without id rows) ≡ rows ++ (record { id = id; values = v ∷ []; count = None; source = Some CommandLine; reading = how }) ∷ []
new_row id how v rows none =
    let kept : without id rows ≡ rows = at_row-missing id (λ _. []) [] rows none ∙ append-nil rows in
    ap (with_values id how CommandLine (v ∷ [])) kept ∙ at_row-missing id (more_values CommandLine (v ∷ [])) _ rows none

row_at_end : (id : Text) (rows : List Row) (r : Row) → row_with id rows ≡ None → bytes_eq r.id id ≡ true → row_with id (rows ++ r ∷ []) ≡ Some r
row_at_end id [] r none is = rw is refl
row_at_end id (x ∷ rows) r none is = go (bytes_eq x.id id) refl (row_at_end id rows r)
  where
    go : (t : Bool) → bytes_eq x.id id ≡ t → (row_with id rows ≡ None → bytes_eq r.id id ≡ true → row_with id (rows ++ r ∷ []) ≡ Some r) → row_with id (x ∷ rows ++ r ∷ []) ≡ Some r
    go true e later = absurd (true≢false (ap is_some (rw e at none)))
    go false e later = rw e (later (rw e at none) is)

other_at_end : (id : Text) (rows : List Row) (r : Row) → bytes_eq r.id id ≡ false → row_with id (rows ++ r ∷ []) ≡ row_with id rows
other_at_end id [] r other = rw other refl
other_at_end id (x ∷ rows) r other = go (bytes_eq x.id id) refl (other_at_end id rows r other)
  where
    go : (t : Bool) → bytes_eq x.id id ≡ t → row_with id (rows ++ r ∷ []) ≡ row_with id rows → row_with id (x ∷ rows ++ r ∷ []) ≡ row_with id (x ∷ rows)
    go true e later = rw e refl
    go false e later = rw e later

holds_more : (name v : Text) (g : GivenTexts) (rows : List Row) → Holds g rows → row_with name rows ≡ None → Holds (with_text name v g) (rows ++ row name v ∷ [])
holds_more name v g rows old none n = go (bytes_eq name n) refl
  where
    go : (t : Bool) → bytes_eq name n ≡ t → row_with n (rows ++ row name v ∷ []) ≡ option_map (row n) (if t then Some v else g n)
    go true e = subst (λ (m : Text). row_with m (rows ++ row name v ∷ []) ≡ Some (row m v)) (is_same name n e) (row_at_end name rows (row name v) none (same name))
    go false e = other_at_end n rows (row name v) e ∙ old n

-- ---- a use of an argument
-- these values of one use give this text under this name
pub record IsUse (rule : Rule) (values : List Text) (name v : Text) : Type 0 where
  pub fault : (rows : List Row) (b : Bool) → has_row name rows ≡ b → use_fault false rule values rows ≡ (if b then ArgumentConflict ∷ [] else [])
  pub rows : (rows : List Row) → used rule values rows ≡ with_values name AsWritten CommandLine (v ∷ []) (without name rows)

plain_fault : (name v : Text) (rows : List Row) (b : Bool) → has_row name rows ≡ b → use_fault false (plain_arg name) (v ∷ []) rows ≡ (if b then ArgumentConflict ∷ [] else [])
plain_fault name v rows true e = rw e refl
plain_fault name v rows false e = rw e refl

value_fault : (name v : Text) (rows : List Row) (b : Bool) → has_row name rows ≡ b → use_fault false (option_arg takes_value name) (v ∷ []) rows ≡ (if b then ArgumentConflict ∷ [] else [])
value_fault name v rows true e = rw e refl
value_fault name v rows false e = rw e refl

flag_fault : (name : Text) (rows : List Row) (b : Bool) → has_row name rows ≡ b → use_fault false (option_arg is_flag name) [] rows ≡ (if b then ArgumentConflict ∷ [] else [])
flag_fault name rows true e = rw e refl
flag_fault name rows false e = rw e refl

pub plain_use : (name v : Text) → IsUse (plain_arg name) (v ∷ []) name v
plain_use name v = record { fault = plain_fault name v; rows = λ rows. refl }

pub value_use : (name v : Text) → IsUse (option_arg takes_value name) (v ∷ []) name v
value_use name v = record { fault = value_fault name v; rows = λ rows. refl }

pub flag_use : (name : Text) → IsUse (option_arg is_flag name) [] name []
flag_use name = record { fault = flag_fault name; rows = λ rows. refl }

module _ (rule : Rule) (values : List Text) (name v : Text) (u : IsUse rule values name v) (g : GivenTexts) (rows : List Row) (holds : Holds g rows) where
  pub first_use : g name ≡ None → use_fault false rule values rows ≡ []
  first_use none = u.fault rows false (held_row name g rows holds ∙ ap is_some none)

  pub second_use : (t : Text) → g name ≡ Some t → IsFault (use_fault false rule values rows)
  second_use t some = rw (u.fault rows true (held_row name g rows holds ∙ ap is_some some)) refl

  pub holds_used : g name ≡ None → Holds (with_text name v g) (used rule values rows)
  holds_used none =
      rw (u.rows rows ∙ new_row name AsWritten v rows (held_row name g rows holds ∙ ap is_some none)) (holds_more name v g rows holds (holds name ∙ ap (option_map (row name)) none))

-- ---- what the rows give
pub first_held : (g : GivenTexts) (rows : List Row) → Holds g rows → (name : Text) → first_of name rows ≡ g name
first_held g rows holds name = ap (option_and_then (λ (r : Row). slice_get r.values 0)) (holds name) ∙ go (g name)
  where
    go : (o : Option Text) → option_and_then (λ (r : Row). slice_get r.values 0) (option_map (row name) o) ≡ o
    go None = refl
    go (Some t) = refl

abbrev pub given_in : List Row → GivenTexts
given_in rows name = first_of name rows

pub given_held : (g : GivenTexts) (rows : List Row) → Holds g rows → given_in rows ≡ g
given_held g rows holds = λ i name. first_held g rows holds name i
