-- A step of reading makes something of all tokens: from the steps of which it is made.
use Rattle.std.proofs.Common.{◌≡◌, ◌⊎◌, inl, inr, ℕ, zero, suc, ◌<◌, ◌≤◌, ◌^◌, ◌==◌, ℤ, unsigned_abs, Bool, true, false, List, [], ◌∷◌, All, Option, Some, None, Result, Ok, Err, position, refl, sym, subst, arith}
use Rattle.std.proofs.lemmas.Bool.{cases_order}
use Rattle.std.proofs.lemmas.List.Elements.{All-nil, All-cons}
use Rattle.dec_text.specs.Numbers.{Number, magnitude_of, units_of}
use Rattle.dec_text.specs.declared.number.Length.{Length}
use Rattle.lex_lines.specs.declared.token.Token.{Token}
use Rattle.lex_lines.specs.inner.Cursors.{left_at}
use Rattle.lex_lines.proofs.Promise.{are_tokens}
use Rattle.weld.specs.Raw.{Raw}
use Rattle.weld.specs.declared.fault.PartFault.{PartFault}
use Rattle.weld.specs.declared.fault.PartKind.{PartKind}
use Rattle.weld.specs.declared.fault.PartKind.TheVariants.{Missing, TooLarge, BadNumber}
use Rattle.weld.specs.declared.fault.Want.{Want}
use Rattle.weld.specs.declared.fault.Want.TheVariants as want
use Rattle.part_text.specs.Steps.{Reading, Step, fault_at, StepGives, Fails, After, ◌then◌, Times, Computes, Check, checked, read_value}
use Rattle.part_text.specs.Texts.{ReadsFrom, ReadsText}
use Rattle.part_text.specs.Vertices.{end, Coordinate, Vertex, SkipLine}
use Rattle.part_text.specs.Words.{text_of, NextToken, Units}
use Rattle.part_text.proofs.Units.{units_size}
use Rattle.answers_exist.proofs.Decided.{Decided}
use Rattle.answers_exist.proofs.SomeNumber.{decided_number}
use Rattle.answers_exist.proofs.SomeWeld.{IsCornerPlace}

-- ---- steps
-- P is true of what is read, if something is
abbrev pub ReadsSuch : {X : Type 0} → (X → Type 0) → Reading X → Type 0
ReadsSuch P (Ok (x, tokens)) = P x
ReadsSuch P (Err fault) = Unit {0}

-- what the step makes of these tokens
abbrev pub Made : {X : Type 0} → (X → Type 0) → Step X → List Token → Type 0
Made {X} P step tokens = (r : Reading X) × step tokens r × ReadsSuch P r

-- the step makes something of all tokens, and P is true of what it gives
pub record HasAnswer {X : Type 0} (P : X → Type 0) (step : Step X) : Type 0 where
  pub made : (tokens : List Token) → Made P step tokens

-- nothing is asked of it
abbrev pub Any : {X : Type 0} → X → Type 0
Any x = Unit {0}

pub any_reading : {X : Type 0} (r : Reading X) → ReadsSuch Any r
any_reading (Ok (x, tokens)) = tt
any_reading (Err fault) = tt

pub some_computed : {X : Type 0} (P : X → Type 0) (f : List Token → Reading X) → ((tokens : List Token) → ReadsSuch P (f tokens)) → HasAnswer P (Computes f)
some_computed P f such = record { made = λ tokens. (f tokens, refl, such tokens) }

pub some_given : {X : Type 0} (P : X → Type 0) (x : X) → P x → HasAnswer P (StepGives x)
some_given P x p = record { made = λ tokens. (Ok (x, tokens), refl, p) }

pub some_failed : {X : Type 0} (P : X → Type 0) (line : ℕ) (kind : PartKind) → HasAnswer P (Fails line kind)
some_failed P line kind = record { made = λ tokens. (Err (fault_at line kind), refl, tt) }

checked_such : {X : Type 0} (P : X → Type 0) (test : Bool) (x : X) (line : ℕ) (kind : PartKind) → P x → (tokens : List Token) → ReadsSuch P (checked test x line kind tokens)
checked_such P true x line kind p tokens = p
checked_such P false x line kind p tokens = tt

pub some_checked : {X : Type 0} (P : X → Type 0) (test : Bool) (x : X) (line : ℕ) (kind : PartKind) → P x → HasAnswer P (Check test x line kind)
some_checked P test x line kind p = some_computed P (checked test x line kind) (checked_such P test x line kind p)

made_after : {X Y : Type 0} (P : X → Type 0) (Q : Y → Type 0) (next : X → Step Y) → ((x : X) → P x → HasAnswer Q (next x)) → (r : Reading X) → ReadsSuch P r → (s : Reading Y) × After next r s × ReadsSuch Q s
made_after P Q next n (Ok (x, tokens)) such = (n x such).made tokens
made_after P Q next n (Err fault) such = (Err fault, refl, tt)

made_then : {X Y : Type 0} (P : X → Type 0) (Q : Y → Type 0) (first : Step X) (next : X → Step Y) → ((x : X) → P x → HasAnswer Q (next x)) → (tokens : List Token) → Made P first tokens → Made Q (first then next) tokens
made_then P Q first next n tokens (r, a, such) = let (s, b, so) = made_after P Q next n r such in (s, (r, a, b), so)

pub some_then : {X Y : Type 0} {P : X → Type 0} {Q : Y → Type 0} {first : Step X} {next : X → Step Y} → HasAnswer P first → ((x : X) → P x → HasAnswer Q (next x)) → HasAnswer Q (first then next)
some_then {X} {Y} {P} {Q} {first} {next} f n = record { made = λ tokens. made_then P Q first next n tokens (f.made tokens) }

pub some_times : {X : Type 0} (P : X → Type 0) (n : ℕ) (step : Step X) → HasAnswer P step → HasAnswer (All P) (Times n step)
some_times P zero step h = some_given (All P) [] (All-nil P)
some_times P (suc n) step h = some_then h (λ x p. some_then (some_times P n step h) (λ xs each. some_given (All P) (x ∷ xs) (All-cons P x xs p each)))

-- ---- tokens
next_made : (line : ℕ) (what : Want) (tokens : List Token) → Made Any (NextToken line what) tokens
next_made line what [] = (Err (fault_at line (Missing what)), refl, tt)
next_made line what (t ∷ tokens) = (Ok (t, tokens), refl, tt)

pub some_next : (line : ℕ) (what : Want) → HasAnswer Any (NextToken line what)
some_next line what = record { made = next_made line what }

-- ---- coordinates and vertices
abbrev IsCoordinate : ℤ → Type 0
IsCoordinate z = unsigned_abs z ≤ 2 ^ 20

module _ (decimals : ℕ) (unit : Length) (text : List ℕ) (line : ℕ) (tokens : List Token) where
  number_made : (n : Number text) (m : ℕ) → magnitude_of decimals unit n ≡ m → (m ≡ 1048576) ⊎ ((m < 1048576) ⊎ (1048576 < m)) → Made IsCoordinate (Units decimals unit text line) tokens
  number_made n m e (inr (inr large)) = (Err (fault_at line TooLarge), inr (inl (n, subst (λ k. 1048576 < k) (sym e) large, refl)), tt)
  number_made n m e (inl same) =
      let few : magnitude_of decimals unit n ≤ 1048576 = subst (λ k. k ≤ 1048576) (sym e) (omega (arith, same)) in
      (Ok (units_of decimals unit n, tokens), inl (n, few, refl), units_size decimals unit text (units_of decimals unit n) (n, few, refl))
  number_made n m e (inr (inl less)) =
      let few : magnitude_of decimals unit n ≤ 1048576 = subst (λ k. k ≤ 1048576) (sym e) (omega (arith, less)) in
      (Ok (units_of decimals unit n, tokens), inl (n, few, refl), units_size decimals unit text (units_of decimals unit n) (n, few, refl))

  units_made : Decided (Number text) → Made IsCoordinate (Units decimals unit text line) tokens
  units_made (inl n) = number_made n (magnitude_of decimals unit n) refl (cases_order (magnitude_of decimals unit n) 1048576)
  units_made (inr never) = (Err (fault_at line BadNumber), inr (inr (never, refl)), tt)

module _ (decimals : ℕ) (unit : Length) where
  some_units : (text : List ℕ) (line : ℕ) → HasAnswer IsCoordinate (Units decimals unit text line)
  some_units text line = record { made = λ tokens. units_made decimals unit text line tokens (decided_number text) }

  some_coordinate : (bytes : List ℕ) → HasAnswer IsCoordinate (Coordinate decimals unit bytes)
  some_coordinate bytes = some_then (some_next (end bytes) want.Coordinate) (λ t _. some_units (text_of bytes t) t.line)

  -- and each coordinate is one of a corner
  pub some_vertex : (bytes : List ℕ) → HasAnswer IsCornerPlace (Vertex decimals unit bytes)
  some_vertex bytes =
      let c = some_coordinate bytes in
      some_then c (λ x a. some_then c (λ y b. some_then c (λ z d. some_given IsCornerPlace (record { x = x; y = y; z = z }) (record { x = a; y = b; z = d }))))

pub some_skip : (line : ℕ) → HasAnswer Any (SkipLine line)
some_skip line = some_computed Any _ (λ tokens. tt)

-- ---- texts
-- corners can be at its vertices
abbrev pub HasCornerPlaces : Raw → Type 0
HasCornerPlaces raw = All IsCornerPlace raw.vertices

-- P is true of what a text says, if it says something
abbrev pub SaysSuch : {X : Type 0} → (X → Type 0) → Result X PartFault → Type 0
SaysSuch P (Ok x) = P x
SaysSuch P (Err fault) = Unit {0}

value_such : {X : Type 0} (P : X → Type 0) (r : Reading X) → ReadsSuch P r → SaysSuch P (read_value r)
value_such P (Ok (x, tokens)) such = such
value_such P (Err fault) such = tt

module _ (comments : Bool) (whole : Step Raw) (bytes : List ℕ) (P : Raw → Type 0) (some : HasAnswer P whole) where
  said_from : (zero_byte : Option ℕ) → (r : Result Raw PartFault) × ReadsFrom comments whole bytes zero_byte r × SaysSuch P r
  said_from (Some place) = (Err _, refl, tt)
  said_from None =
      let tokens = left_at comments bytes 0 1 in
      let (r, a, such) = some.made tokens in
      (read_value r, (tokens, are_tokens comments bytes, r, a, refl), value_such P r such)

  -- a text whose steps make something of all tokens says something
  pub some_text : (r : Result Raw PartFault) × ReadsText comments whole bytes r × SaysSuch P r
  some_text = said_from (position (λ byte. byte == 0) bytes)
