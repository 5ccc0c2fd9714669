-- Texts that are put one after the other, each where it goes.
use Rattle.std.specs.Prelude.{◌≡◌, ◌⊎◌, ◌++◌, ℕ, List, [], ◌∷◌, All, Option, None, Some}
use Rattle.desk.specs.Files.{Files, Keeps, MayKeepFront, AppendsFront}
use Rattle.part_input.specs.Causes.{Cause, Faults, unwritten, wanting}

-- where a text goes: nowhere, to the standard output, or under a name
pub data Way : Type 0 where
  nowhere : Way
  aloud : Way
  under : List ℕ → Way

-- a text, where it goes, and the fault of writing it
pub record Text (F : Type 0) : Type 0 where
  pub way : Way
  pub unwritten : F
  pub bytes : List ℕ

-- ---- one text
-- the fault is that of writing this, or want of memory
abbrev pub IsFaultBy : {F : Type 0} → Cause → F → F → Type 0
IsFaultBy unwritten its fault = fault ≡ its
IsFaultBy wanting its fault = Unit {0}
IsFaultBy cause its fault = ⊥

abbrev pub IsFaultAt : {F : Type 0} → Faults F → F → F → Type 0
IsFaultAt faults its fault = IsFaultBy (faults.cause fault) its fault

-- so it is of a text that goes anywhere; one that goes nowhere has none
abbrev pub IsOfWay : {F : Type 0} → Faults F → Way → F → F → Type 0
IsOfWay faults nowhere its fault = ⊥
IsOfWay faults aloud its fault = IsFaultAt faults its fault
IsOfWay faults (under name) its fault = IsFaultAt faults its fault

-- what it leaves of the files: whole, under its name
abbrev pub KeepsText : Way → List ℕ → Files → Files → Type 0
KeepsText nowhere bytes old new = new ≡ old
KeepsText aloud bytes old new = new ≡ old
KeepsText (under name) bytes old new = Keeps old new name bytes

-- with a fault: where it couldn't be written the name holds what it held, or a prefix
abbrev pub KeepsTextPart : Way → Cause → List ℕ → Files → Files → Type 0
KeepsTextPart (under name) unwritten bytes old new = MayKeepFront old new name bytes
KeepsTextPart way cause bytes old new = new ≡ old

-- what it adds to what was said
abbrev pub SaysText : Way → List ℕ → List ℕ → List ℕ → Type 0
SaysText nowhere bytes old new = new ≡ old
SaysText aloud bytes old new = new ≡ old ++ bytes
SaysText (under name) bytes old new = new ≡ old

-- with a fault: a prefix where it couldn't be said
abbrev pub SaysTextPart : Way → Cause → List ℕ → List ℕ → List ℕ → Type 0
SaysTextPart aloud unwritten bytes old new = AppendsFront old new bytes
SaysTextPart way cause bytes old new = new ≡ old

-- of one that is said alone: the whole text, or where it couldn't be said a prefix
abbrev pub SaysAlone : {F : Type 0} → Faults F → Option F → List ℕ → List ℕ → List ℕ → Type 0
SaysAlone faults None bytes old new = SaysText aloud bytes old new
SaysAlone faults (Some fault) bytes old new = SaysTextPart aloud (faults.cause fault) bytes old new

-- ---- texts in order
-- With no fault all are put whole, one after the other. A fault is that of one of them: those before it are put whole, that one in
-- part, and the later ones not at all.
abbrev pub InOrder : {F X : Type 0} → Faults F → (Way → List ℕ → X → X → Type 0) → (Way → Cause → List ℕ → X → X → Type 0) → Option F → List (Text F) → X → X → Type 0
InOrder faults whole part None [] old new = new ≡ old
InOrder faults whole part (Some fault) [] old new = ⊥
InOrder {F} {X} faults whole part None (t ∷ rest) old new = (between : X) × whole t.way t.bytes old between × InOrder faults whole part None rest between new
InOrder {F} {X} faults whole part (Some fault) (t ∷ rest) old new =
    (IsOfWay faults t.way t.unwritten fault × part t.way (faults.cause fault) t.bytes old new)
    ⊎ ((between : X) × whole t.way t.bytes old between × InOrder faults whole part (Some fault) rest between new)

-- what is left of the files, and of what was said
abbrev pub KeepsTexts : {F : Type 0} → Faults F → Option F → List (Text F) → Files → Files → Type 0
KeepsTexts faults fault texts old new = InOrder faults KeepsText KeepsTextPart fault texts old new

abbrev pub SaysTexts : {F : Type 0} → Faults F → Option F → List (Text F) → List ℕ → List ℕ → Type 0
SaysTexts faults fault texts old new = InOrder faults SaysText SaysTextPart fault texts old new

-- a text that goes under a name is held there
abbrev pub HoldsText : Way → List ℕ → Files → Type 0
HoldsText (under name) bytes files = files name ≡ Some bytes
HoldsText way bytes files = Unit {0}

abbrev pub HoldTexts : {F : Type 0} → List (Text F) → Files → Type 0
HoldTexts texts files = All (λ t. HoldsText t.way t.bytes files) texts

-- ---- on every desk
-- what isn't kept touches no file, and what isn't said adds nothing to what was said
abbrev pub SparesFile : Way → Files → Files → Type 0
SparesFile nowhere old new = new ≡ old
SparesFile aloud old new = new ≡ old
SparesFile (under name) old new = Unit {0}

abbrev pub SparesWord : Way → List ℕ → List ℕ → Type 0
SparesWord nowhere old new = new ≡ old
SparesWord aloud old new = Unit {0}
SparesWord (under name) old new = new ≡ old

abbrev pub SparesFiles : {F : Type 0} → Faults F → Option F → List (Text F) → Files → Files → Type 0
SparesFiles faults fault texts old new = InOrder faults (λ way bytes. SparesFile way) (λ way cause bytes. SparesFile way) fault texts old new

abbrev pub SparesSaid : {F : Type 0} → Faults F → Option F → List (Text F) → List ℕ → List ℕ → Type 0
SparesSaid faults fault texts old new = InOrder faults (λ way bytes. SparesWord way) (λ way cause bytes. SparesWord way) fault texts old new
