-- Warnings by lines that say why, if that is known and the line finds memory.
use Rattle.std.specs.Prelude.{◌≡◌, ◌⊎◌, ℕ, List, Option, None}
use Rattle.desk.specs.Files.{DeskState}
use Rattle.part_input.specs.Causes.{Faults}
use Rattle.put_texts.specs.Desks.{IsWarned}
use Rattle.put_texts.specs.Order.{Text}
use Rattle.put_texts.specs.Puts.{IsPut}

-- the line tells the fault, with what is told beside it and with a reason that may be given
abbrev pub IsLineWith : {F T R : Type 0} → (Option R → Type 0) → (DeskState → F → T → Type 0) → (T → Option R → F → List ℕ) → DeskState → F → List ℕ → Type 0
IsLineWith {F} {T} {R} may is_told line old fault text = (told : T) × (reason : Option R) × may reason × is_told old fault told × (text ≡ line told reason fault)

-- it was warned by the line with the reason that is known, or by that without one
abbrev pub IsWarnedWith : {R : Type 0} → Option R → (Option R → List ℕ) → DeskState → DeskState → Type 0
IsWarnedWith known line old new = IsWarned (line known) old new ⊎ IsWarned (line None) old new

-- the texts are put in order, as far as the fault allows, of which it is warned by its line with a reason that may be given
abbrev pub IsPutWith : {F R : Type 0} → (Option R → Type 0) → Faults F → (Option R → F → List ℕ) → List (Text F) → Option F → DeskState → DeskState → Type 0
IsPutWith {F} {R} may faults line texts fault old new = (reason : Option R) × may reason × IsPut faults (line reason) texts fault old new
