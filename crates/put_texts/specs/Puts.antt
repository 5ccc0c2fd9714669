-- What the putting of texts answers, and what it leaves.
use Rattle.std.specs.Prelude.{◌≡◌, ◌⊎◌, ◌++◌, ℕ, true, List, [], ◌∷◌, Option, Some, IfSome, option_map}
use Rattle.desk.specs.Files.{DeskState, AppendsFront}
use Rattle.put_texts.specs.Desks.{HearsAll, OnlyPuts, OnlyWrites}
use Rattle.part_input.specs.Causes.{Cause, Faults, unwritten, wanting}
use Rattle.put_texts.specs.Faults.{CountsWritesOf, HasNoWriteFaultOf}
use Rattle.put_texts.specs.Order as order
use Rattle.put_texts.specs.Order.{Text, IsOfWay, KeepsTexts, SaysTexts, SparesSaid, SparesFiles}
use Rattle.put_texts.specs.declared.put.PutFault.{PutFault}
use Rattle.put_texts.specs.declared.put.Way.{Way}
use Rattle.put_texts.specs.declared.put.Way.TheVariants.{Nowhere, Aloud, Under}

abbrev pub way_seen : Way → order.Way
way_seen Nowhere = order.nowhere
way_seen Aloud = order.aloud
way_seen (Under name) = order.under name.now

-- one text
abbrev pub one_text : {F : Type 0} → order.Way → F → List ℕ → List (Text F)
one_text way its bytes = record { way = way; unwritten = its; bytes = bytes } ∷ []

-- what is told of a fault by the line of want of memory and that of a text that couldn't be written
abbrev pub told_cause : List ℕ → List ℕ → Cause → List ℕ
told_cause memory line unwritten = line
told_cause memory line wanting = memory
told_cause memory line cause = []

abbrev pub told_by : {F : Type 0} → Faults F → List ℕ → List ℕ → F → List ℕ
told_by faults memory line fault = told_cause memory line (faults.cause fault)

-- the fault is that of one of these texts
abbrev pub IsOfTexts : {F : Type 0} → Faults F → List (Text F) → F → Type 0
IsOfTexts faults [] fault = ⊥
IsOfTexts faults (t ∷ rest) fault = IsOfWay faults t.way t.unwritten fault ⊎ IsOfTexts faults rest fault

-- the fault, without its line
abbrev pub fault_put : {F : Type 0} → Option (PutFault F) → Option F
fault_put found = option_map (λ p. p.fault) found

-- the texts are put in order, as far as the fault allows, and nothing is warned
pub record IsPlaced {F : Type 0} (faults : Faults F) (texts : List (Text F)) (fault : Option F) (old new : DeskState) : Type 0 where
  pub of_texts : IfSome fault (IsOfTexts faults texts)
  pub files : old.tells ≡ true → KeepsTexts faults fault texts old.files new.files
  pub said : old.tells_said ≡ true → SaysTexts faults fault texts old.said new.said
  pub spared : SparesFiles faults fault texts old.files new.files
  pub silent : SparesSaid faults fault texts old.said new.said
  pub writes : CountsWritesOf faults fault old.write_faults new.write_faults
  pub steady : old.steady ≡ true → HasNoWriteFaultOf faults fault
  pub firm : old.firm ≡ true → fault ≡ Some faults.memory → ⊥
  pub changes : OnlyPuts old new

-- the texts are put in order, as far as the fault allows, of which it is warned by its line
pub record IsPut {F : Type 0} (faults : Faults F) (line : F → List ℕ) (texts : List (Text F)) (fault : Option F) (old new : DeskState) : Type 0 where
  pub of_texts : IfSome fault (IsOfTexts faults texts)
  pub files : old.tells ≡ true → KeepsTexts faults fault texts old.files new.files
  pub said : old.tells_said ≡ true → SaysTexts faults fault texts old.said new.said
  pub spared : SparesFiles faults fault texts old.files new.files
  pub silent : SparesSaid faults fault texts old.said new.said
  pub writes : CountsWritesOf faults fault old.write_faults new.write_faults
  pub steady : old.steady ≡ true → HasNoWriteFaultOf faults fault
  pub firm : old.firm ≡ true → fault ≡ Some faults.memory → ⊥
  pub warned : old.tells_warned ≡ true → IfSome fault (λ f. AppendsFront old.warned new.warned (line f))
  pub whole : HearsAll old new → IfSome fault (λ f. new.warned ≡ old.warned ++ line f)
  pub changes : OnlyWrites old new
