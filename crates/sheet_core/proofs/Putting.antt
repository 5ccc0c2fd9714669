-- The faults of putting the texts of a request are those of writing them.
use Rattle.std.proofs.Common.{◌≡◌, inl, inr, ℕ, ◌++◌, true, List, Option, None, Some, refl, subst}
use Rattle.std.specs.Prelude.{IfSome, IsSome}
use Rattle.part_input.specs.declared.fault.Fault.TheVariants.{WriteFault, Memory}
use Rattle.part_input.specs.declared.fault.Target.{Target}
use Rattle.part_input.specs.declared.fault.Target.TheVariants.{Out, Summary}
use Rattle.part_input.specs.Causes.{unwritten}
use Rattle.desk.specs.Files.{AppendsFront, DeskState, OnlyWarns}
use Rattle.put_texts.specs.Desks.{HearsAll, IsWarned}
use Rattle.put_texts.specs.Noting.{unless_said}
use Rattle.put_texts.specs.Order.{Way, aloud, IsFaultAt, IsOfWay}
use Rattle.put_texts.specs.Puts.{IsOfTexts}
use Rattle.put_texts.proofs.Putting.{by_fault, of_way}
use Rattle.sheet_input.specs.Faults.{cause_of, sheet_faults, unwritten_of}
use Rattle.sheet_input.specs.declared.fault.SheetFault.{SheetFault}
use Rattle.sheet_input.specs.declared.fault.SheetFault.TheVariants.{Common, OwnJob, NoRoom, WriteList, WritePlain}
use Rattle.sheet_input.specs.declared.fault.SheetTarget.{SheetTarget}
use Rattle.sheet_input.specs.declared.fault.SheetTarget.TheVariants as sheet_target
use Rattle.sheet_core.specs.Writing.{way_of, list_way, summary_way, texts_for, IsOfTarget}
use Rattle.sheet_core.specs.inner.Faults.{IsOfWriting}
use Rattle.sheet_input.specs.inner.Shortage.{short_only}
use Rattle.sheet_words.specs.Names.{Goal, ListGoal, Named, said, svg_file, pdf_file, list_said, list_file}

-- it is warned by a line that is this one
pub warned_by : (line its : List ℕ) (old new : DeskState) → line ≡ its → (old.tells_warned ≡ true → AppendsFront old.warned new.warned line) → (HearsAll old new → new.warned ≡ old.warned ++ line)
    → OnlyWarns old new → IsWarned its old new
warned_by line its old new same front whole changes = record {
  front = λ told. subst (λ (text : List ℕ). AppendsFront old.warned new.warned text) same (front told);
  whole = λ hears. subst (λ (text : List ℕ). new.warned ≡ old.warned ++ text) same (whole hears);
  changes = changes;
}

-- what holds of a fault of writing each text of a request, and of want of memory, holds of each fault of writing them
module _ (named : Named) (P : SheetFault → Type 0) (written : (target : Target) → IsOfTarget named target → P (Common (WriteFault target))) (listed : IsSome named.list → P WriteList)
    (plained : IsSome named.plain → P WritePlain) (want : P (Common Memory)) where
  pub by_writing : (f : SheetFault) → IsOfWriting named f → P f
  by_writing WriteList is = listed is
  by_writing WritePlain is = plained is
  by_writing OwnJob is = absurd is
  by_writing (NoRoom lack) is = absurd is
  by_writing (Common (WriteFault target)) is = written target is
  by_writing (Common Memory) is = want
  by_writing (Common e) is = absurd is

-- the fault of a target is one of writing
pub is_unwritten : (target : SheetTarget) → cause_of (unwritten_of target) ≡ unwritten
is_unwritten sheet_target.Page = refl
is_unwritten sheet_target.Listing = refl
is_unwritten sheet_target.PlainJob = refl
is_unwritten sheet_target.Summary = refl

abbrev said_sheet : SheetFault
said_sheet = Common (WriteFault Out)

abbrev said_summary : SheetFault
said_summary = Common (WriteFault Summary)

module _ (named : Named) (f : SheetFault) where
  of_list : (its : SheetFault) (list : Option ListGoal) → IsOfWay sheet_faults (list_way list) its f → IsSome list × IsFaultAt sheet_faults its f
  of_list its None is = absurd is
  of_list its (Some list_said) is = (refl, is)
  of_list its (Some (list_file name)) is = (refl, is)

  -- what is said after a list or a plain job
  after_list : (list : Option ListGoal) (rest : Way) → (IsOfWay sheet_faults rest said_summary f → (rest ≡ aloud) × IsFaultAt sheet_faults said_summary f)
      → IsOfWay sheet_faults (unless_said (list_way list) rest) said_summary f → (unless_said (list_way list) rest ≡ aloud) × IsFaultAt sheet_faults said_summary f
  after_list None rest next is = next is
  after_list (Some list_said) rest next is = absurd is
  after_list (Some (list_file name)) rest next is = next is

  after_sheet : (out : Goal) (rest : Way) → (IsOfWay sheet_faults rest said_summary f → (rest ≡ aloud) × IsFaultAt sheet_faults said_summary f)
      → IsOfWay sheet_faults (unless_said (way_of out) rest) said_summary f → (unless_said (way_of out) rest ≡ aloud) × IsFaultAt sheet_faults said_summary f
  after_sheet said rest next is = absurd is
  after_sheet (svg_file name) rest next is = next is
  after_sheet (pdf_file name) rest next is = next is

  of_summary : IsOfWay sheet_faults (summary_way named) said_summary f → (summary_way named ≡ aloud) × IsFaultAt sheet_faults said_summary f
  of_summary is =
      after_sheet named.out (unless_said (list_way named.list) (unless_said (list_way named.plain) aloud))
      (after_list named.list (unless_said (list_way named.plain) aloud) (after_list named.plain aloud (λ at. (refl, at)))) is

  -- a fault of writing a text that may be at fault
  of_its : (its : SheetFault) → IsOfWriting named its → IsFaultAt sheet_faults its f → IsOfWriting named f
  of_its its may is = by_fault sheet_faults (IsOfWriting named) its may (short_only (IsOfWriting named) tt) f is

  pub of_writing : (page list plain summary : List ℕ) → IsOfTexts sheet_faults (texts_for named page list plain summary) f → IsOfWriting named f
  of_writing page list plain summary (inl h) = of_its said_sheet tt (of_way sheet_faults (way_of named.out) said_sheet f h)
  of_writing page list plain summary (inr (inl h)) =
      let (some, at) = of_list WriteList named.list h in
      of_its WriteList some at
  of_writing page list plain summary (inr (inr (inl h))) =
      let (some, at) = of_list WritePlain named.plain h in
      of_its WritePlain some at
  of_writing page list plain summary (inr (inr (inr (inl h)))) =
      let (is, at) = of_summary h in
      of_its said_summary is at
  of_writing page list plain summary (inr (inr (inr (inr h)))) = absurd h

pub all_of_writing : (named : Named) (page list plain summary : List ℕ) (fault : Option SheetFault) → IfSome fault (IsOfTexts sheet_faults (texts_for named page list plain summary)) → IfSome fault (IsOfWriting named)
all_of_writing named page list plain summary None h = tt
all_of_writing named page list plain summary (Some f) h = of_writing named f page list plain summary h
