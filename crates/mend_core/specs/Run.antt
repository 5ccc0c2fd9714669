-- What a run answers, from its words and the files at entry: steps in order, each with what it gives and what it refuses.
use Rattle.std.specs.Prelude.{◌≡◌, ◌⊎◌, ℕ, List, Option, Some, None, IfSome, IsSome, Result, Ok, Err, Bool, false}
use Rattle.dec_text.specs.declared.number.Length.TheVariants.{Millimetre}
use Rattle.desk.specs.Files.{Files}
use Rattle.desk_reasons.specs.declared.reason.Reason.{Reason}
use Rattle.geometry.specs.Parts.{Part}
use Rattle.geometry.specs.Sound.{IsSound}
use Rattle.mend_core.specs.Hints.{IsLineOf, named_in}
use Rattle.mend_core.specs.Mending.{Made, Mends, IsOfMending}
use Rattle.mend_core.specs.Seen.{made_seen}
use Rattle.mend_core.specs.Writing.{AsksMendAnd, IsOfTarget}
use Rattle.mend_core.specs.declared.made.Mended.{Mended}
use Rattle.mend_words.specs.Names.{Asks, Named, help, version, mend}
use Rattle.part_input.specs.Causes.{common}
use Rattle.part_input.specs.Faults.{status_of}
use Rattle.part_input.specs.Parts.{sample_size, TakesSoup, IsOfSoup, HasSampleOr}
use Rattle.part_input.specs.Steps.{◌and_then◌}
use Rattle.part_input.specs.declared.fault.Input.{Input}
use Rattle.part_input.specs.declared.fault.Input.TheVariants.{Job as TheJob, Part as ThePart}
use Rattle.part_input.specs.declared.fault.Fault.{Fault}
use Rattle.part_input.specs.declared.fault.Fault.TheVariants.{Usage, ReadFault, Nothing, Mesh, WriteFault, Memory}
use Rattle.part_input.specs.declared.fault.Target.{Target}
use Rattle.part_input.specs.declared.fault.Target.TheVariants.{Out}
use Rattle.put_texts.specs.Faults.{IsThereOf}
use Rattle.put_texts.specs.Runs.{Run, Task}

-- ---- the steps of a run
-- the part that was named is read, before its surface is looked at
abbrev pub TakesPart : Files → Named → Result Part Fault → Type 0
TakesPart files named = TakesSoup files named.part named.decimals Millimetre

-- and it is mended
abbrev pub MendsPart : Files → Named → Result Made Fault → Type 0
MendsPart files named = TakesPart files named and_then Mends named.limit

-- A run up to its part, which the words and the files determine: what is taken, if anything is, or the refusal. Words that ask for
-- nothing are refused.
abbrev pub Takes : Option Asks → Files → Result (Option Part) Fault → Type 0
Takes None files r = r ≡ Err Usage
Takes (Some help) files r = r ≡ Ok None
Takes (Some version) files r = r ≡ Ok None
Takes (Some (mend named)) files r = (TakesPart files named and_then λ part answer. answer ≡ Ok (Some part)) r

-- A run, whose order of flips is free: what is made, if anything is, or the refusal.
abbrev pub RunsMend : Option Asks → Files → Result (Option Made) Fault → Type 0
RunsMend None files r = r ≡ Err Usage
RunsMend (Some help) files r = r ≡ Ok None
RunsMend (Some version) files r = r ≡ Ok None
RunsMend (Some (mend named)) files r = (MendsPart files named and_then λ made answer. answer ≡ Ok (Some made)) r

-- ---- answers
-- a fault of the surface
abbrev pub IsOfSurface : Fault → Type 0
IsOfSurface Nothing = Unit {0}
IsOfSurface (Mesh fault) = Unit {0}
IsOfSurface fault = ⊥

-- What may be answered to what was taken, beside want of memory: the refusal; with a part, none, or a fault of its surface only
-- where that isn't sound; with help or the version, none.
abbrev pub AnswersTaken : Result (Option Part) Fault → Option Fault → Type 0
AnswersTaken (Err e) fault = (fault ≡ Some e) ⊎ (fault ≡ Some Memory)
AnswersTaken (Ok None) fault = (fault ≡ None) ⊎ (fault ≡ Some Memory)
AnswersTaken (Ok (Some part)) fault = (fault ≡ None) ⊎ (fault ≡ Some Memory) ⊎ ((IsSound part → ⊥) × IfSome fault IsOfSurface)

-- so it is of each answer of the steps
abbrev pub IsAnswerTo : (Result (Option Part) Fault → Type 0) → Option Fault → Type 0
IsAnswerTo steps fault = (r : Result (Option Part) Fault) → steps r → AnswersTaken r fault

-- the faults of a part with these names: of reading it, or of mending it, which a sample, being sound, never has
abbrev pub IsOfNamed : Named → Fault → Type 0
IsOfNamed named fault = IsOfSoup named.part fault ⊎ ((sample_size named.part ≡ None) × IsOfMending fault)

-- help and the version may be what couldn't be said
abbrev pub IsOfAsked : Option Asks → Target → Type 0
IsOfAsked None target = ⊥
IsOfAsked (Some help) target = target ≡ Out
IsOfAsked (Some version) target = target ≡ Out
IsOfAsked (Some (mend named)) target = IsOfTarget named.out target

-- on every desk the words are refused exactly so, unless memory ran out, and the part is at fault only as it may be
abbrev pub AnswersMendWords : Option Asks → Option Fault → Type 0
AnswersMendWords asked (Some Usage) = asked ≡ None
AnswersMendWords asked (Some Memory) = Unit {0}
AnswersMendWords asked (Some (WriteFault target)) = IsOfAsked asked target
AnswersMendWords asked (Some fault) = AsksMendAnd asked (λ named. IsOfNamed named fault)
AnswersMendWords asked None = IsSome asked

-- the run comes to reading a part that isn't a sample, and no job
abbrev pub ComesTo : List ℕ → Input → Type 0
ComesTo part TheJob = ⊥
ComesTo part ThePart = sample_size part ≡ None

-- a fault of reading is answered only where the run comes to that
abbrev pub RunsInOrder : Option Asks → Fault → Type 0
RunsInOrder asked (ReadFault input) = AsksMendAnd asked (λ named. ComesTo named.part input)
RunsInOrder asked fault = Unit {0}

-- the file that was named to be read is there
abbrev pub HasFilesAsked : Files → Option Asks → Type 0
HasFilesAsked files (Some (mend named)) = HasSampleOr (sample_size named.part) files named.part
HasFilesAsked files asked = Unit {0}

-- no file is named to be read: the part is a sample
abbrev pub NamesNoFile : Option Asks → Type 0
NamesNoFile (Some (mend named)) = IsSome (sample_size named.part)
NamesNoFile asked = Unit {0}

-- what the words alone say of a part that was made: of a sample, whatever files there are
abbrev pub IsOfWords : Option Asks → Made → Type 0
IsOfWords asked made = AsksMendAnd asked (λ named. IsSome (sample_size named.part) → (files : Files) → MendsPart files named (Ok made))

-- where mending was asked for, a part is there as the fault says, and else there is none
abbrev pub HasMended : Option Asks → Option Fault → Bool → Type 0
HasMended (Some (mend named)) fault there = IsThereOf common fault there
HasMended asked fault there = there ≡ false

-- ---- a run
-- what the words come to
abbrev pub mend_task : Option Asks → Task Fault (Option Made)
mend_task asked = record {
  faults = common;
  steps = RunsMend asked;
  may = AnswersMendWords asked;
  comes_to = λ files fault. RunsInOrder asked fault;
  has_files = λ files. HasFilesAsked files asked;
  no_file = NamesNoFile asked;
  settles = λ files fault. IsAnswerTo (Takes asked files) fault;
}

-- and what is made of that, with the reasons that desks give
abbrev pub mend_run : {D : Type 0} → (D → Option Reason) → Option Asks → Run Fault Mended (Option Made)
mend_run of_desk asked = record {
  task = mend_task asked;
  status = status_of;
  makes = HasMended asked;
  given = λ m. Some (made_seen m);
  of_words = λ m. IsOfWords asked (made_seen m);
  tells = IsLineOf of_desk (named_in asked);
}
