-- What a run of `pieces` answers, from its words and the files at entry: steps in order, each with what it gives and what it refuses.
use Rattle.std.specs.Prelude.{◌≡◌, ◌⊎◌, ◌<◌, ◌≤◌, ℕ, List, length, Option, Some, None, IsSome, IsSomeAnd, Result, Ok, Err, Bool, false, true, codes, ◌++◌}
use Rattle.std.specs.Fmt.{decimal}
use Rattle.std.specs.List.{AllZip}
use Rattle.desk.specs.Files.{Files, DeskState, AppendsFront}
use Rattle.geometry.specs.Parts.{Part}
use Rattle.job_file.specs.Documents.{JobValues}
use Rattle.job_file.specs.Seen.{job_seen}
use Rattle.job_file.specs.declared.job.Job.{Job}
use Rattle.solid_mesh.specs.Solids.{solid_part}
use Rattle.solid_mesh.specs.declared.solid.Solid.{Solid}
use Rattle.sheet_plan.specs.declared.sheet.Stroke.{Stroke}
use Rattle.piece_verify.specs.ListLines.{IsEntryOf}
use Rattle.piece_verify.specs.declared.line.Entry.{Entry}
use Rattle.part_input.specs.Jobs.{TakesReadJob, IsOfJobFile}
use Rattle.part_input.specs.Parts.{sample_size, TakesSolid, IsOfPart, HasSampleOr}
use Rattle.part_input.specs.declared.fault.Input.TheVariants.{Part as ThePart}
use Rattle.part_input.specs.declared.fault.Fault.TheVariants.{ReadFault}
use Rattle.piece_verify.specs.Lists.{IsList, IsFaultLine}
use Rattle.piece_verify.specs.Checked.{IsVerdict}
use Rattle.piece_verify.specs.declared.check.Verdict.{Verdict}
use Rattle.piece_verify.specs.declared.check.Verdict.TheVariants.{Right, Stranger, Differs}
use Rattle.piece_verify.specs.declared.list.ListFault.{ListFault}
use Rattle.svg_page.specs.Texts.{◌⊕◌}
use Rattle.part_input.specs.Steps.{◌and_then◌, AnswersSteps}
use Rattle.put_texts.specs.Runs.{Task}
use Rattle.detail_view.specs.Faults.{IsNoMemory, pieces_faults}
use Rattle.detail_view.specs.Steps.{Lifted, Yields}
use Rattle.detail_view.specs.Words.{Check, Detail, Asked, checks, details}
use Rattle.detail_view.specs.declared.fault.PiecesFault.{PiecesFault}
use Rattle.detail_view.specs.declared.fault.PiecesFault.TheVariants.{Usage, Input, NoView, ReadList, ListTooLong, List as Unlisted, WriteFault, Memory}

-- ---- the steps of a run
-- the list is there, with at most 16,777,216 bytes
abbrev pub TakesList : Files → List ℕ → Result (List ℕ) PiecesFault → Type 0
TakesList files name (Ok bytes) = (files name ≡ Some bytes) × (length bytes ≤ 16777216)
TakesList files name (Err e) =
    ((e ≡ ReadList) × (files name ≡ None)) ⊎ ((e ≡ ListTooLong) × IsSomeAnd (files name) (λ bytes. 16777216 < length bytes))

-- its strokes
abbrev pub ReadsList : List ℕ → Result (List Stroke) PiecesFault → Type 0
ReadsList bytes (Ok strokes) = IsList bytes strokes
ReadsList bytes (Err e) = (fault : ListFault) × (e ≡ Unlisted fault) × IsFaultLine bytes fault.line

-- the list is taken, and read
abbrev pub TakesReadList : Files → List ℕ → Result (List Stroke) PiecesFault → Type 0
TakesReadList files name = TakesList files name and_then ReadsList

-- the job has this view
abbrev pub HasView : ℕ → JobValues → Result JobValues PiecesFault → Type 0
HasView view job (Ok same) = (same ≡ job) × (view < length job.views)
HasView view job (Err e) = (e ≡ NoView view) × (length job.views ≤ view)

-- what the files give: a job, a part, and the strokes of a list
pub data Given : Type 0 where
  listed : JobValues → Part → List Stroke → Given
  viewed : JobValues → Part → Given

abbrev pub TakesPart : Files → List ℕ → JobValues → Result Part PiecesFault → Type 0
TakesPart files name job = Lifted (TakesSolid files name job.decimals job.unit)

-- for a check the job, the part and then the list
abbrev pub ChecksBy : Files → Check → JobValues → Result Given PiecesFault → Type 0
ChecksBy files c job = TakesPart files c.part job and_then λ part. Yields (listed job part) (TakesReadList files c.list)

abbrev pub Checks : Files → Check → Result Given PiecesFault → Type 0
Checks files c = Lifted (TakesReadJob files (Some c.job)) and_then ChecksBy files c

-- for a detail the job, which has the view, and then the part
abbrev pub TakesViewed : Files → Detail → Result JobValues PiecesFault → Type 0
TakesViewed files d = Lifted (TakesReadJob files (Some d.job)) and_then HasView d.view

abbrev pub Details : Files → Detail → Result Given PiecesFault → Type 0
Details files d = TakesViewed files d and_then λ job. Yields (viewed job) (TakesPart files d.part job)

-- A run: what the files at entry give for what the words ask for, or the refusal. Words that ask for nothing are refused.
abbrev pub RunsPieces : Option Asked → Files → Result Given PiecesFault → Type 0
RunsPieces None files r = r ≡ Err Usage
RunsPieces (Some (checks c)) files r = Checks files c r
RunsPieces (Some (details d)) files r = Details files d r

-- ---- verdicts
-- the verdict is that on the entries of a list, for a solid by a job, as the steps give them
pub record IsVerdictOf (steps : Result Given PiecesFault → Type 0) (v : Verdict) : Type 0 where
  pub job : Job
  pub solid : Solid
  pub strokes : List Stroke
  pub entries : List Entry
  pub given : steps (Ok (listed (job_seen job) (solid_part solid) strokes))
  pub read : AllZip IsEntryOf strokes entries
  pub is : IsVerdict solid job entries v

-- a check was asked for, and this is its verdict
abbrev pub IsVerdictOn : Option Asked → Files → Verdict → Type 0
IsVerdictOn (Some (checks c)) files v = IsVerdictOf (Checks files c) v
IsVerdictOn asked files v = ⊥

-- a verdict is there for a check with no fault, and else is not
abbrev pub HasVerdict : Option Asked → Option PiecesFault → Bool → Type 0
HasVerdict (Some (checks c)) None there = there ≡ true
HasVerdict asked fault there = there ≡ false

-- what is said: `right`, `stranger` and a place, or `view`, its number, `piece` and a place
abbrev pub verdict_line : Verdict → List ℕ
verdict_line Right = codes "right\n"
verdict_line (Stranger place) = codes "stranger " ⊕ decimal place ⊕ codes "\n"
verdict_line (Differs view place want) = codes "view " ⊕ decimal view ⊕ codes " piece " ⊕ decimal place ⊕ codes "\n"

-- what a line of a verdict leaves of what was said, by the fault
abbrev pub Says : Option PiecesFault → List ℕ → List ℕ → List ℕ → Type 0
Says None old new line = new ≡ old ++ line
Says (Some WriteFault) old new line = AppendsFront old new line
Says (Some fault) old new line = new ≡ old

-- what a torn saying leaves: a front of the line of a verdict, which is that on what was asked where the desk tells its files
abbrev pub SaysTorn : Bool → Option Asked → Files → List ℕ → List ℕ → Type 0
SaysTorn tells (Some (checks c)) files old new = (v : Verdict) × (tells ≡ true → IsVerdictOf (Checks files c) v) × AppendsFront old new (verdict_line v)
SaysTorn tells asked files old new = new ≡ old

-- what a run leaves of what was said: with a verdict its line is added
abbrev pub SaysAsked : Bool → Option Asked → Files → Option PiecesFault → Option Verdict → List ℕ → List ℕ → Type 0
SaysAsked tells asked files None (Some v) old new = new ≡ old ++ verdict_line v
SaysAsked tells asked files None None old new = new ≡ old
SaysAsked tells asked files (Some WriteFault) verdict old new = SaysTorn tells asked files old new
SaysAsked tells asked files (Some fault) verdict old new = new ≡ old

-- ---- faults
-- those of the job with this name, of the part with this name, and of a list
abbrev pub IsOfJob : PiecesFault → Type 0
IsOfJob (Input e) = IsOfJobFile e × IsNoMemory e
IsOfJob Memory = Unit {0}
IsOfJob fault = ⊥

abbrev pub IsOfPartNamed : List ℕ → PiecesFault → Type 0
IsOfPartNamed name (Input e) = IsOfPart name e × IsNoMemory e
IsOfPartNamed name Memory = Unit {0}
IsOfPartNamed name fault = ⊥

abbrev pub IsOfList : PiecesFault → Type 0
IsOfList ReadList = Unit {0}
IsOfList ListTooLong = Unit {0}
IsOfList (Unlisted fault) = Unit {0}
IsOfList Memory = Unit {0}
IsOfList fault = ⊥

-- the run was refused before it made anything
abbrev pub IsRefusal : PiecesFault → Type 0
IsRefusal WriteFault = ⊥
IsRefusal Memory = ⊥
IsRefusal fault = Unit {0}

abbrev pub IsOfView : ℕ → PiecesFault → Type 0
IsOfView view (NoView number) = number ≡ view
IsOfView view fault = ⊥

-- those of a check, and those of a detail, before anything is written
abbrev pub IsOfCheck : Check → PiecesFault → Type 0
IsOfCheck c fault = IsOfJob fault ⊎ IsOfPartNamed c.part fault ⊎ IsOfList fault

abbrev pub IsOfDetail : Detail → PiecesFault → Type 0
IsOfDetail d fault = IsOfJob fault ⊎ IsOfView d.view fault ⊎ IsOfPartNamed d.part fault

abbrev pub IsOfAsked : Asked → PiecesFault → Type 0
IsOfAsked (checks c) fault = IsOfCheck c fault
IsOfAsked (details d) fault = IsOfDetail d fault

-- on every desk the words are refused exactly so, unless memory ran out, and what they name is at fault only as it may be
abbrev pub AnswersPiecesWords : Option Asked → Option PiecesFault → Type 0
AnswersPiecesWords asked None = IsSome asked
AnswersPiecesWords asked (Some Usage) = asked ≡ None
AnswersPiecesWords asked (Some Memory) = Unit {0}
AnswersPiecesWords asked (Some WriteFault) = IsSome asked
AnswersPiecesWords asked (Some fault) = IsSomeAnd asked (λ a. IsOfAsked a fault)

-- ---- the order of reading
-- the job comes first, then a part that isn't a sample, then the list
abbrev pub ChecksInOrder : Files → Check → PiecesFault → Type 0
ChecksInOrder files c (Input (ReadFault ThePart)) = (sample_size c.part ≡ None) × (job : JobValues) × TakesReadJob files (Some c.job) (Ok job)
ChecksInOrder files c ReadList = (job : JobValues) × (part : Part) × TakesReadJob files (Some c.job) (Ok job) × TakesPart files c.part job (Ok part)
ChecksInOrder files c fault = Unit {0}

-- the job comes first, and then a part that isn't a sample, where the job has the view
abbrev pub DetailsInOrder : Files → Detail → PiecesFault → Type 0
DetailsInOrder files d (Input (ReadFault ThePart)) = (sample_size d.part ≡ None) × (job : JobValues) × TakesViewed files d (Ok job)
DetailsInOrder files d fault = Unit {0}

abbrev pub RunsInOrder : Option Asked → Files → PiecesFault → Type 0
RunsInOrder None files fault = Unit {0}
RunsInOrder (Some (checks c)) files fault = ChecksInOrder files c fault
RunsInOrder (Some (details d)) files fault = DetailsInOrder files d fault

-- ---- files
-- the files that were named to be read are there
abbrev pub HasFiles : Files → Option Asked → Type 0
HasFiles files None = Unit {0}
HasFiles files (Some (checks c)) = IsSome (files c.job) × HasSampleOr (sample_size c.part) files c.part × IsSome (files c.list)
HasFiles files (Some (details d)) = IsSome (files d.job) × HasSampleOr (sample_size d.part) files d.part

-- words that ask for a check or a detail name files to be read
abbrev pub NamesNoFile : Option Asked → Type 0
NamesNoFile None = Unit {0}
NamesNoFile (Some asked) = ⊥

-- ---- a run
-- what the words come to
abbrev pub pieces_task : Option Asked → Task PiecesFault Given
pieces_task asked = record {
  faults = pieces_faults;
  steps = RunsPieces asked;
  may = AnswersPiecesWords asked;
  comes_to = RunsInOrder asked;
  has_files = λ files. HasFiles files asked;
  no_file = NamesNoFile asked;
  settles = λ files. AnswersSteps pieces_faults (RunsPieces asked files);
}

-- ---- the desk
-- nothing but what was said, and the faults of reading and writing changed
abbrev pub OnlyListens : DeskState → DeskState → Type 0
OnlyListens old new = new ≡ record old { said = new.said; read_faults = new.read_faults; write_faults = new.write_faults }

-- nothing but the files and the faults of reading and writing changed
abbrev pub OnlyDraws : DeskState → DeskState → Type 0
OnlyDraws old new = new ≡ record old { files = new.files; read_faults = new.read_faults; write_faults = new.write_faults }

-- a check keeps nothing, a detail says nothing, neither warns, and where nothing was asked for nothing changed
abbrev pub OnlyAsked : Option Asked → DeskState → DeskState → Type 0
OnlyAsked (Some (checks c)) old new = OnlyListens old new
OnlyAsked (Some (details d)) old new = OnlyDraws old new
OnlyAsked None old new = new ≡ old
