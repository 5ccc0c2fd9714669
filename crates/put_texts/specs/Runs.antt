-- Runs: what the words of a run come to, what it answers to them, and what it leaves.
use Rattle.std.specs.Prelude.{◌≡◌, ◌++◌, ℕ, Bool, true, List, Option, Some, None, IfSome, IfNone, is_some, Result, Ok}
use Rattle.desk.specs.Files.{Files, DeskState, AppendsFront, Rose}
use Rattle.part_input.specs.Causes.{Faults, CountsReadsOf}
use Rattle.part_input.specs.Steps.{EndsOf, IsMissingOf, RefusesOf}
use Rattle.put_texts.specs.Desks.{HearsAll, OnlyRuns}
use Rattle.put_texts.specs.Faults.{CountsWritesOf, HasNoWriteFaultOf}

-- ---- what a run answers
-- What the words of a run come to. F are the faults of its program, and A is what its steps give.
pub record Task (F A : Type 0) : Type 1 where
  -- what each fault is to the desk
  pub faults : Faults F
  -- the steps, from the files at entry: what they give, or what they refuse
  pub steps : Files → Result A F → Type 0
  -- what may be answered to these words, on every desk
  pub may : Option F → Type 0
  -- from these files, a run comes to reading what this fault couldn't read
  pub comes_to : Files → F → Type 0
  -- the files that the words name to be read are there
  pub has_files : Files → Type 0
  -- the words name no file to be read
  pub no_file : Type 0
  -- an answer to these files where nothing of the desk failed, want of memory among them
  pub settles : Files → Option F → Type 0

-- A run answers so, with a fault or none, between the desk at entry and at its end.
pub record IsAnswer {F A : Type 0} (task : Task F A) (fault : Option F) (old new : DeskState) : Type 0 where
  -- the answer is that of the steps; want of memory is free, and a fault of reading has its count
  pub answer : old.tells ≡ true → EndsOf task.faults (task.steps old.files) fault
  -- on every desk it is one that the words allow
  pub words : task.may fault
  -- a fault of reading is answered only where the run comes to that
  pub order : old.tells ≡ true → IfSome fault (task.comes_to old.files)
  -- a fault of the desk is answered exactly where it counted one: of reading, and of writing
  pub reads : CountsReadsOf task.faults fault old.read_faults new.read_faults
  pub writes : CountsWritesOf task.faults fault old.write_faults new.write_faults
  -- a steady desk fails only where a file is missing: it misses one, and writes all
  pub missing : old.steady ≡ true → IfSome fault (IsMissingOf task.faults (task.steps old.files))
  pub steady : old.steady ≡ true → HasNoWriteFaultOf task.faults fault
  -- where no fault of reading or writing was counted, the answer is settled, on a desk that tells its files
  pub complete : old.tells ≡ true → (Rose old.read_faults new.read_faults → ⊥) → (Rose old.write_faults new.write_faults → ⊥) → task.settles old.files fault
  -- on a steady desk it is so whatever was counted
  pub exact : old.steady ≡ true → task.settles old.files fault
  -- where the words name no file, a refusal is that of the steps on every desk, whatever files there are
  pub words_answer : task.no_file → (files : Files) → IfSome fault (RefusesOf task.faults (task.steps files))
  -- and the answer is settled, wherever no fault of writing was counted
  pub words_complete : task.no_file → (files : Files) → (Rose old.write_faults new.write_faults → ⊥) → task.settles files fault
  -- a steady desk that has the files that the words name to be read counts no fault
  pub held : old.steady ≡ true → task.has_files old.files → (new.read_faults ≡ old.read_faults) × (new.write_faults ≡ old.write_faults)

-- ---- what a run leaves
-- What a run makes, and how it tells its faults. M is what it makes.
pub record Run (F M A : Type 0) : Type 1 where
  -- what its words come to
  pub task : Task F A
  -- the status that it ends with
  pub status : Option F → ℕ
  -- with this fault, or none, something is made or not
  pub makes : Option F → Bool → Type 0
  -- what the steps give where this is made
  pub given : M → A
  -- what the words alone say of it
  pub of_words : M → Type 0
  -- on this desk the line tells the fault
  pub tells : DeskState → F → List ℕ → Type 0

-- what a run with a fault adds to what was warned: a prefix of a line that tells it
abbrev pub WarnsBy : {F : Type 0} → (DeskState → F → List ℕ → Type 0) → DeskState → DeskState → F → Type 0
WarnsBy tells old new fault = (line : List ℕ) × tells old fault line × AppendsFront old.warned new.warned line

-- and where no warning fails, the whole line
abbrev pub WarnsWholeBy : {F : Type 0} → (DeskState → F → List ℕ → Type 0) → DeskState → DeskState → F → Type 0
WarnsWholeBy tells old new fault = (line : List ℕ) × tells old fault line × (new.warned ≡ old.warned ++ line)

-- A run ends so, with this status, with a fault or none, and with what it made or nothing.
pub record IsRun {F M A : Type 0} (run : Run F M A) (code : ℕ) (fault : Option F) (it : Option M) (old new : DeskState) : Type 0 where
  -- the status is that of the fault
  pub status : code ≡ run.status fault
  -- the fault is an answer to the words
  pub answers : IsAnswer run.task fault old new
  -- something is made where the fault leaves it
  pub made : run.makes fault (is_some it)
  -- it is what the steps give, on a desk that tells its files, and on every desk what the words alone say
  pub part : old.tells ≡ true → IfSome it (λ m. run.task.steps old.files (Ok (run.given m)))
  pub words_made : IfSome it run.of_words
  -- a desk that always finds memory wants it only before anything is made
  pub firm : old.firm ≡ true → fault ≡ Some run.task.faults.memory → it ≡ None
  -- where nothing is made, no file is touched
  pub untouched : IfNone it (new.files ≡ old.files)
  -- of a fault it warns once, by its line: by a prefix of it, and by all of it where no warning fails
  pub warned : old.tells_warned ≡ true → IfSome fault (WarnsBy run.tells old new)
  pub whole : HearsAll old new → IfSome fault (WarnsWholeBy run.tells old new)
  -- with none, and where nothing is made, not at all
  pub unwarned : IfNone fault (IfNone it (new.warned ≡ old.warned))
  -- nothing else of the desk changes
  pub changes : OnlyRuns old new
