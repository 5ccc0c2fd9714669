-- Runs, from what holds of their last step: a refusal that is warned of, or texts that are put.
use Rattle.std.proofs.Common.{◌≡◌, ◌⊎◌, inl, inr, ℕ, ◌++◌, List, [], ◌∷◌, true, false, Option, None, Some, is_some, Result, Ok, Err, refl, sym, ap, subst, ◌∙◌}
use Rattle.std.specs.Prelude.{IfSome, IfNone}
use Rattle.desk.specs.Files.{Files, DeskState, AppendsFront, OnlyReads, OnlyWarns, Rose}
use Rattle.part_input.specs.Causes.{Cause, Faults, unread, unwritten, wanting, elsewhere, CountsRead, CountsReadsOf}
use Rattle.part_input.specs.Steps.{AnswersOf, AnswersSteps, EndsBy, EndsOf, IsMissingBy, IsMissingOf, RefusesBy, RefusesOf}
use Rattle.part_input.proofs.Singles.{IsSingle}
use Rattle.put_texts.specs.Desks.{HearsAll, IsUnwarned, OnlyRuns, OnlySaidAndWarned, OnlyWrites}
use Rattle.put_texts.specs.Faults.{CountsWrite, CountsWritesOf, HasNoWriteFaultOf, IsNotWriting}
use Rattle.put_texts.specs.Order.{Text, IsFaultBy}
use Rattle.put_texts.specs.Puts.{IsOfTexts, IsPut}
use Rattle.put_texts.specs.Runs.{Task, IsAnswer, Run, WarnsBy, WarnsWholeBy, IsRun}
use Rattle.put_texts.proofs.Counting.{no_write}
use Rattle.put_texts.proofs.Ends.{either, heard_later}
use Rattle.put_texts.proofs.Putting.{of_way, whole_change}

-- ---- what is asked of a task
-- the answer is that of the steps, or want of memory
abbrev pub IsOfSteps : {F A : Type 0} → Task F A → Files → Option F → Type 0
IsOfSteps {F} {A} task files None = (x : A) × task.steps files (Ok x)
IsOfSteps task files (Some f) = task.steps files (Err f) ⊎ (f ≡ task.faults.memory)

pub record IsLawful {F A : Type 0} (task : Task F A) : Type 0 where
  -- one fault is want of memory, which may always be answered
  pub is_wanting : task.faults.cause task.faults.memory ≡ wanting
  pub alone : (f : F) → task.faults.cause f ≡ wanting → f ≡ task.faults.memory
  pub may_want : task.may (Some task.faults.memory)
  pub want_in_order : (files : Files) → task.comes_to files task.faults.memory
  -- an answer of the steps is settled, and they miss no file that is there
  pub settled : (files : Files) (fault : Option F) → IsOfSteps task files fault → task.settles files fault
  pub there : (files : Files) → task.has_files files → (f : F) → task.faults.cause f ≡ unread → task.steps files (Err f) → ⊥
  -- words that name no file allow no fault of reading
  pub no_reading : task.no_file → (f : F) → task.faults.cause f ≡ unread → task.may (Some f) → ⊥

-- what the steps answer, where they have one answer
module _ {F A : Type 0} (task : Task F A) (files : Files) (single : IsSingle (task.steps files)) where
  short : (f : F) → f ≡ task.faults.memory → (r : Result A F) → AnswersOf task.faults r (Some f)
  short f want (Ok x) = inr (ap Some want)
  short f want (Err e) = inr (ap Some want)

  pub settled_steps : (fault : Option F) → IsOfSteps task files fault → AnswersSteps task.faults (task.steps files) fault
  settled_steps None (x, is) r also = subst (λ (s : Result A F). AnswersOf task.faults s None) (single (Ok x) r is also) (inl refl)
  settled_steps (Some f) (inl is) r also = subst (λ (s : Result A F). AnswersOf task.faults s (Some f)) (single (Err f) r is also) (inl refl)
  settled_steps (Some f) (inr want) r also = short f want r

-- ---- the answer, by what the fault is to the desk
module _ {F : Type 0} (faults : Faults F) (alone : (f : F) → faults.cause f ≡ wanting → f ≡ faults.memory) (given refused : Type 0) (f : F) where
  uncounted_by : (c : Cause) (read read' write write' : ℕ) → faults.cause f ≡ c → EndsBy c given refused → CountsRead c read read' → CountsWrite c write write'
      → (Rose read read' → ⊥) → (Rose write write' → ⊥) → refused ⊎ (f ≡ faults.memory)
  uncounted_by unread read read' write write' is e reads writes no_reads no_writes = absurd (no_reads reads)
  uncounted_by unwritten read read' write write' is e reads writes no_reads no_writes = absurd (no_writes writes)
  uncounted_by wanting read read' write write' is e reads writes no_reads no_writes = inr (alone f is)
  uncounted_by elsewhere read read' write write' is e reads writes no_reads no_writes = inl e

  steady_by : (c : Cause) → faults.cause f ≡ c → EndsBy c given refused → IsMissingBy c refused → IsNotWriting c → refused ⊎ (f ≡ faults.memory)
  steady_by unread is e m w = inl m
  steady_by unwritten is e m w = absurd w
  steady_by wanting is e m w = inr (alone f is)
  steady_by elsewhere is e m w = inl e

  named_by : (c : Cause) (write write' : ℕ) → faults.cause f ≡ c → EndsBy c given refused → (faults.cause f ≡ unread → ⊥) → CountsWrite c write write' → (Rose write write' → ⊥) → refused ⊎ (f ≡ faults.memory)
  named_by unread write write' is e no_reading writes no_writes = absurd (no_reading is)
  named_by unwritten write write' is e no_reading writes no_writes = absurd (no_writes writes)
  named_by wanting write write' is e no_reading writes no_writes = inr (alone f is)
  named_by elsewhere write write' is e no_reading writes no_writes = inl e

  refuses_by : (c : Cause) → EndsBy c given refused → RefusesBy c refused
  refuses_by unread e = tt
  refuses_by unwritten e = tt
  refuses_by wanting e = tt
  refuses_by elsewhere e = e

  there_by : (c : Cause) (read read' : ℕ) → faults.cause f ≡ c → (faults.cause f ≡ unread → refused → ⊥) → IsMissingBy c refused → CountsRead c read read' → read' ≡ read
  there_by unread read read' is never m counts = absurd (never is m)
  there_by unwritten read read' is never m counts = counts
  there_by wanting read read' is never m counts = counts
  there_by elsewhere read read' is never m counts = counts

module _ {F A : Type 0} (task : Task F A) (lawful : IsLawful task) (old new : DeskState) where
  by_counts : (fault : Option F) → EndsOf task.faults (task.steps old.files) fault → CountsReadsOf task.faults fault old.read_faults new.read_faults → CountsWritesOf task.faults fault old.write_faults new.write_faults
      → (Rose old.read_faults new.read_faults → ⊥) → (Rose old.write_faults new.write_faults → ⊥) → IsOfSteps task old.files fault
  by_counts None e reads writes no_reads no_writes = e
  by_counts (Some f) e reads writes no_reads no_writes =
      uncounted_by task.faults lawful.alone ((x : A) × task.steps old.files (Ok x)) (task.steps old.files (Err f)) f (task.faults.cause f)
      old.read_faults new.read_faults old.write_faults new.write_faults refl e reads writes no_reads no_writes

  by_files : (fault : Option F) → EndsOf task.faults (task.steps old.files) fault → IfSome fault (IsMissingOf task.faults (task.steps old.files)) → HasNoWriteFaultOf task.faults fault → IsOfSteps task old.files fault
  by_files None e m w = e
  by_files (Some f) e m w = steady_by task.faults lawful.alone ((x : A) × task.steps old.files (Ok x)) (task.steps old.files (Err f)) f (task.faults.cause f) refl e m w

  by_names : (files : Files) (fault : Option F) → EndsOf task.faults (task.steps files) fault → task.no_file → task.may fault → CountsWritesOf task.faults fault old.write_faults new.write_faults
      → (Rose old.write_faults new.write_faults → ⊥) → IsOfSteps task files fault
  by_names files None e none may writes no_writes = e
  by_names files (Some f) e none may writes no_writes =
      named_by task.faults lawful.alone ((x : A) × task.steps files (Ok x)) (task.steps files (Err f)) f (task.faults.cause f)
      old.write_faults new.write_faults refl e (λ is. lawful.no_reading none f is may) writes no_writes

  refuses_at : (files : Files) (fault : Option F) → EndsOf task.faults (task.steps files) fault → IfSome fault (RefusesOf task.faults (task.steps files))
  refuses_at files None e = tt
  refuses_at files (Some f) e = refuses_by task.faults lawful.alone ((x : A) × task.steps files (Ok x)) (task.steps files (Err f)) f (task.faults.cause f) e

  no_read : (fault : Option F) → task.has_files old.files → IfSome fault (IsMissingOf task.faults (task.steps old.files)) → CountsReadsOf task.faults fault old.read_faults new.read_faults → new.read_faults ≡ old.read_faults
  no_read None there m counts = counts
  no_read (Some f) there m counts =
      there_by task.faults lawful.alone ((x : A) × task.steps old.files (Ok x)) (task.steps old.files (Err f)) f (task.faults.cause f) old.read_faults new.read_faults refl (lawful.there old.files there f) m counts

  -- the answer, once it is told how it ends and what was counted
  pub whole_answer : (fault : Option F) → (old.steady ≡ true → old.tells ≡ true) → (old.tells ≡ true → EndsOf task.faults (task.steps old.files) fault) → (task.no_file → (files : Files) → EndsOf task.faults (task.steps files) fault) → task.may fault
      → (old.tells ≡ true → IfSome fault (task.comes_to old.files))
      → CountsReadsOf task.faults fault old.read_faults new.read_faults → CountsWritesOf task.faults fault old.write_faults new.write_faults
      → (old.steady ≡ true → IfSome fault (IsMissingOf task.faults (task.steps old.files))) → (old.steady ≡ true → HasNoWriteFaultOf task.faults fault) → IsAnswer task fault old new
  whole_answer fault tells answer alone words order reads writes missing steady = record {
    answer = answer;
    words = words;
    order = order;
    reads = reads;
    writes = writes;
    missing = missing;
    steady = steady;
    complete = λ told no_reads no_writes. lawful.settled old.files fault (by_counts fault (answer told) reads writes no_reads no_writes);
    exact = λ still. lawful.settled old.files fault (by_files fault (answer (tells still)) (missing still) (steady still));
    words_answer = λ none files. refuses_at files fault (alone none files);
    words_complete = λ none files no_writes. lawful.settled files fault (by_names files fault (alone none files) none words writes no_writes);
    held = λ still there. (no_read fault there (missing still) reads, no_write task.faults fault old.write_faults new.write_faults (steady still) writes);
  }

-- ---- the desk
pub only_runs : (old between new : DeskState) → OnlyReads old between → OnlyWrites between new → OnlyRuns old new
only_runs old between new read wrote =
    wrote
    ∙ ap (λ (s : DeskState). record s { files = new.files; said = new.said; warned = new.warned; write_faults = new.write_faults; warn_faults = new.warn_faults }) read
    ∙ ap (λ (n : ℕ). record old { files = new.files; said = new.said; warned = new.warned; read_faults = n; write_faults = new.write_faults; warn_faults = new.warn_faults })
    (sym (ap (λ (s : DeskState). s.read_faults) wrote))

-- ---- a refusal
-- the steps refuse with this fault, once files were read
pub record IsRefusal {F A : Type 0} (task : Task F A) (e : F) (old between : DeskState) : Type 0 where
  pub refuses : old.tells ≡ true → RefusesOf task.faults (task.steps old.files) e
  pub alone : task.no_file → (files : Files) → RefusesOf task.faults (task.steps files) e
  pub may : task.may (Some e)
  pub order : old.tells ≡ true → task.comes_to old.files e
  pub reads : CountsReadsOf task.faults (Some e) old.read_faults between.read_faults
  pub missing : old.steady ≡ true → IsMissingOf task.faults (task.steps old.files) e
  pub no_write : HasNoWriteFaultOf task.faults (Some e)
  pub read : OnlyReads old between

ends_refused : (c : Cause) (given refused : Type 0) → IsNotWriting c → RefusesBy c refused → EndsBy c given refused
ends_refused unread given refused w r = tt
ends_refused unwritten given refused w r = absurd w
ends_refused wanting given refused w r = tt
ends_refused elsewhere given refused w r = r

stands : (c : Cause) (old new : ℕ) → IsNotWriting c → new ≡ old → CountsWrite c old new
stands unwritten old new w same = absurd w
stands unread old new w same = same
stands wanting old new w same = same
stands elsewhere old new w same = same

module _ {F A : Type 0} (task : Task F A) (lawful : IsLawful task) (old between new : DeskState) (e : F) (refusal : IsRefusal task e old between) (warns : OnlyWarns between new)
    (fault : Option F) (is : (fault ≡ Some e) ⊎ (fault ≡ Some task.faults.memory)) (told : task.faults.cause e ≡ unread → fault ≡ Some e) where
  memory_is : (Q : Cause → Type 0) → Q wanting → Q (task.faults.cause task.faults.memory)
  memory_is Q h = subst Q (sym lawful.is_wanting) h

  by_either : (Q : Option F → Type 0) → Q (Some e) → Q (Some task.faults.memory) → Q fault
  by_either Q h m = either Q e task.faults.memory fault is h m

  reads_by : (c : Cause) → task.faults.cause e ≡ c → CountsRead c old.read_faults new.read_faults → CountsReadsOf task.faults (Some e) old.read_faults new.read_faults
      → CountsReadsOf task.faults fault old.read_faults new.read_faults
  reads_by unread cause counts at_e = subst (λ (f : Option F). CountsReadsOf task.faults f old.read_faults new.read_faults) (sym (told cause)) at_e
  reads_by unwritten cause counts at_e = by_either (λ f. CountsReadsOf task.faults f old.read_faults new.read_faults) at_e (memory_is (λ c. CountsRead c old.read_faults new.read_faults) counts)
  reads_by wanting cause counts at_e = by_either (λ f. CountsReadsOf task.faults f old.read_faults new.read_faults) at_e (memory_is (λ c. CountsRead c old.read_faults new.read_faults) counts)
  reads_by elsewhere cause counts at_e = by_either (λ f. CountsReadsOf task.faults f old.read_faults new.read_faults) at_e (memory_is (λ c. CountsRead c old.read_faults new.read_faults) counts)

  refused_ends : (files : Files) → RefusesOf task.faults (task.steps files) e → EndsOf task.faults (task.steps files) fault
  refused_ends files refuses =
      by_either (EndsOf task.faults (task.steps files)) (ends_refused (task.faults.cause e) ((x : A) × task.steps files (Ok x)) (task.steps files (Err e)) refusal.no_write refuses)
      (memory_is (λ c. EndsBy c ((x : A) × task.steps files (Ok x)) (task.steps files (Err task.faults.memory))) tt)

  refused_reads : CountsReadsOf task.faults fault old.read_faults new.read_faults
  refused_reads =
      let at_e : CountsReadsOf task.faults (Some e) old.read_faults new.read_faults =
      subst (λ (n : ℕ). CountsReadsOf task.faults (Some e) old.read_faults n) (sym (ap (λ (s : DeskState). s.read_faults) warns)) refusal.reads in
      reads_by (task.faults.cause e) refl at_e at_e

  refused_writes : CountsWritesOf task.faults fault old.write_faults new.write_faults
  refused_writes =
      let same : new.write_faults ≡ old.write_faults = ap (λ (s : DeskState). s.write_faults) warns ∙ ap (λ (s : DeskState). s.write_faults) refusal.read in
      by_either (λ f. CountsWritesOf task.faults f old.write_faults new.write_faults) (stands (task.faults.cause e) old.write_faults new.write_faults refusal.no_write same)
      (memory_is (λ c. CountsWrite c old.write_faults new.write_faults) same)

  pub refused_answer : (old.steady ≡ true → old.tells ≡ true) → IsAnswer task fault old new
  refused_answer tells =
      whole_answer task lawful old new fault tells
      (λ t. refused_ends old.files (refusal.refuses t)) (λ none files. refused_ends files (refusal.alone none files))
      (by_either task.may refusal.may lawful.may_want)
      (λ t. by_either (λ f. IfSome f (task.comes_to old.files)) (refusal.order t) (lawful.want_in_order old.files))
      refused_reads refused_writes
      (λ s. by_either (λ f. IfSome f (IsMissingOf task.faults (task.steps old.files))) (refusal.missing s) (memory_is (λ c. IsMissingBy c (task.steps old.files (Err task.faults.memory))) tt))
      (λ s. by_either (HasNoWriteFaultOf task.faults) refusal.no_write (memory_is IsNotWriting tt))

-- nothing is made, and it is warned by the line of the fault, or of want of memory
pub refused_run : {F M A : Type 0} (run : Run F M A) (lawful : IsLawful run.task) (old between new : DeskState) (e : F) (refusal : IsRefusal run.task e old between) (warns : OnlyWarns between new)
    (fault : Option F) → (fault ≡ Some e) ⊎ (fault ≡ Some run.task.faults.memory) → (run.task.faults.cause e ≡ unread → fault ≡ Some e)
    → (code : ℕ) (it : Option M) → (old.steady ≡ true → old.tells ≡ true) → code ≡ run.status fault → it ≡ None → run.makes (Some e) false → run.makes (Some run.task.faults.memory) false
    → (old.tells_warned ≡ true → IfSome fault (WarnsBy run.tells old new)) → (HearsAll old new → IfSome fault (WarnsWholeBy run.tells old new)) → IsRun run code fault it old new
refused_run {F} {M} {A} run lawful old between new e refusal warns fault is told code it tells status none no_e no_memory warned whole = record {
  status = status;
  answers = refused_answer run.task lawful old between new e refusal warns fault is told tells;
  made = subst (λ (o : Option M). run.makes fault (is_some o)) (sym none) (either (λ f. run.makes f false) e run.task.faults.memory fault is no_e no_memory);
  part = λ t. subst (λ (o : Option M). IfSome o (λ m. run.task.steps old.files (Ok (run.given m)))) (sym none) tt;
  words_made = subst (λ (o : Option M). IfSome o run.of_words) (sym none) tt;
  firm = λ firm short. none;
  untouched = subst (λ (o : Option M). IfNone o (new.files ≡ old.files)) (sym none) (ap (λ (s : DeskState). s.files) warns ∙ ap (λ (s : DeskState). s.files) refusal.read);
  warned = warned;
  whole = whole;
  unwarned = either (λ f. IfNone f (IfNone it (new.warned ≡ old.warned))) e run.task.faults.memory fault is tt tt;
  changes = only_runs old between new refusal.read (whole_change run.task.faults between new warns);
}

-- the run ends with the fault itself, and warns by its line
pub ended_run : {F M A : Type 0} (run : Run F M A) (lawful : IsLawful run.task) (old between new : DeskState) (e : F) (refusal : IsRefusal run.task e old between) (warns : OnlyWarns between new)
    (fault : Option F) (is : fault ≡ Some e) (line : List ℕ) → run.tells old e line → (code : ℕ) (it : Option M) → (old.steady ≡ true → old.tells ≡ true) → code ≡ run.status fault → it ≡ None
    → run.makes (Some e) false → run.makes (Some run.task.faults.memory) false
    → (between.tells_warned ≡ true → AppendsFront between.warned new.warned line) → (HearsAll between new → new.warned ≡ between.warned ++ line) → IsRun run code fault it old new
ended_run {F} {M} {A} run lawful old between new e refusal warns fault is line told code it tells status none no_e no_memory front whole =
    let same : between.warned ≡ old.warned = ap (λ (s : DeskState). s.warned) refusal.read in
    refused_run run lawful old between new e refusal warns fault (inl is) (λ cause. is) code it tells status none no_e no_memory
    (λ heard. subst (λ (f : Option F). IfSome f (WarnsBy run.tells old new)) (sym is)
    (line, told, subst (λ (w : List ℕ). AppendsFront w new.warned line) same (front (ap (λ (s : DeskState). s.tells_warned) refusal.read ∙ heard))))
    (λ hears. subst (λ (f : Option F). IfSome f (WarnsWholeBy run.tells old new)) (sym is)
    (line, told, subst (λ (w : List ℕ). new.warned ≡ w ++ line) same (whole (heard_later old between new refusal.read hears))))

-- want of memory refuses at any place
pub short_refusal : {F A : Type 0} (task : Task F A) → IsLawful task → (old between : DeskState) → OnlyReads old between → between.read_faults ≡ old.read_faults → IsRefusal task task.faults.memory old between
short_refusal task lawful old between read still = record {
  refuses = λ told. subst (λ (c : Cause). RefusesBy c (task.steps old.files (Err task.faults.memory))) (sym lawful.is_wanting) tt;
  alone = λ none files. subst (λ (c : Cause). RefusesBy c (task.steps files (Err task.faults.memory))) (sym lawful.is_wanting) tt;
  may = lawful.may_want;
  order = λ told. lawful.want_in_order old.files;
  reads = subst (λ (c : Cause). CountsRead c old.read_faults between.read_faults) (sym lawful.is_wanting) still;
  missing = λ steady. subst (λ (c : Cause). IsMissingBy c (task.steps old.files (Err task.faults.memory))) (sym lawful.is_wanting) tt;
  no_write = subst IsNotWriting (sym lawful.is_wanting) tt;
  read = read;
}

-- ---- texts that are put
-- what holds of these texts, which a run puts with what it made or with nothing made
pub record IsPutting {F M A : Type 0} (run : Run F M A) (texts : List (Text F)) (line : F → List ℕ) (it : Option M) (old : DeskState) : Type 0 where
  pub gives : old.tells ≡ true → (x : A) × run.task.steps old.files (Ok x)
  pub alone : run.task.no_file → (files : Files) → (x : A) × run.task.steps files (Ok x)
  pub words : IfSome it run.of_words
  pub part : old.tells ≡ true → IfSome it (λ m. run.task.steps old.files (Ok (run.given m)))
  pub may : (fault : Option F) → IfSome fault (IsOfTexts run.task.faults texts) → run.task.may fault
  pub order : (f : F) → IsOfTexts run.task.faults texts f → run.task.comes_to old.files f
  pub made : (fault : Option F) → IfSome fault (IsOfTexts run.task.faults texts) → run.makes fault (is_some it)
  pub tells : (f : F) → IsOfTexts run.task.faults texts f → run.tells old f (line f)

-- a fault of putting texts is one of writing, or want of memory
abbrev pub IsOfPutting : Cause → Type 0
IsOfPutting unwritten = Unit {0}
IsOfPutting wanting = Unit {0}
IsOfPutting cause = ⊥

module _ {F : Type 0} (faults : Faults F) (f : F) where
  fault_putting : (its : F) (c : Cause) → IsFaultBy c its f → IsOfPutting c
  fault_putting its unwritten is = tt
  fault_putting its wanting is = tt
  fault_putting its unread is = absurd is
  fault_putting its elsewhere is = absurd is

  putting : (texts : List (Text F)) → IsOfTexts faults texts f → IsOfPutting (faults.cause f)
  putting [] is = absurd is
  putting (t ∷ rest) (inl is) = fault_putting t.unwritten (faults.cause f) (of_way faults t.way t.unwritten f is)
  putting (t ∷ rest) (inr is) = putting rest is

ends_putting : (c : Cause) (given refused : Type 0) → IsOfPutting c → given → EndsBy c given refused
ends_putting unwritten given refused is g = g
ends_putting wanting given refused is g = tt
ends_putting unread given refused is g = absurd is
ends_putting elsewhere given refused is g = absurd is

reads_putting : (c : Cause) (old new : ℕ) → IsOfPutting c → new ≡ old → CountsRead c old new
reads_putting unwritten old new is same = same
reads_putting wanting old new is same = same
reads_putting unread old new is same = absurd is
reads_putting elsewhere old new is same = same

missing_putting : (c : Cause) (refused : Type 0) → IsOfPutting c → IsMissingBy c refused
missing_putting unwritten refused is = tt
missing_putting wanting refused is = tt
missing_putting unread refused is = absurd is
missing_putting elsewhere refused is = tt

module _ {F M A : Type 0} (run : Run F M A) (lawful : IsLawful run.task) (old between new : DeskState) (read : OnlyReads old between) (still : between.read_faults ≡ old.read_faults)
    (texts : List (Text F)) (line : F → List ℕ) (it : Option M) (facts : IsPutting run texts line it old) where
  put_ends : (files : Files) (fault : Option F) → IfSome fault (IsOfTexts run.task.faults texts) → (x : A) × run.task.steps files (Ok x) → EndsOf run.task.faults (run.task.steps files) fault
  put_ends files None of_texts gives = gives
  put_ends files (Some f) of_texts gives =
      ends_putting (run.task.faults.cause f) ((x : A) × run.task.steps files (Ok x)) (run.task.steps files (Err f)) (putting run.task.faults f texts of_texts) gives

  put_reads : (fault : Option F) → IfSome fault (IsOfTexts run.task.faults texts) → new.read_faults ≡ old.read_faults → CountsReadsOf run.task.faults fault old.read_faults new.read_faults
  put_reads None of_texts same = same
  put_reads (Some f) of_texts same = reads_putting (run.task.faults.cause f) old.read_faults new.read_faults (putting run.task.faults f texts of_texts) same

  put_missing : (fault : Option F) → IfSome fault (IsOfTexts run.task.faults texts) → IfSome fault (IsMissingOf run.task.faults (run.task.steps old.files))
  put_missing None of_texts = tt
  put_missing (Some f) of_texts = missing_putting (run.task.faults.cause f) (run.task.steps old.files (Err f)) (putting run.task.faults f texts of_texts)

  put_order : (fault : Option F) → IfSome fault (IsOfTexts run.task.faults texts) → IfSome fault (run.task.comes_to old.files)
  put_order None of_texts = tt
  put_order (Some f) of_texts = facts.order f of_texts

  same_warned : between.warned ≡ old.warned
  same_warned = ap (λ (s : DeskState). s.warned) read

  put_warned : (fault : Option F) → IfSome fault (IsOfTexts run.task.faults texts) → IfSome fault (λ f. AppendsFront between.warned new.warned (line f)) → IfSome fault (WarnsBy run.tells old new)
  put_warned None of_texts h = tt
  put_warned (Some f) of_texts h = (line f, facts.tells f of_texts, subst (λ (w : List ℕ). AppendsFront w new.warned (line f)) same_warned h)

  put_whole : (fault : Option F) → IfSome fault (IsOfTexts run.task.faults texts) → IfSome fault (λ f. new.warned ≡ between.warned ++ line f) → IfSome fault (WarnsWholeBy run.tells old new)
  put_whole None of_texts h = tt
  put_whole (Some f) of_texts h = (line f, facts.tells f of_texts, subst (λ (w : List ℕ). new.warned ≡ w ++ line f) same_warned h)

  pub put_run : (code : ℕ) (fault : Option F) → (old.steady ≡ true → old.tells ≡ true) → code ≡ run.status fault → IsPut run.task.faults line texts fault between new
      → IfNone it (new.files ≡ old.files) → IfNone fault (IfNone it (new.warned ≡ old.warned)) → IsRun run code fault it old new
  put_run code fault tells status put untouched unwarned = record {
    status = status;
    answers =
        whole_answer run.task lawful old new fault tells (λ told. put_ends old.files fault put.of_texts (facts.gives told)) (λ none files. put_ends files fault put.of_texts (facts.alone none files)) (facts.may fault put.of_texts) (λ told. put_order fault put.of_texts)
        (put_reads fault put.of_texts (ap (λ (s : DeskState). s.read_faults) put.changes ∙ still))
        (subst (λ (n : ℕ). CountsWritesOf run.task.faults fault n new.write_faults) (ap (λ (s : DeskState). s.write_faults) read) put.writes)
        (λ steady. put_missing fault put.of_texts) (λ steady. put.steady (ap (λ (s : DeskState). s.steady) read ∙ steady));
    made = facts.made fault put.of_texts;
    part = facts.part;
    words_made = facts.words;
    firm = λ firm short. absurd (put.firm (ap (λ (s : DeskState). s.firm) read ∙ firm) short);
    untouched = untouched;
    warned = λ told. put_warned fault put.of_texts (put.warned (ap (λ (s : DeskState). s.tells_warned) read ∙ told));
    whole = λ hears. put_whole fault put.of_texts (put.whole (heard_later old between new read hears));
    unwarned = unwarned;
    changes = only_runs old between new read put.changes;
  }

-- ---- what isn't warned
pub made_unwarned : {F : Type 0} (fault : Option F) → IfNone fault (Unit {0})
made_unwarned None = tt
made_unwarned (Some f) = tt

unwarned_by : {F M : Type 0} (fault : Option F) (it : Option M) (old new : DeskState) → IfNone fault (IsUnwarned old new) → IfNone fault (IfNone it (new.warned ≡ old.warned))
unwarned_by None None old new h = h.warned
unwarned_by None (Some m) old new h = tt
unwarned_by (Some f) it old new h = tt

-- ---- a text that is told
pub told_run : {F M A : Type 0} (run : Run F M A) (lawful : IsLawful run.task) (old new : DeskState) (texts : List (Text F)) (line : F → List ℕ) → IsPutting run texts line None old
    → (code : ℕ) (fault : Option F) (it : Option M) → (old.steady ≡ true → old.tells ≡ true) → code ≡ run.status fault → it ≡ None → IsPut run.task.faults line texts fault old new
    → IfNone fault (IsUnwarned old new) → OnlySaidAndWarned old new → IsRun run code fault it old new
told_run {F} {M} {A} run lawful old new texts line facts code fault it tells status none put unwarned changes =
    let nothing : Option M = None in
    subst (λ (o : Option M). IsRun run code fault o old new) (sym none)
    (put_run run lawful old old new refl refl texts line nothing facts code fault tells status put (ap (λ (s : DeskState). s.files) changes) (unwarned_by fault nothing old new unwarned))
