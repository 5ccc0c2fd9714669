-- What is asked of a run of `pieces`: its steps answer alike, and miss no file that is there. And which faults it may have.
use Rattle.std.proofs.Common.{◌≡◌, true, false, true≢false, ℕ, List, Option, Some, None, inl, inr, refl, sym, ap, subst, ◌∙◌}
use Rattle.std.specs.Prelude.{Result, Ok, Err, IsSome, is_some}
use Rattle.desk.specs.Files.{Files}
use Rattle.job_file.specs.Documents.{JobValues}
use Rattle.part_input.specs.Causes.{unread, unwritten, wanting, elsewhere}
use Rattle.part_input.specs.Jobs.{TakesJob, ReadsJob, TakesReadJob}
use Rattle.part_input.specs.Steps.{AnswersOf, AnswersSteps}
use Rattle.part_input.specs.declared.fault.Input.{Input as Which}
use Rattle.part_input.specs.declared.fault.Fault.TheVariants.{ReadFault, Job as JobUnread}
use Rattle.part_input.proofs.Causes.{unread_only, wanting_only}
use Rattle.part_input.proofs.Singles.{same_fault}
use Rattle.part_input.proofs.There.{never_then, not_read, job_there, part_there}
use Rattle.put_texts.proofs.Runs.{IsLawful, IsOfSteps}
use Rattle.piece_verify.specs.declared.check.Verdict.{Verdict}
use Rattle.detail_view.specs.Faults.{cause_of, pieces_faults}
use Rattle.detail_view.specs.inner.Steps.{HasNoWriteFault}
use Rattle.detail_view.specs.Run.{AnswersPiecesWords, ChecksBy, Checks, Details, Given, HasFiles, HasVerdict, HasView, NamesNoFile, IsOfCheck, IsOfDetail, RunsInOrder, RunsPieces, TakesPart, TakesReadList, TakesViewed, listed, viewed, pieces_task}
use Rattle.detail_view.specs.Steps.{Lifted, Yields}
use Rattle.detail_view.specs.Words.{Asked, Check, Detail, checks, details}
use Rattle.detail_view.specs.declared.fault.PiecesFault.{PiecesFault}
use Rattle.detail_view.specs.declared.fault.PiecesFault.TheVariants.{Usage, Input, NoView, ReadList, ListTooLong, List as Unlisted, WriteFault, Memory}
use Rattle.detail_view.proofs.Decided.{AreAlike, run_decided}

-- ---- the answer
given_alike : (x : Given) (r : Result Given PiecesFault) → AreAlike (Ok x) r → AnswersOf pieces_faults r None
given_alike x (Ok y) h = inl refl
given_alike x (Err e) h = absurd h

refused_alike : (e : PiecesFault) (r : Result Given PiecesFault) → AreAlike (Err e) r → AnswersOf pieces_faults r (Some e)
refused_alike e (Ok y) h = absurd h
refused_alike e (Err d) h = inl (ap Some h)

short : (e : PiecesFault) → e ≡ Memory → (r : Result Given PiecesFault) → AnswersOf pieces_faults r (Some e)
short e m (Ok y) = inr (ap Some m)
short e m (Err d) = inr (ap Some m)

settled : (asked : Option Asked) (files : Files) (fault : Option PiecesFault) → IsOfSteps (pieces_task asked) files fault → AnswersSteps pieces_faults (RunsPieces asked files) fault
settled asked files None (x, is) r also = given_alike x r (run_decided asked files (Ok x) r is also)
settled asked files (Some e) (inl is) r also = refused_alike e r (run_decided asked files (Err e) r is also)
settled asked files (Some e) (inr m) r also = short e m r

-- ---- faults of the desk
short_alone : (f : PiecesFault) → cause_of f ≡ wanting → f ≡ Memory
short_alone Memory is = refl
short_alone ReadList is = absurd (wanting_only unread is)
short_alone (Input (ReadFault which)) is = absurd (wanting_only unread is)
short_alone WriteFault is = absurd (wanting_only unwritten is)
short_alone f is = absurd (wanting_only elsewhere is)

read_only : (P : PiecesFault → Type 0) → ((which : Which) → P (Input (ReadFault which))) → P ReadList → (f : PiecesFault) → cause_of f ≡ unread → P f
read_only P r l ReadList is = l
read_only P r l (Input (ReadFault which)) is = r which
read_only P r l WriteFault is = absurd (unread_only unwritten is)
read_only P r l Memory is = absurd (unread_only wanting is)
read_only P r l f is = absurd (unread_only elsewhere is)

-- ---- files that are there
module _ (files : Files) where
  job_never : (name : List ℕ) (which : Which) → IsSome (files name) → TakesReadJob files (Some name) (Err (ReadFault which)) → ⊥
  job_never name which there =
      never_then (TakesJob files (Some name)) ReadsJob (ReadFault which) (job_there files which (Some name) there) (λ bytes h. not_read which (JobUnread h.0) refl h.1)

  -- a list that is there is none of these faults
  abbrev IsOfListFile : PiecesFault → Type 0
  IsOfListFile ListTooLong = Unit {0}
  IsOfListFile (Unlisted fault) = Unit {0}
  IsOfListFile fault = ⊥

  list_fault : (name : List ℕ) → IsSome (files name) → (e : PiecesFault) → TakesReadList files name (Err e) → IsOfListFile e
  list_fault name there e (inl (inl (_, none))) = let no : false ≡ true = ap is_some (sym none) ∙ there in absurd (true≢false (sym no))
  list_fault name there e (inl (inr (same, _))) = subst IsOfListFile (sym same) tt
  list_fault name there e (inr (bytes, _, (fault, same, _))) = subst IsOfListFile (sym same) tt

  checks_never : (c : Check) → HasFiles files (Some (checks c)) → (f : PiecesFault) → cause_of f ≡ unread → Checks files c (Err f) → ⊥
  checks_never c (job, part, list) f is h =
      read_only (λ (f : PiecesFault). Checks files c (Err f) → ⊥)
      (λ which. never_then (Lifted (TakesReadJob files (Some c.job))) (ChecksBy files c) (Input (ReadFault which)) (job_never c.job which job)
      (λ values. never_then (TakesPart files c.part values) (λ p. Yields (listed values p) (TakesReadList files c.list)) (Input (ReadFault which))
      (part_there files which c.part values.decimals values.unit part) (λ p. list_fault c.list list (Input (ReadFault which)))))
      (never_then (Lifted (TakesReadJob files (Some c.job))) (ChecksBy files c) ReadList (λ h. h)
      (λ values. never_then (TakesPart files c.part values) (λ p. Yields (listed values p) (TakesReadList files c.list)) ReadList (λ h. h) (λ p. list_fault c.list list ReadList)))
      f is h

  view_never : (view : ℕ) (values : JobValues) (which : Which) → HasView view values (Err (Input (ReadFault which))) → ⊥
  view_never view values which (same, _) = cc

  details_never : (d : Detail) → HasFiles files (Some (details d)) → (f : PiecesFault) → cause_of f ≡ unread → Details files d (Err f) → ⊥
  details_never d (job, part) f is h =
      read_only (λ (f : PiecesFault). Details files d (Err f) → ⊥)
      (λ which. never_then (TakesViewed files d) (λ values. Yields (viewed values) (TakesPart files d.part values)) (Input (ReadFault which))
      (never_then (Lifted (TakesReadJob files (Some d.job))) (HasView d.view) (Input (ReadFault which)) (job_never d.job which job) (λ values. view_never d.view values which))
      (λ values. part_there files which d.part values.decimals values.unit part))
      (never_then (TakesViewed files d) (λ values. Yields (viewed values) (TakesPart files d.part values)) ReadList
      (never_then (Lifted (TakesReadJob files (Some d.job))) (HasView d.view) ReadList (λ h. h) (λ values h. list_no_view d.view h.0)) (λ values h. h))
      f is h
    where
      list_no_view : (view : ℕ) → ReadList ≡ NoView view → ⊥
      list_no_view view same = cc

never : (asked : Option Asked) (files : Files) → HasFiles files asked → (f : PiecesFault) → cause_of f ≡ unread → RunsPieces asked files (Err f) → ⊥
never None files there f is h = read_only (λ (f : PiecesFault). f ≡ Usage → ⊥) (λ which same. cc) (λ same. cc) f is (same_fault {A = Given} f Usage h)
never (Some (checks c)) files there f is h = checks_never files c there f is h
never (Some (details d)) files there f is h = details_never files d there f is h

none_unread : (asked : Option Asked) → NamesNoFile asked → (f : PiecesFault) → cause_of f ≡ unread → AnswersPiecesWords asked (Some f) → ⊥
none_unread None none f is words = read_only (λ (f : PiecesFault). AnswersPiecesWords None (Some f) → ⊥) (λ which h. h) (λ h. h) f is words
none_unread (Some asked) none f is words = none

-- want of memory comes anywhere
pub memory_in_order : (asked : Option Asked) (files : Files) → RunsInOrder asked files Memory
memory_in_order None files = tt
memory_in_order (Some (checks c)) files = tt
memory_in_order (Some (details d)) files = tt

pub lawful : (asked : Option Asked) → IsLawful (pieces_task asked)
lawful asked = record {
  is_wanting = refl;
  alone = short_alone;
  may_want = tt;
  want_in_order = memory_in_order asked;
  settled = settled asked;
  no_reading = none_unread asked;
  there = never asked;
}

-- ---- the words
module _ (c : Check) where
  check_no_usage : IsOfCheck c Usage → ⊥
  check_no_usage (inl h) = h
  check_no_usage (inr (inl h)) = h
  check_no_usage (inr (inr h)) = h

  check_no_write : IsOfCheck c WriteFault → ⊥
  check_no_write (inl h) = h
  check_no_write (inr (inl h)) = h
  check_no_write (inr (inr h)) = h

  pub check_may : (e : PiecesFault) → IsOfCheck c e → AnswersPiecesWords (Some (checks c)) (Some e)
  check_may Usage h = absurd (check_no_usage h)
  check_may Memory h = tt
  check_may WriteFault h = refl
  check_may e h = h

  pub check_unwritten : (e : PiecesFault) → IsOfCheck c e → HasNoWriteFault (Some e)
  check_unwritten WriteFault h = absurd (check_no_write h)
  check_unwritten (Input (ReadFault which)) h = tt
  check_unwritten e h = tt

module _ (d : Detail) where
  detail_no_usage : IsOfDetail d Usage → ⊥
  detail_no_usage (inl h) = h
  detail_no_usage (inr (inl h)) = h
  detail_no_usage (inr (inr h)) = h

  detail_no_write : IsOfDetail d WriteFault → ⊥
  detail_no_write (inl h) = h
  detail_no_write (inr (inl h)) = h
  detail_no_write (inr (inr h)) = h

  pub detail_may : (e : PiecesFault) → IsOfDetail d e → AnswersPiecesWords (Some (details d)) (Some e)
  detail_may Usage h = absurd (detail_no_usage h)
  detail_may Memory h = tt
  detail_may WriteFault h = refl
  detail_may e h = h

  pub detail_unwritten : (e : PiecesFault) → IsOfDetail d e → HasNoWriteFault (Some e)
  detail_unwritten WriteFault h = absurd (detail_no_write h)
  detail_unwritten (Input (ReadFault which)) h = tt
  detail_unwritten e h = tt

-- with a fault no verdict is told
pub no_verdict : (asked : Option Asked) (fault : Option PiecesFault) (e : PiecesFault) (told : Option Verdict) → fault ≡ Some e → told ≡ None → HasVerdict asked fault (is_some told)
no_verdict asked fault e told is none =
    subst (λ (o : Option PiecesFault). HasVerdict asked o (is_some told)) (sym is) (subst (λ (o : Option Verdict). HasVerdict asked (Some e) (is_some o)) (sym none) (by asked))
  where
    by : (o : Option Asked) → HasVerdict o (Some e) false
    by None = refl
    by (Some (checks c)) = refl
    by (Some (details d)) = refl
