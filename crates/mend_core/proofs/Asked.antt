-- Which faults a part with names may have, and what a run with them answers.
use Rattle.std.proofs.Common.{◌≡◌, ◌⊎◌, inl, inr, ℕ, List, Option, Some, None, IfSome, IsSome, true, false, Result, Ok, Err, refl, sym, subst}
use Rattle.std.specs.Prelude.{IfErr}
use Rattle.std.specs.Result.{result_err}
use Rattle.dec_text.specs.declared.number.Length.TheVariants.{Millimetre}
use Rattle.desk.specs.Files.{Files, DeskState}
use Rattle.geometry.specs.Parts.{Part}
use Rattle.geometry.specs.Sound.{IsSound}
use Rattle.mend_core.specs.Hints.{IsToldFor, IsToldTo}
use Rattle.mend_core.specs.Lines.{mend_line}
use Rattle.mend_core.specs.Mending.{Made, Mends, IsOfMending}
use Rattle.mend_core.specs.Run.{AnswersMendWords, ComesTo, HasMended, IsOfNamed, RunsInOrder, TakesPart}
use Rattle.mend_core.specs.declared.lines.TheConstants.{MEMORY_LINE}
use Rattle.mend_core.specs.declared.made.Mended.{Mended}
use Rattle.mend_core.specs.declared.refusal.Refusal.{Refusal}
use Rattle.mend_core.specs.inner.Faults.{IsOfReading, IsOfWriting}
use Rattle.mend_core.specs.inner.Refusals.{faulted}
use Rattle.mend_words.specs.Names.{Asks, Named, help, version, mend}
use Rattle.part_input.specs.Causes.{cause_of, common, unread}
use Rattle.part_input.specs.Faults.{CountsReads}
use Rattle.part_input.specs.Parts.{IsOfSoupOr, TakesSoupOr, sample_size}
use Rattle.part_input.specs.Steps.{GivesInput, IsMissing, Refuses}
use Rattle.part_input.specs.declared.fault.Input.{Input}
use Rattle.part_input.specs.declared.fault.Input.TheVariants.{Job as TheJob, Part as ThePart}
use Rattle.part_input.specs.declared.fault.Fault.{Fault}
use Rattle.part_input.specs.declared.fault.Fault.TheVariants.{Usage, ReadFault, Part as Unread, Nothing, Mesh, WriteFault, Memory}
use Rattle.part_input.specs.declared.fault.Target.{Target}
use Rattle.part_input.proofs.Causes.{read_only}
use Rattle.part_lines.specs.declared.hint.PartHint.TheVariants.{Nothing as NoHint}
use Rattle.part_input.proofs.SoundSamples.{sample_is_sound}
use Rattle.put_texts.specs.Faults.{HasNoWriteFault, IsThereOf}
use Rattle.put_texts.proofs.Counting.{not_there}
use Rattle.solid_mesh.specs.Solids.{solid_part}
use Rattle.solid_mesh.proofs.Facts.{sound}

-- a fault of reading is told without more memory
pub of_reading : (e : Fault) → cause_of e ≡ unread → IsOfReading e
of_reading e is = read_only IsOfReading (λ input. tt) e is

-- ---- faults of reading and mending a part are none of the words and none of writing
soup_no_usage : (size : Option (List ℕ)) → IsOfSoupOr size Usage → ⊥
soup_no_usage None h = h
soup_no_usage (Some size) h = h

soup_no_write : (size : Option (List ℕ)) (target : Target) → IsOfSoupOr size (WriteFault target) → ⊥
soup_no_write None target h = h
soup_no_write (Some size) target h = h

soup_no_job : (size : Option (List ℕ)) → IsOfSoupOr size (ReadFault TheJob) → ⊥
soup_no_job None h = h
soup_no_job (Some size) h = h

soup_no_size : (size : Option (List ℕ)) → IsOfSoupOr size (ReadFault ThePart) → size ≡ None
soup_no_size None h = refl
soup_no_size (Some size) h = absurd h

module _ (named : Named) where
  no_usage : IsOfNamed named Usage → ⊥
  no_usage (inl h) = soup_no_usage (sample_size named.part) h
  no_usage (inr h) = h.1

  no_write : (target : Target) → IsOfNamed named (WriteFault target) → ⊥
  no_write target (inl h) = soup_no_write (sample_size named.part) target h
  no_write target (inr h) = h.1

  pub unwritten : (e : Fault) → IsOfNamed named e → HasNoWriteFault (Some e)
  unwritten (WriteFault target) h = absurd (no_write target h)
  unwritten e h = tt

  pub unmade : (e : Fault) → IsOfNamed named e → IsThereOf common (Some e) false
  unmade e h = not_there (cause_of e) (unwritten e h)

  pub answers_named : (e : Fault) → IsOfNamed named e → AnswersMendWords (Some (mend named)) (Some e)
  answers_named Usage h = absurd (no_usage h)
  answers_named Memory h = tt
  answers_named (WriteFault target) h = absurd (no_write target h)
  answers_named e h = h

  -- a fault of reading is that of the part
  comes : (input : Input) → IsOfNamed named (ReadFault input) → ComesTo named.part input
  comes TheJob (inl h) = soup_no_job (sample_size named.part) h
  comes TheJob (inr h) = h.1
  comes ThePart (inl h) = soup_no_size (sample_size named.part) h
  comes ThePart (inr h) = absurd h.1

  pub in_order : (e : Fault) → IsOfNamed named e → RunsInOrder (Some (mend named)) e
  in_order (ReadFault input) h = comes input h
  in_order e h = tt

  -- a part is there after each fault of writing it
  write_made : (e : Fault) → IsOfWriting named e → IsThereOf common (Some e) true
  write_made (WriteFault target) is = refl
  write_made Memory is = tt
  write_made e is = elim is [ ]

  pub written_of : (fault : Option Fault) → IfSome fault (IsOfWriting named) → IsThereOf common fault true
  written_of None is = refl
  written_of (Some e) is = write_made e is

  writing_may : (e : Fault) → IsOfWriting named e → AnswersMendWords (Some (mend named)) (Some e)
  writing_may (WriteFault target) is = is
  writing_may Memory is = tt
  writing_may e is = elim is [ ]

  pub may_of : (fault : Option Fault) → IfSome fault (IsOfWriting named) → AnswersMendWords (Some (mend named)) fault
  may_of None is = refl
  may_of (Some e) is = writing_may e is

  pub writing_in_order : (e : Fault) → IsOfWriting named e → RunsInOrder (Some (mend named)) e
  writing_in_order (WriteFault target) is = tt
  writing_in_order Memory is = tt
  writing_in_order e is = elim is [ ]

-- ---- what is told beside a fault
-- nothing beside one of mending, or of writing
mending_told : (named : Named) (old : DeskState) (e : Fault) → IsOfMending e → IsToldFor named old e NoHint
mending_told named old (Unread fault) h = absurd h
mending_told named old e h = refl

pub mend_told : {T : Type 0} (named : Named) (old : DeskState) (r : Result T Refusal) → IfErr (faulted r) IsOfMending → IfErr r (λ r. r.hint ≡ NoHint) → IfErr r (λ r. IsToldFor named old r.fault r.hint)
mend_told named old (Ok x) h none = tt
mend_told named old (Err refusal) h none = subst (IsToldFor named old refusal.fault) (sym none) (mending_told named old refusal.fault h)

pub writing_told : (named : Named) (old : DeskState) (e : Fault) → IsOfWriting named e → IsToldFor named old e NoHint
writing_told named old (Unread fault) h = absurd h
writing_told named old e h = refl

-- nor beside want of memory, whose line is the same in all runs
pub short_told : (named : Option Named) (old : DeskState) → IsToldTo named old Memory NoHint
short_told None old = refl
short_told (Some named) old = refl

pub short_line : (named : Option Named) → MEMORY_LINE.now ≡ mend_line named NoHint None Memory
short_line None = refl
short_line (Some named) = refl

-- ---- a sample is sound, so mending has no fault of it
module _ (named : Named) (part : Part) (made : IsSome (sample_size named.part) → (files : Files) → TakesPart files named (Ok part)) where
  abbrev MadeBy : Option (List ℕ) → Type 0
  MadeBy size = IsSome size → (files : Files) → TakesSoupOr size files named.part named.decimals Millimetre (Ok part)

  abbrev IsOf : Option (List ℕ) → Fault → Type 0
  IsOf size e = IsOfSoupOr size e ⊎ ((size ≡ None) × IsOfMending e)

  of_sample : (size : List ℕ) → MadeBy (Some size) → (IsSound part → ⊥) → ⊥
  of_sample size made unsound = unsound (sample_is_sound size part (made refl (λ file. None)))

  by_size : (size : Option (List ℕ)) → MadeBy size → (e : Fault) → IsOfMending e → Refuses (Mends named.limit part) e → IsOf size e
  by_size None made e h refused = inr (refl, h)
  by_size (Some size) made Nothing h refused = absurd (of_sample size made refused.0)
  by_size (Some size) made (Mesh fault) h refused = absurd (of_sample size made refused.0)
  by_size (Some size) made Memory h refused = inl tt
  by_size (Some size) made e h refused = absurd h

  pub mend_of_named : {T : Type 0} (view : T → Made) (r : Result T Fault) → IfErr r IsOfMending → GivesInput view (Mends named.limit part) r → IfErr r (IsOfNamed named)
  mend_of_named view (Ok x) h given = tt
  mend_of_named view (Err e) h given = by_size (sample_size named.part) made e h given

-- ---- the check of a surface is no reading
module _ {T : Type 0} where
  pub mend_counts : (r : Result T Fault) (old new : ℕ) → IfErr r IsOfMending → new ≡ old → CountsReads (result_err r) old new
  mend_counts (Ok x) old new h same = same
  mend_counts (Err (ReadFault input)) old new h same = absurd h
  mend_counts (Err e) old new h same = same

  pub mend_not_missing : {A : Type 0} (steps : Result A Fault → Type 0) (r : Result T Fault) → IfErr r IsOfMending → IfErr r (IsMissing steps)
  mend_not_missing steps (Ok x) h = tt
  mend_not_missing steps (Err (ReadFault input)) h = absurd h
  mend_not_missing steps (Err e) h = tt

-- each solid is sound
pub all_sound : (m : Option Mended) → IfSome m (λ m. IsSound (solid_part m.solid))
all_sound None = tt
all_sound (Some m) = sound m.solid

-- want of memory leaves no part where none was made
pub unmade_short : (asked : Option Asks) → HasMended asked (Some Memory) false
unmade_short None = refl
unmade_short (Some help) = refl
unmade_short (Some version) = refl
unmade_short (Some (mend named)) = tt
