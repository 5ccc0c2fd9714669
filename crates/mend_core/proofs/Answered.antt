-- What is asked of a run of `mend`: an answer of its steps answers to what it takes, and they miss no file that is there.
use Rattle.std.proofs.Common.{◌≡◌, inl, inr, ℕ, List, Option, Some, None, IsSome, Result, Ok, Err, refl, sym, ap, subst}
use Rattle.dec_text.specs.declared.number.Length.TheVariants.{Millimetre}
use Rattle.desk.specs.Files.{Files}
use Rattle.geometry.specs.Parts.{Part}
use Rattle.mend_core.specs.Mending.{Made, Mends, IsPartRefused}
use Rattle.mend_core.specs.Run.{AnswersMendWords, AnswersTaken, HasFilesAsked, IsAnswerTo, IsOfNamed, IsOfSurface, NamesNoFile, MendsPart, RunsMend, Takes, TakesPart, mend_task}
use Rattle.mend_core.proofs.OneAnswer.{one_taking}
use Rattle.mend_words.specs.Names.{Asks, Named, help, version, mend}
use Rattle.part_input.specs.Parts.{IsOfSoupOr, sample_size}
use Rattle.part_input.specs.declared.fault.Fault.{Fault}
use Rattle.part_input.specs.declared.fault.Fault.TheVariants.{Usage, ReadFault, Nothing, Mesh, Memory}
use Rattle.part_input.specs.declared.fault.Input.{Input}
use Rattle.part_input.proofs.Causes.{memory_alone, read_only}
use Rattle.part_input.proofs.Singles.{not_both, same_fault}
use Rattle.part_input.proofs.There.{never_then, not_read, soup_there}
use Rattle.put_texts.proofs.Runs.{IsLawful, IsOfSteps}

-- ---- answers
-- a refusal of the surface is one for its surface
surface : (limit : ℕ) (given : Part) (e : Fault) → IsPartRefused limit given e → IsOfSurface e
surface limit given e (inl (same, _)) = subst IsOfSurface (sym same) tt
surface limit given e (inr (fault, same, _)) = subst IsOfSurface (sym same) tt

-- what answers to one thing that was taken answers to each
by_taken : (asked : Option Asks) (files : Files) (r s : Result (Option Part) Fault) → Takes asked files r → Takes asked files s → (fault : Option Fault) → AnswersTaken r fault → AnswersTaken s fault
by_taken asked files r s a b fault h = subst (λ (t : Result (Option Part) Fault). AnswersTaken t fault) (one_taking asked files r s a b) h

-- want of memory
short_of : (r : Result (Option Part) Fault) → AnswersTaken r (Some Memory)
short_of (Ok None) = inr refl
short_of (Ok (Some part)) = inr (inl refl)
short_of (Err e) = inr refl

-- something was made
some_of : (o : Option Part) → AnswersTaken (Ok o) None
some_of None = inl refl
some_of (Some part) = inl refl

taken : (asked : Option Asks) (files : Files) (x : Option Made) → RunsMend asked files (Ok x) → (o : Option Part) × Takes asked files (Ok o)
taken None files x h = absurd (not_both x Usage h)
taken (Some help) files x h = (None, refl)
taken (Some version) files x h = (None, refl)
taken (Some (mend named)) files x (made, (part, read, mended), same) = (Some part, (part, read, refl))

-- a refusal
not_given : {A : Type 0} (x : A) (e : Fault) → Err e ≡ Ok x → ⊥
not_given x e h = not_both x e (sym h)

refused : (asked : Option Asks) (files : Files) (e : Fault) → RunsMend asked files (Err e) → IsAnswerTo (Takes asked files) (Some e)
refused None files e h r also =
    let no : Option Made = None in
    let is : e ≡ Usage = same_fault {A = Option Made} e Usage h in
    by_taken None files (Err e) r (ap Err is) also (Some e) (inl refl)
refused (Some help) files e h r also = absurd (not_given None e h)
refused (Some version) files e h r also = absurd (not_given None e h)
refused (Some (mend named)) files e (inl (inl h)) r also = by_taken (Some (mend named)) files (Err e) r (inl h) also (Some e) (inl refl)
refused (Some (mend named)) files e (inl (inr (part, read, (unsound, why)))) r also =
    by_taken (Some (mend named)) files (Ok (Some part)) r (part, read, refl) also (Some e) (inr (inr (unsound, surface named.limit part e why)))
refused (Some (mend named)) files e (inr (made, _, h)) r also = absurd (not_given (Some made) e h)

answered : (asked : Option Asks) (files : Files) (fault : Option Fault) → IsOfSteps (mend_task asked) files fault → IsAnswerTo (Takes asked files) fault
answered asked files None (x, is) r also = let (o, so) = taken asked files x is in by_taken asked files (Ok o) r so also None (some_of o)
answered asked files (Some e) (inl h) r also = refused asked files e h r also
answered asked files (Some e) (inr want) r also = subst (λ (f : Fault). AnswersTaken r (Some f)) (sym want) (short_of r)

-- ---- files that are there
mends_no_reading : (limit : ℕ) (given : Part) (input : Input) → IsPartRefused limit given (ReadFault input) → ⊥
mends_no_reading limit given input (inl (same, _)) = not_read input Nothing refl same
mends_no_reading limit given input (inr (fault, same, _)) = not_read input (Mesh fault) refl same

never_missing_part : (files : Files) (named : Named) (input : Input) → HasFilesAsked files (Some (mend named)) → MendsPart files named (Err (ReadFault input)) → ⊥
never_missing_part files named input there =
    never_then (TakesPart files named) (Mends named.limit) (ReadFault input) (soup_there files input (sample_size named.part) named.part named.decimals Millimetre there)
    (λ part h. mends_no_reading named.limit part input h.1)

never_missing : (asked : Option Asks) (files : Files) (input : Input) → HasFilesAsked files asked → RunsMend asked files (Err (ReadFault input)) → ⊥
never_missing None files input there h = not_read input Usage refl (same_fault {A = Option Made} (ReadFault input) Usage h)
never_missing (Some help) files input there h = not_given None (ReadFault input) h
never_missing (Some version) files input there h = not_given None (ReadFault input) h
never_missing (Some (mend named)) files input there (inl h) = never_missing_part files named input there h
never_missing (Some (mend named)) files input there (inr (made, _, h)) = not_given (Some made) (ReadFault input) h

-- ---- words that name no file
sample_unread : (size : Option (List ℕ)) → IsSome size → (input : Input) → IsOfSoupOr size (ReadFault input) → ⊥
sample_unread None is input h = absurd (cc)
sample_unread (Some size) is input h = h

named_unread : (named : Named) → IsSome (sample_size named.part) → (input : Input) → IsOfNamed named (ReadFault input) → ⊥
named_unread named is input (inl h) = sample_unread (sample_size named.part) is input h
named_unread named is input (inr h) = h.1

input_unread : (asked : Option Asks) → NamesNoFile asked → (input : Input) → AnswersMendWords asked (Some (ReadFault input)) → ⊥
input_unread None none input h = h
input_unread (Some help) none input h = h
input_unread (Some version) none input h = h
input_unread (Some (mend named)) none input h = named_unread named none input h

pub lawful : (asked : Option Asks) → IsLawful (mend_task asked)
lawful asked = record {
  is_wanting = refl;
  alone = memory_alone;
  may_want = tt;
  want_in_order = λ files. tt;
  settled = answered asked;
  no_reading = λ none f unread may. read_only (λ (f : Fault). AnswersMendWords asked (Some f) → ⊥) (λ input. input_unread asked none input) f unread may;
  there = λ files there f unread h. read_only (λ (f : Fault). RunsMend asked files (Err f) → ⊥) (λ input. never_missing asked files input there) f unread h;
}
