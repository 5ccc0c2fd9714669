-- A run has an answer, for all words and files.
use Rattle.std.proofs.Common.{◌≡◌, ℕ, Option, Some, None, Ok, Err, refl}
use Rattle.dec_text.specs.declared.number.Length.TheVariants.{Millimetre}
use Rattle.desk.specs.Files.{Files}
use Rattle.geometry.specs.Parts.{Part}
use Rattle.part_input.specs.Parts.{sample_size}
use Rattle.part_input.specs.Steps.{HasAnswer}
use Rattle.part_input.specs.declared.fault.Fault.TheVariants.{Usage}
use Rattle.part_input.proofs.SomeSteps.{Any, HasAnswerSuch, IsProper, some_and_then, some_answer, some_soup_or}
use Rattle.mend_core.specs.Mending.{Mends}
use Rattle.mend_core.specs.Run.{TakesPart, MendsPart, Takes, RunsMend}
use Rattle.mend_core.proofs.SomeMending.{some_mending}
use Rattle.mend_words.specs.Names.{Asks, Named, help, version, mend}

module _ (files : Files) where
  some_part : (named : Named) → HasAnswerSuch IsProper (TakesPart files named)
  some_part named = some_soup_or files named.part named.decimals Millimetre (sample_size named.part)

  -- up to the part that is mended
  pub some_taken : (asked : Option Asks) → HasAnswer (Takes asked files)
  some_taken None = (Err Usage, refl)
  some_taken (Some help) = (Ok None, refl)
  some_taken (Some version) = (Ok None, refl)
  some_taken (Some (mend named)) =
      some_answer Any (Takes (Some (mend named)) files)
      (some_and_then IsProper Any (TakesPart files named) (λ part answer. answer ≡ Ok (Some part)) (some_part named) (λ part _. (Ok (Some part), (refl, tt))))

  some_mended : (limit : ℕ) (part : Part) → IsProper part → HasAnswerSuch Any (Mends limit part)
  some_mended limit part (in_range, some) = by (some_mending limit part in_range some)
    where
      by : HasAnswer (Mends limit part) → HasAnswerSuch Any (Mends limit part)
      by (Ok made, is) = (Ok made, (is, tt))
      by (Err fault, is) = (Err fault, (is, tt))

  some_made : (named : Named) → HasAnswerSuch Any (MendsPart files named)
  some_made named = some_and_then IsProper Any (TakesPart files named) (Mends named.limit) (some_part named) (some_mended named.limit)

  -- a run gives a part that was made, or nothing where none is asked for, or a refusal
  pub some_run : (asked : Option Asks) → HasAnswer (RunsMend asked files)
  some_run None = (Err Usage, refl)
  some_run (Some help) = (Ok None, refl)
  some_run (Some version) = (Ok None, refl)
  some_run (Some (mend named)) =
      some_answer Any (RunsMend (Some (mend named)) files)
      (some_and_then Any Any (MendsPart files named) (λ made answer. answer ≡ Ok (Some made)) (some_made named) (λ made _. (Ok (Some made), (refl, tt))))
