-- A run has an answer, for all words and files.
use Rattle.std.proofs.Common.{◌≡◌, ℕ, List, Option, Some, None, Ok, Err, refl}
use Rattle.std.specs.Global.{Global}
use Rattle.desk.specs.Files.{Files}
use Rattle.part_input.specs.Steps.{HasAnswer}
use Rattle.part_input.specs.declared.fault.Fault.TheVariants.{Usage}
use Rattle.part_input.proofs.SomeSteps.{HasAnswerSuch, Any, some_and_then, some_answer}
use Rattle.sheet_input.specs.Steps.{DrawsSheet}
use Rattle.sheet_input.specs.declared.fault.SheetFault.TheVariants.{Common}
use Rattle.sheet_input.proofs.SomeDrawing.{some_drawn_sheet}
use Rattle.sheet_core.proofs.SaidTitles.{asked_proper}
use Rattle.sheet_core.specs.Run.{RunsSheet}
use Rattle.sheet_words.specs.Names.{Asks, Named, asked_by, help, version, sheet}
use Rattle.sheet_words.specs.Titles.{IsProper}

module _ (alloc : Global) (files : Files) where
  some_drawing : (asked : Option Asks) → ((n : Named) → asked ≡ Some (sheet n) → IsProper n.said.title) → HasAnswerSuch Any (RunsSheet asked files)
  some_drawing None proper = (Err (Common Usage), (refl, tt))
  some_drawing (Some help) proper = (Ok None, (refl, tt))
  some_drawing (Some version) proper = (Ok None, (refl, tt))
  some_drawing (Some (sheet named)) proper =
      some_and_then Any Any (DrawsSheet files named) (λ drawn answer. answer ≡ Ok (Some drawn)) (some_drawn_sheet alloc files named (proper named refl)) (λ drawn _. (Ok (Some drawn), (refl, tt)))

  -- a run gives something to draw, or nothing where none is asked for, or a refusal
  pub some_run : (words : List (List ℕ)) → HasAnswer (RunsSheet (asked_by words) files)
  some_run words = some_answer Any (RunsSheet (asked_by words) files) (some_drawing (asked_by words) (asked_proper words))
