use Rattle.std.proofs.Common.{List, ℕ, Option, sym, subst}
use Rattle.sheet_input.specs.Answers.{GivesSheet}
use Rattle.sheet_input.specs.Jobs.{TakesAnyJob}
use Rattle.sheet_input.specs.Seen.{any_seen}
use Rattle.sheet_input.proofs.jobs.take_any_job.Goals as goal

pub returns-in-None-clause-answer : goal.returns-in-None-clause-answer
returns-in-None-clause-answer g c =
    λ told.
    let files = (g.D.Desk.state c.args.desk.now).files in
    let P : Option (List ℕ) → Type 0 = λ name. GivesSheet any_seen (TakesAnyJob files name) c.usual.result in
    subst P (sym c.in-None.is) (c.usual.ensures.answer files)

pub returns-in-None-clause-usual : goal.returns-in-None-clause-usual
returns-in-None-clause-usual g c =
    λ none files.
    let P : Option (List ℕ) → Type 0 = λ name. GivesSheet any_seen (TakesAnyJob files name) c.usual.result in
    subst P (sym c.in-None.is) (c.usual.ensures.answer files)
