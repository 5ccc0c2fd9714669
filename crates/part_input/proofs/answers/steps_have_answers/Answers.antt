use Rattle.part_input.specs.Jobs.{TakesReadJob}
use Rattle.part_input.specs.Parts.{TakesSoup, TakesSolid, sample_size}
use Rattle.part_input.specs.Sheets.{DrawsPart}
use Rattle.part_input.proofs.SomeSteps.{Any, AreValues, IsProper, some_answer, some_read_job, some_soup_or, some_solid, some_part_drawn}
use Rattle.part_input.proofs.answers.steps_have_answers.Goals as goal

pub returns-clause-jobs : goal.returns-clause-jobs
returns-clause-jobs c = λ files name. some_answer AreValues (TakesReadJob files name) (some_read_job c.args._alloc files name)

pub returns-clause-soups : goal.returns-clause-soups
returns-clause-soups c = λ files name decimals unit. some_answer IsProper (TakesSoup files name decimals unit) (some_soup_or files name decimals unit (sample_size name))

pub returns-clause-solids : goal.returns-clause-solids
returns-clause-solids c = λ files name decimals unit. some_answer IsProper (TakesSolid files name decimals unit) (some_solid files name decimals unit)

pub returns-clause-drawings : goal.returns-clause-drawings
returns-clause-drawings c = λ files part job. some_answer Any (DrawsPart files part job) (some_part_drawn c.args._alloc files part job)
