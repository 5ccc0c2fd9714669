use Rattle.sheet_plan.proofs.Roots.{root_of-is}
use Rattle.sheet_plan.proofs.numbers.shortening.Goals as goal

pub returns-clause-value : goal.returns-clause-value
returns-clause-value c = root_of-is _ _ c.isqrt.ensures.at_most c.isqrt.ensures.greatest
