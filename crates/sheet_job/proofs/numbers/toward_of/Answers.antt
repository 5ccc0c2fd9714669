use Rattle.std.proofs.Common.{arith}
use Rattle.sheet_job.proofs.NumberLemmas.{too_few, too_many}
use Rattle.sheet_job.proofs.numbers.toward_of.Goals as goal

pub returns-in_default : goal.returns-in_default
returns-in_default c = too_few c.args.items.now (omega (arith, c.in_default.len_below))

pub returns-in_default-2 : goal.returns-in_default-2
returns-in_default-2 c = too_many c.args.items.now (omega (arith, c.in_default.len_at_least))
