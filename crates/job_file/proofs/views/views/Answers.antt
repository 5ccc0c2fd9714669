use Rattle.std.proofs.Common.{rules}
use Rattle.job_file.proofs.ListLemmas.{values_in-items}
use Rattle.job_file.proofs.views.views.Goals as goal

pub returns-in-Some-as_array-clause-value : goal.returns-in-Some-as_array-clause-value
returns-in-Some-as_array-clause-value c = search (rules, values_in-items)
