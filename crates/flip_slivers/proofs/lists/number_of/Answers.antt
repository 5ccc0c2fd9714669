use Rattle.std.proofs.Common.{rules}
use Rattle.flip_slivers.specs.inner.Lists.{list_number}
use Rattle.flip_slivers.proofs.lists.number_of.Goals as goal

pub returns-clause-value : goal.returns-clause-value
unfolding list_number
returns-clause-value c = search rules
