use Rattle.geometry.proofs.EachPart.{has_edges, few_in_plain, few_with_traces, few_with_borders}
use Rattle.geometry.proofs.ordinary_but_few.Goals as goal

pub returns-clause-edges : goal.returns-clause-edges
returns-clause-edges c = has_edges

pub returns-clause-plain : goal.returns-clause-plain
returns-clause-plain c = few_in_plain

pub returns-clause-traces : goal.returns-clause-traces
returns-clause-traces c = few_with_traces

pub returns-clause-borders : goal.returns-clause-borders
returns-clause-borders c = few_with_borders
