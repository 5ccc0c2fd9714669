use Rattle.std.proofs.Common.{refl, rules}
use Rattle.detail_view.proofs.inputs.list_of.Goals as goal

pub returns-in-Err-List-clause-answer : goal.returns-in-Err-List-clause-answer
returns-in-Err-List-clause-answer c = (c.in-Err-List.fault, refl, c.read_list.ensures.fault c.in-Err-List.fault (search rules))
