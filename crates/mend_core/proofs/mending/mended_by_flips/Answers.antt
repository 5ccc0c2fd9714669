use Rattle.geometry.specs.Parts.{part_of}
use Rattle.mend_core.specs.Mending.{Mends}
use Rattle.mend_core.specs.Seen.{made_seen}
use Rattle.mend_core.specs.inner.Repairs.{ChecksRepair, Repairs, repair_of}
use Rattle.mend_core.proofs.Repairing.{gives_as, mends, none_left}
use Rattle.part_input.proofs.Chains.{refuses_as}
use Rattle.mend_core.proofs.mending.mended_by_flips.Goals as goal

pub returns-in-Ok-clause-answer : goal.returns-in-Ok-clause-answer
returns-in-Ok-clause-answer c =
    let given = part_of c.args.soup in
    let repaired = repair_of c.in-Ok.repair in
    gives_as (ChecksRepair repaired) (Mends c.args.limit given) (mends c.args.limit given c.requires.unsound repaired c.in-Ok.ensures.answer) made_seen c.checked.result c.checked.ensures.answer

pub returns-in-Err-clause-answer : goal.returns-in-Err-clause-answer
returns-in-Err-clause-answer c =
    let given = part_of c.args.soup in
    refuses_as (Repairs c.args.limit given) (Mends c.args.limit given) (none_left c.args.limit given c.requires.unsound) c.in-Err.fault c.in-Err.ensures.answer
