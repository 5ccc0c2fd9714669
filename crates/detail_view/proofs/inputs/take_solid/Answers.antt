use Rattle.std.proofs.Common.{sym, subst}
use Rattle.job_file.specs.Seen.{job_seen}
use Rattle.part_input.specs.Parts.{TakesSolid}
use Rattle.detail_view.specs.Steps.{Lifted}
use Rattle.detail_view.specs.inner.Steps.{Refuses}
use Rattle.detail_view.proofs.Chains.{lift_refused, part_no_writing}
use Rattle.detail_view.proofs.inputs.take_solid.Goals as goal

pub returns-in-Err-clause-answer : goal.returns-in-Err-clause-answer
returns-in-Err-clause-answer g c = λ told.
    let job = job_seen c.args.job.now in
    let steps = TakesSolid (g.D.Desk.state c.args.desk.now).files c.args.name.now job.decimals job.unit in
    subst (Refuses (Lifted steps)) (sym c.fault_of.ensures) (lift_refused steps c.in-Err.fault (part_no_writing c.args.name.now c.in-Err.fault c.in-Err.ensures.of_part) (c.in-Err.ensures.answer told))
