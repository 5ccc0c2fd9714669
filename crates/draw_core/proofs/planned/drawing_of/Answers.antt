use Rattle.std.proofs.Common.{inl, refl}
use Rattle.std.specs.Prelude.{Result, Err, None}
use Rattle.job_file.specs.Seen.{job_seen}
use Rattle.solid_mesh.specs.Solids.{solid_part}
use Rattle.part_input.specs.declared.fault.Fault.{Fault}
use Rattle.part_input.proofs.Answered.{given, undisturbed}
use Rattle.drawing.specs.Drawing.{drawn_in}
use Rattle.part_input.specs.Sheets.{PlansSheet}
use Rattle.drawing.specs.declared.drawn.Drawing.{Drawing}
use Rattle.part_input.proofs.OneSheet.{plan_single, sheet_no_desk}
use Rattle.draw_core.proofs.planned.drawing_of.Goals as goal

pub returns-in-Ok-clause-complete : goal.returns-in-Ok-clause-complete
returns-in-Ok-clause-complete c =
    let job = job_seen c.args.job in
    let part = solid_part c.args.solid in
    given (PlansSheet job part) (plan_single job part) (drawn_in c.in-Ok.made.drawing) None c.in-Ok.ensures.answer (inl refl)

pub returns-in-Err-clause-complete : goal.returns-in-Err-clause-complete
returns-in-Err-clause-complete c =
    let job = job_seen c.args.job in
    let part = solid_part c.args.solid in
    let r : Result Drawing Fault = Err c.in-Err.fault in
    undisturbed (PlansSheet job part) (plan_single job part) drawn_in r (sheet_no_desk r c.in-Err.ensures.of_sheet) c.in-Err.ensures.answer
