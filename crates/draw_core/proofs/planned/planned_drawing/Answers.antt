use Rattle.std.proofs.Common.{refl}
use Rattle.job_file.specs.Seen.{job_seen}
use Rattle.solid_mesh.specs.Solids.{solid_part}
use Rattle.part_input.proofs.OneSheet.{refused_sheet}
use Rattle.drawing.proofs.Planned.{has_places, planned}
use Rattle.draw_core.proofs.planned.planned_drawing.Goals as goal

pub drawing_on-requires : goal.drawing_on-requires
drawing_on-requires c = has_places c.args.job (solid_part c.args.solid).corners c.in-Ok.sheet c.in-Ok.ensures.sheet

pub returns-in-Err-clause-answer : goal.returns-in-Err-clause-answer
returns-in-Err-clause-answer c = refused_sheet c.args.job (solid_part c.args.solid) c.in-Err.fault c.in-Err.ensures.none

pub returns-in-Ok-drawing_on-clause-answer : goal.returns-in-Ok-drawing_on-clause-answer
returns-in-Ok-drawing_on-clause-answer c =
    let of = c.in-Ok-drawing_on.ensures.of in
    ((λ i. record { job = job_seen (of.1 i); part = solid_part (of.0 i) }), (c.args.job, refl, c.in-Ok.sheet, c.in-Ok.ensures.sheet))

pub returns-in-Ok-drawing_on-clause-shows : goal.returns-in-Ok-drawing_on-clause-shows
returns-in-Ok-drawing_on-clause-shows c =
    planned c.in-Ok-drawing_on.made.drawing c.args.solid c.args.job c.in-Ok.sheet c.in-Ok-drawing_on.ensures.of c.in-Ok.ensures.sheet c.in-Ok-drawing_on.ensures.shows
