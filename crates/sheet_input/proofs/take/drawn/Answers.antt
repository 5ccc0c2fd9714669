use Rattle.solid_mesh.specs.Solids.{solid_part}
use Rattle.sheet_input.proofs.LaidOut.{drawn_for, has_places, laid_drawing, layout_given, on_its_paper, refused_sheet}
use Rattle.sheet_input.proofs.take.drawn.Goals as goal

pub drawing_on-requires : goal.drawing_on-requires
drawing_on-requires c =
    let corners = (solid_part c.args.settled.solid).corners in
    let layout = c.in-Ok.layout in
    has_places c.job_for-job.result corners c.args.wish layout (drawn_for c.args.settled.job c.job_for-job.result corners c.args.wish layout c.job_for-job.ensures.same c.in-Ok.ensures.laid)

pub returns-in-Err-clause-answer : goal.returns-in-Err-clause-answer
returns-in-Err-clause-answer c = refused_sheet c.args.settled.job (solid_part c.args.settled.solid) c.args.wish c.in-Err.refusal.fault c.in-Err.ensures.refused

pub returns-in-Ok-drawing_on-clause-answer : goal.returns-in-Ok-drawing_on-clause-answer
returns-in-Ok-drawing_on-clause-answer c =
    let of = c.in-Ok-drawing_on.ensures.of in
    layout_given c.in-Ok-drawing_on.made.drawing c.args.settled.solid c.args.settled.job c.job_for-job.result c.args.wish c.in-Ok.layout of.0 of.1 c.job_for-job.ensures.value c.in-Ok.ensures.laid

pub returns-in-Ok-drawing_on-clause-shows : goal.returns-in-Ok-drawing_on-clause-shows
returns-in-Ok-drawing_on-clause-shows c =
    let corners = (solid_part c.args.settled.solid).corners in
    let layout = c.in-Ok.layout in
    let laid = drawn_for c.args.settled.job c.job_for-job.result corners c.args.wish layout c.job_for-job.ensures.same c.in-Ok.ensures.laid in
    let paper = on_its_paper c.args.settled.job c.job_for-job.result c.args.wish layout c.job_for-job.ensures.same c.in-Ok.ensures.on_paper in
    laid_drawing c.in-Ok-drawing_on.made.drawing c.args.settled.solid c.job_for-job.result c.args.wish layout c.in-Ok-drawing_on.ensures.of laid paper c.in-Ok-drawing_on.ensures.shows
