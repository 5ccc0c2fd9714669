use Rattle.std.proofs.Common.{◌∙◌}
use Rattle.solid_mesh.specs.Solids.{solid_part}
use Rattle.sheet_input.proofs.LaidOut.{laid_for}
use Rattle.sheet_input.proofs.laid.laid_out.Goals as goal

pub returns-in-Ok-lay_out-clause-laid : goal.returns-in-Ok-lay_out-clause-laid
returns-in-Ok-lay_out-clause-laid c =
    laid_for c.args.job.now (solid_part c.args.solid.now).corners c.args.wish c.deref.result.now (c.deref.ensures.value ∙ c.in-Ok.ensures.sides) c.in-Ok-lay_out.layout
    (record {
      laid = c.in-Ok-lay_out.ensures.laid;
      apart = c.in-Ok-lay_out.ensures.apart;
      in_frame = c.in-Ok-lay_out.ensures.in_frame;
      in_line = c.in-Ok-lay_out.ensures.in_line;
      beside = c.in-Ok-lay_out.ensures.beside;
      places = c.in-Ok-lay_out.ensures.places;
    })
