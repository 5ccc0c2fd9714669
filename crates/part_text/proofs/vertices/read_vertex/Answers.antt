use Rattle.std.proofs.Common.{Ok, Err}
use Rattle.part_text.proofs.Readings.{handed_on}
use Rattle.part_text.proofs.vertices.read_vertex.Goals as goal

pub returns-in_err-z-clause-step : goal.returns-in_err-z-clause-step
returns-in_err-z-clause-step c = (
  Ok (c.in_ok-x.x, c.read_coordinate.new.tokens.left),
  c.in_ok-x.ensures.step,
  (
    Ok (c.in_ok-y.y, c.read_coordinate-2.new.tokens.left),
    c.in_ok-y.ensures.step,
    (Err c.in_err-z.field-0.0, c.in_err-z.ensures.step, handed_on _ _ _ _ c.from_residual-in_err-z.ensures.1),
  ),
)
