use Rattle.std.proofs.Common.{Ok, Err}
use Rattle.lattice.specs.Points.{of_corner}
use Rattle.part_text.proofs.Readings.{handed_on}
use Rattle.stl_reader.proofs.facets.read_corners.Goals as goal

pub returns-in_err-b-clause-step : goal.returns-in_err-b-clause-step
returns-in_err-b-clause-step c = (
  Ok (of_corner c.in_ok-a.a, c.read_corner.new.tokens.left),
  c.in_ok-a.ensures.step,
  (Err c.in_err-b.field-0.0, c.in_err-b.ensures.step, handed_on _ _ _ _ c.from_residual-in_err-b.ensures.1),
)

pub returns-in_err-c-clause-step : goal.returns-in_err-c-clause-step
returns-in_err-c-clause-step c = (
  Ok (of_corner c.in_ok-a.a, c.read_corner.new.tokens.left),
  c.in_ok-a.ensures.step,
  (
    Ok (of_corner c.in_ok-b.b, c.read_corner-2.new.tokens.left),
    c.in_ok-b.ensures.step,
    (Err c.in_err-c.field-0.0, c.in_err-c.ensures.step, handed_on _ _ _ _ c.from_residual-in_err-c.ensures.1),
  ),
)
