use Rattle.std.proofs.Common.{◌∙◌, ap, Err, rules, FitsSigned, w64, to_z-of_z}
use Rattle.job_file.proofs.DirectionLemmas.{outside}
use Rattle.job_file.proofs.directions.direction.Goals as goal

pub returns-in-Err-DirectionRange : goal.returns-in-Err-DirectionRange
returns-in-Err-DirectionRange c =
    let is = (c.new.ensures.range c.in-Err-DirectionRange.axis).0 (c.in-Err-DirectionRange.is ∙ ap Err c.in-Err-DirectionRange.field-0-is) in
    let x_fits : FitsSigned w64 c.args.numbers.x = search rules in
    let y_fits : FitsSigned w64 c.args.numbers.y = search rules in
    let z_fits : FitsSigned w64 c.args.numbers.z = search rules in
    outside c.args.number c.in-Err-DirectionRange.axis c.args.numbers.x c.args.numbers.y c.args.numbers.z (simp to_z-of_z at is)
