use Rattle.std.proofs.Common.{◌∙◌, ap, sym, Err, rules, FitsSigned, w64, to_z-of_z}
use Rattle.sheet_job.proofs.NumberLemmas.{none_outside, zero_direction}
use Rattle.sheet_job.proofs.numbers.direction.Goals as goal

pub returns-in-Err-ZeroDirection : goal.returns-in-Err-ZeroDirection
returns-in-Err-ZeroDirection c =
    let is = c.new.ensures.zero.0 (c.in-Err-ZeroDirection.is ∙ ap Err c.in-Err-ZeroDirection.field-0-is) in
    let x_fits : FitsSigned w64 c.args.x = search rules in
    let y_fits : FitsSigned w64 c.args.y = search rules in
    let z_fits : FitsSigned w64 c.args.z = search rules in
    sym (zero_direction c.args.x c.args.y c.args.z (simp to_z-of_z at is))

pub unreachable-requires : goal.unreachable-requires
unreachable-requires c =
    let is = (c.new.ensures.range c.in-Err-DirectionRange.field-0-0).0 (c.in-Err-DirectionRange.is ∙ ap Err c.in-Err-DirectionRange.field-0-is) in
    let x_fits : FitsSigned w64 c.args.x = search rules in
    let y_fits : FitsSigned w64 c.args.y = search rules in
    let z_fits : FitsSigned w64 c.args.z = search rules in
    none_outside c.in-Err-DirectionRange.field-0-0 c.args.x c.args.y c.args.z c.requires.x c.requires.y c.requires.z (simp to_z-of_z at is)
