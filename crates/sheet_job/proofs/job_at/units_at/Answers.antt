use Rattle.std.proofs.Common.{◌∙◌, ap, Err, rules, FitsSigned, w32, to_z-of_z}
use Rattle.sheet_job.proofs.NumberLemmas.{length_is_number, units_size}
use Rattle.sheet_job.proofs.job_at.units_at.Goals as goal

pub unreachable-requires : goal.unreachable-requires
unreachable-requires c =
    let is = (c.fixed.ensures.not_a_number c.in-Err-NotANumber.field-0-0).0 (c.in-Err-NotANumber.is ∙ ap Err c.in-Err-NotANumber.field-0-is) in
    is.0 (length_is_number c.args.word.now c.requires.number)

pub returns-in-Ok-clause-value : goal.returns-in-Ok-clause-value
returns-in-Ok-clause-value c =
    let fits : FitsSigned w32 c.in-Ok.units = search rules in
    simp to_z-of_z ((c.fixed.ensures.ok c.in-Ok.units).0 c.in-Ok.is)

pub returns-in-Ok-clause-size : goal.returns-in-Ok-clause-size
returns-in-Ok-clause-size c =
    let fits : FitsSigned w32 c.in-Ok.units = search rules in
    let is = (c.fixed.ensures.ok c.in-Ok.units).0 c.in-Ok.is in
    simp to_z-of_z (units_size c.args.decimals c.args.unit c.args.word.now is.0 c.in-Ok.units is.1 is.2)

pub returns-in-Err-TooLarge-clause-value : goal.returns-in-Err-TooLarge-clause-value
returns-in-Err-TooLarge-clause-value c = c.fixed.ensures.too_large.0 (c.in-Err-TooLarge.is ∙ ap Err c.in-Err-TooLarge.field-0-is)
