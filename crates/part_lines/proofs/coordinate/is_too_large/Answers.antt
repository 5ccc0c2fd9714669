use Rattle.std.proofs.Common.{refl, ap, ◌∙◌}
use Rattle.std.specs.Prelude.{Err}
use Rattle.part_lines.proofs.coordinate.is_too_large.Goals as goal

pub returns-in-Err-TooLarge : goal.returns-in-Err-TooLarge
returns-in-Err-TooLarge c = ((λ _. c.fixed.ensures.too_large.0 (c.in-Err-TooLarge.is ∙ ap Err c.in-Err-TooLarge.field-0-is)), (λ _. refl))
