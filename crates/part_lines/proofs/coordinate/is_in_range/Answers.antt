use Rattle.std.proofs.Common.{refl, sym, ◌∙◌, true≢false}
use Rattle.part_lines.proofs.Numbers.{err_in_range}
use Rattle.part_lines.proofs.coordinate.is_in_range.Goals as goal

pub returns-in-Ok : goal.returns-in-Ok
returns-in-Ok c = ((λ _. let h = (c.fixed.ensures.ok c.in-Ok.field-0).0 c.in-Ok.is in (h.0, h.1)), (λ _. refl))

pub returns-in-Err : goal.returns-in-Err
returns-in-Err c = ((λ h. absurd (true≢false (sym h))), (λ h. absurd (err_in_range c.in-Err.field-0 _ (sym c.in-Err.is ∙ (c.fixed.ensures.ok _).1 (h.0, h.1, refl)))))
