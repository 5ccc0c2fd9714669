use Rattle.std.proofs.Common.{◌∙◌, sym}
use Rattle.std.specs.Prelude.{◌*ℤ◌}
use Rattle.std.specs.Ordering.{int_cmp, is_lt}
use Rattle.integers.proofs.Orders.{equal_of_cmp}
use Rattle.cut_count.proofs.SectionLefts.{less_of_lt, level_told}
use Rattle.cut_count.proofs.border.has_greater_left.Goals as goal

pub returns-in-Equal : goal.returns-in-Equal
returns-in-Equal c =
    let second = c.upward.ensures.ratio in
    let first = c.upward-2.ensures.ratio in
    let same = equal_of_cmp _ _ (sym c.cmp.ensures ∙ c.in-Equal.is) in
    let left = c.across.ensures.ratio in
    let right = c.across-in-Equal.ensures.ratio in
    level_told _ _ _ _ c.lt.result (sym (λ i. second.num i *ℤ first.den i) ∙ same ∙ (λ i. first.num i *ℤ second.den i))
    (less_of_lt _ _ c.lt.result (c.lt.ensures ∙ (λ i. is_lt (int_cmp (left.num i *ℤ right.den i) (right.num i *ℤ left.den i)))))
