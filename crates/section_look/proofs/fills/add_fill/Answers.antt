use Rattle.std.proofs.Common.{inl, inr, refl}
use Rattle.section_look.proofs.fills.add_fill.Goals as goal

pub returns-then-not-thin : goal.returns-then-not-thin
returns-then-not-thin c place at = inr (c.if-not-thin.true, refl)

pub returns : goal.returns
returns c place at = inl (c.in_ok-fill_of.field-0, c.if-not-thin.false, c.in_ok-fill_of.ensures place at, c.in_ok-push.ensures.items)
