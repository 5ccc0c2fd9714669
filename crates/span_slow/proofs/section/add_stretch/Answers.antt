use Rattle.std.proofs.Common.{inl}
use Rattle.span_slow.proofs.section.add_stretch.Goals as goal

pub returns-in_ok-push : goal.returns-in_ok-push
returns-in_ok-push c e numbered = inl ((c.is_in_section.ensures e numbered).0 c.if-is_in_section.true, c.in_ok-push.ensures.items)
