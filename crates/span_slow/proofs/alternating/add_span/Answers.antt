use Rattle.std.proofs.Common.{refl, inl}
use Rattle.span_slow.proofs.alternating.add_span.Goals as goal

pub returns-in_ok-push : goal.returns-in_ok-push
returns-in_ok-push c = inl (c.is_earlier.ensures.0 c.if-is_earlier.true, (_, (refl, refl), (refl, refl), refl, c.in_ok-push.ensures.items))
