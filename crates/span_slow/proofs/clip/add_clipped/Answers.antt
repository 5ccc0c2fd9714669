use Rattle.span_slow.proofs.Numbered.{on_ok}
use Rattle.span_slow.proofs.clip.add_clipped.Goals as goal

pub returns : goal.returns
returns c = on_ok c.add_span.result (λ added. (c.later-from.result, c.earlier-to.result, c.later-from.ensures.which, c.earlier-to.ensures.which, added)) c.add_span.ensures
