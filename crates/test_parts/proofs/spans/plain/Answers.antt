use Rattle.test_parts.proofs.spans.plain.Goals as goal

pub spans_slow-requires-clause-seen : goal.spans_slow-requires-clause-seen
spans_slow-requires-clause-seen c e numbered = c.is_seen.ensures.seen c.if-is_seen.true e numbered
