use Rattle.std.proofs.Common.{subst}
use Rattle.lattice.specs.Triple.{Triple}
use Rattle.geometry.specs.Views.{IsEndOn}
use Rattle.test_parts.proofs.spans.cut.Goals as goal

pub spans_slow-requires-clause-seen : goal.spans_slow-requires-clause-seen
spans_slow-requires-clause-seen c e numbered = subst (λ (d : Triple). ¬ IsEndOn d e) c.dir.ensures (c.is_seen.ensures.seen c.if-is_seen.true e numbered)
