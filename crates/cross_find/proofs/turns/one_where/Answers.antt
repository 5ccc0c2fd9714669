use Rattle.std.proofs.Common.{true≢false, sym, ◌∙◌}
use Rattle.hiding_laws.specs.inner.Tallies.{yes, no}
use Rattle.cross_find.proofs.turns.one_where.Goals as goal

pub returns-then-so-clause-tally : goal.returns-then-so-clause-tally
returns-then-so-clause-tally c = yes c.if-so.true

pub returns-else-so-clause-tally : goal.returns-else-so-clause-tally
returns-else-so-clause-tally c = no (λ h. true≢false (sym h ∙ c.if-so.false))
