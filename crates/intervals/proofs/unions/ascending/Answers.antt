use Rattle.std.proofs.Common.{◌≡◌, rules}
use Rattle.std.proofs.lemmas.Fn.{always_returns_same}
use Rattle.intervals.specs.declared.interval.Interval.{Interval}
use Rattle.intervals.proofs.unions.ascending.Goals as goal

pub returns-clause-sorted : goal.returns-clause-sorted
returns-clause-sorted g c = c.in_ok-sort_by_key.ensures.sorted (λ (x : Interval g.row.T.Denot). x.from) (always_returns_same _ (λ a r. r ≡ a.0.now.from) _ (λ a r q k. search rules))
