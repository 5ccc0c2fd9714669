use Rattle.std.proofs.Common.{◌≡◌, rules}
use Rattle.std.proofs.lemmas.Fn.{always_returns_same}
use Rattle.cross_find.specs.declared.meter.Crossing.{Crossing}
use Rattle.span_count.proofs.carry.ascending.Goals as goal

pub returns-clause-sorted : goal.returns-clause-sorted
returns-clause-sorted c = c.in_ok-sort_by_key.ensures.sorted (λ (x : Crossing). x.at) (always_returns_same _ (λ a r. r ≡ a.0.now.at) _ (λ a r q k. search rules))
