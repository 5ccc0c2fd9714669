use Rattle.std.proofs.Common.{sym, subst, ◌∙◌}
use Rattle.covered_paths.specs.Splits.{ArePlaces}
use Rattle.covered_paths.proofs.PlaceSizes.{are_places}
use Rattle.covered_paths.proofs.covering.is_covered_by.Goals as goal

pub is_covered_from-requires-clause-places : goal.is_covered_from-requires-clause-places
is_covered_from-requires-clause-places c = subst ArePlaces (sym (c.deref.ensures.value ∙ c.in_ok-places.ensures)) (are_places c.args.leg.now c.args.near.now)
