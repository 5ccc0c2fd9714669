use Rattle.std.proofs.Common.{below_more, arith}
use Rattle.std.proofs.lemmas.Bool.{false≢true}
use Rattle.std.proofs.lemmas.Option.{slice_get-get_or}
use Rattle.flip_slivers.specs.inner.Lists.{lists_of}
use Rattle.flip_slivers.proofs.PairLemmas.{none_free, listed_within}
use Rattle.flip_slivers.proofs.pairs.partner_of.Goals as goal

pub is_free_partner-requires : goal.is_free_partner-requires
is_free_partner-requires c = record {
  for_each = c.requires.for_each;
  place = c.requires.place;
  other = listed_within c.args.triangles.now (lists_of c.args.lists.now) _ c.listed-places.result.now c.requires.listed c.listed-places.ensures c.loop-other.other-index 0 c.loop-other-test.true;
}

pub loop-other-preserved : goal.loop-other-preserved
loop-other-preserved c = below_more _ _ c.loop-other.invariant (λ free. false≢true (c.if-is_free_partner.ensures.1 free))

pub returns : goal.returns
returns c = record {
  some = tt;
  none = λ _. none_free c.args.triangles.now c.args.partners.now (lists_of c.args.lists.now) c.listed-places.result.now c.args.place _ c.requires.listed
      (slice_get-get_or c.args.triangles.now c.args.place (record { a = 0; b = 0; c = 0 }) c.requires.place) c.listed-places.ensures (λ q below. c.loop-other.invariant q (omega arith));
}
