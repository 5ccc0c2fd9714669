use Rattle.std.proofs.Common.{ℕ, ◌<◌, length, List, None, sym, ap, ◌∙◌, subst, arith}
use Rattle.std.proofs.lemmas.Option.{slice_get_within}
use Rattle.std.proofs.Common.{Vec, Global}
use Rattle.flip_slivers.specs.inner.Lists.{lists_of, IsListed}
use Rattle.flip_slivers.proofs.PairLemmas.{none_paired, more_alone}
use Rattle.flip_slivers.proofs.pairs.find_partners.Goals as goal

pub loop-place-init : goal.loop-place-init
loop-place-init c = record {
  partners = none_paired c.args.triangles.now c.in_ok-partners.partners.items c.in_ok-partners.ensures;
  others = λ k h. absurd (omega arith);
}

pub loop-place-preserved : goal.loop-place-preserved
loop-place-preserved c = record {
  partners = c.pair_up.ensures.partners;
  others = more_alone c.args.triangles.now c.loop-place.partners.items c.pair_up.new.partners.items c.loop-place.place c.pair_up.ensures.fewer c.loop-place.invariant.others c.pair_up.ensures.alone;
}

pub pair_up-requires : goal.pair_up-requires
pair_up-requires c =
    let P : List (Vec ℕ Global) → Type 0 = λ a. IsListed c.args.triangles.now (lists_of a) in
    record {
      partners = c.loop-place.invariant.partners;
      count = ap length c.deref.ensures.value ∙ c.in_ok-lists.ensures.count;
      listed = subst P (sym c.deref.ensures.value) c.in_ok-lists.ensures.listed;
      place = c.loop-place-test.true;
    }

pub returns : goal.returns
returns c = record {
  partners = c.loop-place.invariant.partners;
  others = λ i at. let within : i < length c.loop-place.partners.items = slice_get_within c.loop-place.partners.items i None at in c.loop-place.invariant.others i (omega (arith, c.loop-place.invariant.partners.for_each)) at;
}
