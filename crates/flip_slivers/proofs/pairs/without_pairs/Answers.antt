use Rattle.std.proofs.Common.{ap, ◌∙◌}
use Rattle.flip_slivers.specs.Pairs.{alone}
use Rattle.flip_slivers.proofs.PairLemmas.{without}
use Rattle.flip_slivers.proofs.pairs.without_pairs.Goals as goal

pub returns : goal.returns
returns c =
    without c.args.triangles.now c.in_ok-left.left.items c.in_ok-partners.partners.items c.in_ok-partners.ensures.partners c.in_ok-partners.ensures.others
    (c.in_ok-left.ensures ∙ ap (alone c.args.triangles.now) c.deref.ensures.value)
