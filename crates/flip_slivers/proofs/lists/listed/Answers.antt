use Rattle.std.proofs.Common.{◌<◌, length, ap, ◌∙◌, arith}
use Rattle.flip_slivers.specs.inner.Lists.{lists_of, listed_at}
use Rattle.flip_slivers.proofs.ListLemmas.{listed_there}
use Rattle.flip_slivers.proofs.lists.listed.Goals as goal

pub returns : goal.returns
returns c =
    let below : c.number_of.result < length c.args.lists.now = omega (arith, c.requires, c.number_of.ensures.within) in
    c.deref.ensures.value ∙ listed_there c.args.lists.now c.number_of.result c.index-lists-number_of.result below c.index-lists-number_of.is ∙ ap (listed_at (lists_of c.args.lists.now)) c.number_of.ensures.value
