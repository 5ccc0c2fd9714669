use Rattle.std.proofs.Common.{arith, rules}
use Rattle.std.proofs.lemmas.Fn.{filter_same}
use Rattle.flip_slivers.proofs.ListLemmas.{is_other, taken}
use Rattle.flip_slivers.proofs.lists.take_out.Goals as goal

pub returns : goal.returns
returns c =
    taken c.args.lists.now.items c.args.number c.args.place c.index_mut.result.now c.retain.new.self (omega (arith, c.args.lists.now.ok.0)) c.index_mut.ensures.value
    (filter_same _ (is_other c.args.place) _ (λ x b f' k. search rules) _ _ c.retain.ensures.filtered)
