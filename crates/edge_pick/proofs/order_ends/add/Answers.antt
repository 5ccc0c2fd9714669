use Rattle.std.proofs.Common.{◌≡◌, ℕ, ◌<◌, List, [], ◌∷◌, ◌++◌, length, get_or, set, sym, ap, ◌∙◌, arith}
use Rattle.std.proofs.lemmas.List.{map-set, get_or-map}
use Rattle.smallvec.specs.SmallVec.{SmallVec}
use Rattle.edge_pick.specs.declared.order.DrawnEnd.{DrawnEnd}
use Rattle.edge_pick.specs.inner.Searches.{lists_of}
use Rattle.edge_pick.proofs.order_ends.add.Goals as goal

abbrev items_of : SmallVec DrawnEnd → List DrawnEnd
items_of ends = ends.items

-- a corner's ends with one more, among the lists
one_more : (lists : List (SmallVec DrawnEnd)) (k : ℕ) (end : DrawnEnd) (old new : SmallVec DrawnEnd) → k < length lists → old ≡ get_or lists k old → new.items ≡ old.items ++ end ∷ []
    → lists_of (set lists k new) ≡ set (lists_of lists) k (get_or (lists_of lists) k [] ++ end ∷ [])
one_more lists k end old new within is e =
    map-set items_of lists k new ∙ ap (set (lists_of lists) k) (e ∙ ap (λ (xs : List DrawnEnd). xs ++ end ∷ []) (ap items_of is ∙ sym (get_or-map items_of lists k old [] within)))

pub returns-clause-added : goal.returns-clause-added
returns-clause-added c = one_more c.args.lists.now.items c.args.corner c.args.end c.index_mut.result.now c.push.new.self (omega (arith, c.args.lists.now.ok.0)) c.index_mut.ensures.value c.in_ok-push.ensures.ok
