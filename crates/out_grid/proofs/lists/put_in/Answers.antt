use Rattle.std.proofs.Common.{◌≡◌, ℕ, ◌<◌, List, [], ◌∷◌, ◌++◌, Result, Ok, Err, OnErr, length, get_or, set, sym, ap, ◌∙◌, arith, Vec, Global}
use Rattle.std.proofs.Math.Seq.{map-set_same}
use Rattle.std.proofs.lemmas.List.{map-set, get_or-map}
use Rattle.solid_mesh.specs.Stars.{lists_of}
use Rattle.out_grid.proofs.lists.put_in.Goals as goal

abbrev items_of : Vec ℕ Global → List ℕ
items_of list = list.items

-- a list with one number more, among the lists
one_more : (lists : List (Vec ℕ Global)) (k i : ℕ) (old new : Vec ℕ Global) → k < length lists → old ≡ get_or lists k old → new.items ≡ old.items ++ i ∷ []
    → lists_of (set lists k new) ≡ set (lists_of lists) k (get_or (lists_of lists) k [] ++ i ∷ [])
one_more lists k i old new within is e =
    map-set items_of lists k new ∙ ap (set (lists_of lists) k) (e ∙ ap (λ (xs : List ℕ). xs ++ i ∷ []) (ap items_of is ∙ sym (get_or-map items_of lists k old [] within)))

on_err : {T E P : Type 0} (r : Result T E) → P → OnErr r P
on_err (Ok x) p = tt
on_err (Err e) p = p

pub returns-clause-put : goal.returns-clause-put
returns-clause-put c = one_more c.args.cells.now.items c.args.cell c.args.outline c.index_mut.result.now c.push.new.self (omega (arith, c.args.cells.now.ok.0)) c.index_mut.ensures.value c.in_ok-push.ensures.items

pub returns-in_err-push-clause-kept : goal.returns-in_err-push-clause-kept
returns-in_err-push-clause-kept c =
    let old = c.index_mut.result.now in
    on_err c.from_residual.result (map-set_same items_of c.args.cells.now.items c.args.cell c.push.new.self old (c.in_err-push.ensures.items ∙ ap items_of c.index_mut.ensures.value))
