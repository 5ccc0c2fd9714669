use Rattle.std.proofs.Common.{◌≡◌, ℕ, ◌<◌, List, [], ◌∷◌, ◌++◌, length, get_or, set, sym, ap, ◌∙◌, arith, Vec, Global}
use Rattle.std.proofs.lemmas.List.{map-set, get_or-map}
use Rattle.solid_mesh.specs.Stars.{lists_of}
use Rattle.solid_mesh.proofs.stars.add.Goals as goal

abbrev items_of : Vec ℕ Global → List ℕ
items_of star = star.items

-- a star with one number more, among the lists
one_more : (stars : List (Vec ℕ Global)) (k i : ℕ) (old new : Vec ℕ Global) → k < length stars → old ≡ get_or stars k old → new.items ≡ old.items ++ i ∷ []
    → lists_of (set stars k new) ≡ set (lists_of stars) k (get_or (lists_of stars) k [] ++ i ∷ [])
one_more stars k i old new within is e =
    map-set items_of stars k new ∙ ap (set (lists_of stars) k) (e ∙ ap (λ (xs : List ℕ). xs ++ i ∷ []) (ap items_of is ∙ sym (get_or-map items_of stars k old [] within)))

pub returns-clause-added : goal.returns-clause-added
returns-clause-added c = one_more c.args.stars.now.items c.args.corner c.args.tri c.index_mut.result.now c.push.new.self (omega (arith, c.args.stars.now.ok.0)) c.index_mut.ensures.value c.in_ok-push.ensures.items
