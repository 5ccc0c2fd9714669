-- Numbers that rise do not come again.
use Rattle.std.proofs.Common.{◌≡◌, ℕ, ◌<◌, List, Contains, length, get_or, take, arith}
use Rattle.std.specs.List.Sorted.{IsStrictlyIncreasing}
use Rattle.std.proofs.lemmas.List.{get_or-take, get_or_default, length-take-le}
use Rattle.std.proofs.lemmas.List.Kept.{AllPairs-from_increasing}

pub fresh : (xs : List ℕ) → IsStrictlyIncreasing xs → (k : ℕ) → k < length xs → Contains (take k xs) (get_or xs k 0) → ⊥
fresh xs up k inside (j, l, e) =
    let v = get_or xs k 0 in
    let below : j < k = omega (arith, l, length-take-le k xs (omega (arith, inside))) in
    let less : get_or xs j v < get_or xs k v = AllPairs-from_increasing xs up j k v below inside in
    let before : get_or (take k xs) j v ≡ get_or xs j v = get_or-take k xs j v below in
    let this : get_or xs k 0 ≡ get_or xs k v = get_or_default xs k 0 v inside in
    omega (arith, less, before, this, e)
