use Rattle.std.proofs.Common.{ℕ, ◌≡◌, ◌+◌, ◌*◌, ◌<◌, ◌≤◌, sym, subst}
use Rattle.std.specs.Prelude.{pos}
use Rattle.flip_slivers.specs.Heights.{IsRoundedUp}
use Rattle.flip_slivers.proofs.HeightLemmas.{rounded_exactly, rounded_past}
use Rattle.flip_slivers.proofs.heights.rise_of.Goals as goal

-- the product of the widened root
less : (r s t area side : ℕ) → s ≡ r → t ≡ r → (s * t) * side < area * 1048576 → (r * r) * side < area * 1048576
less r s t area side first second h =
    let P : ℕ → Type 0 = λ n. (n * t) * side < area * 1048576 in
    let Q : ℕ → Type 0 = λ n. (r * n) * side < area * 1048576 in
    subst Q second (subst P first h)

at_most : (r s t area side : ℕ) → s ≡ r → t ≡ r → area * 1048576 ≤ (s * t) * side → area * 1048576 ≤ (r * r) * side
at_most r s t area side first second h =
    let P : ℕ → Type 0 = λ n. area * 1048576 ≤ (n * t) * side in
    let Q : ℕ → Type 0 = λ n. area * 1048576 ≤ (r * n) * side in
    subst Q second (subst P first h)

pub returns-then-from-side-clause-rounded : goal.returns-then-from-side-clause-rounded
returns-then-from-side-clause-rounded c =
    let h = c.args.h.now in
    let side = c.from-side.result in
    let P : ℕ → Type 0 = λ n. IsRoundedUp (c.whole_root-root.result + 1) (pos h.area) (pos n) in
    subst P c.from-side.ensures
    (rounded_past c.whole_root-root.result h.area side
    (less c.whole_root-root.result c.from.result c.from-2.result h.area side c.from.ensures c.from-2.ensures c.if-from-side.true) c.whole_root-root.ensures.greatest)

pub returns-else-from-side-clause-rounded : goal.returns-else-from-side-clause-rounded
returns-else-from-side-clause-rounded c =
    let h = c.args.h.now in
    let side = c.from-side.result in
    let P : ℕ → Type 0 = λ n. IsRoundedUp c.whole_root-root.result (pos h.area) (pos n) in
    let Q : ℕ → Type 0 = λ n. 0 < n in
    subst P c.from-side.ensures
    (rounded_exactly c.whole_root-root.result h.area side (subst Q (sym c.from-side.ensures) c.requires.long) c.whole_root-root.ensures.at_most
    (at_most c.whole_root-root.result c.from.result c.from-2.result h.area side c.from.ensures c.from-2.ensures c.if-from-side.false))
