-- A quotient that is rounded half up is nearest.
use Rattle.std.proofs.Common.{◌≡◌, ℕ, ◌*◌, ◌<◌, ◌≤◌, [], ◌∷◌, refl, subst, arith}
use Rattle.std.specs.Prelude.{ℤ, pos, ◌+ℤ◌, ◌-ℤ◌, ◌*ℤ◌, ◌≤ℤ◌, ◌<ℤ◌, unsigned_abs}
use Rattle.std.proofs.lemmas.Int.{ints}
use Rattle.integers.specs.Floors.{IsFloor, floor_of}
use Rattle.integers.proofs.Floors.{floor_of_quotient}
use Rattle.integers.proofs.Ring.{var, con, ◌⊗◌, ring}
use Rattle.length_text.specs.Inches.{IsNearest, inch_parts, inch_units}

within_half : (p u : ℤ) (i : ℕ) → (pos 2 *ℤ p) ≤ℤ ((pos 200000 *ℤ u) +ℤ pos i) → ((pos 200000 *ℤ u) +ℤ pos i) <ℤ ((pos 2 *ℤ p) +ℤ pos (2 * i))
    → 2 * unsigned_abs (p -ℤ (pos 100000 *ℤ u)) ≤ i
within_half p u i low high = omega (arith, ints, low, high)

doubled : (q inch : ℤ) → q *ℤ (pos 2 *ℤ inch) ≡ pos 2 *ℤ (inch *ℤ q)
doubled q inch = ring (q ∷ inch ∷ []) (var 0 ⊗ (con (pos 2) ⊗ var 1)) (con (pos 2) ⊗ (var 1 ⊗ var 0)) refl

positive : (i : ℕ) → 1 ≤ i → pos 0 <ℤ pos (2 * i)
positive i some = omega (arith, ints, some)

rounded : (q u : ℤ) (i : ℕ) → IsFloor q ((pos 200000 *ℤ u) +ℤ pos i) (pos (2 * i)) → 2 * unsigned_abs ((pos i *ℤ q) -ℤ (pos 100000 *ℤ u)) ≤ i
rounded q u i f =
    let same : q *ℤ pos (2 * i) ≡ pos 2 *ℤ (pos i *ℤ q) = doubled q (pos i) in
    let n = (pos 200000 *ℤ u) +ℤ pos i in
    within_half (pos i *ℤ q) u i
    (subst (λ (z : ℤ). z ≤ℤ n) same f.at_most)
    (subst (λ (z : ℤ). n <ℤ (z +ℤ pos (2 * i))) same f.rest_below)

pub nearest : (decimals : ℕ) (units parts : ℤ) → 1 ≤ inch_units decimals → parts ≡ inch_parts decimals units → IsNearest decimals units parts
nearest decimals units parts some is =
    let inch = inch_units decimals in
    rounded parts units inch (floor_of_quotient parts ((pos 200000 *ℤ units) +ℤ pos inch) (pos (2 * inch)) (positive inch some) is)
