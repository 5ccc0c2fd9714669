use Rattle.std.proofs.Common.{◌≡◌, ◌∙◌, ◌^◌, ℤ, arith}
use Rattle.std.specs.Prelude.{pos, ◌-ℤ◌, ◌*ℤ◌}
use Rattle.std.specs.Int.{w64, w128}
use Rattle.std.proofs.lemmas.Int.{ints}
use Rattle.integers.proofs.Worth.{known, pass}
use Rattle.lattice.specs.Triple.{dot}
use Rattle.lattice.specs.Points.{of_corner}
use Rattle.lattice.specs.Cuts.{plane_of, toward_of, level_of}
use Rattle.span_slow.proofs.cut_seen.below.Goals as goal

-- twice the height below the place that the cut names, less one
twice : (l h : ℤ) → (pos 2 *ℤ (l -ℤ h)) -ℤ pos 1 ≡ (((pos 2 *ℤ l) -ℤ pos 1) *ℤ pos 1) -ℤ (pos 2 *ℤ h)
twice l h = omega (arith, ints)

pub returns-clause-value : goal.returns-clause-value
returns-clause-value c =
    let q = plane_of c.args.cut.now in
    let down = (pass w64 (known c.down.result (2 ^ 21) c.down.ensures.size) tt).is ∙ c.down.ensures.value in
    (pass w128 (known c.doubled.result (2 ^ 23) c.doubled.ensures.size) tt).is ∙ c.doubled.ensures.value ∙ (λ i. (pos 2 *ℤ down i) -ℤ pos 1) ∙ twice (level_of q) (dot (toward_of q) (of_corner c.args.p.now))
