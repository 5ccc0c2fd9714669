use Rattle.std.proofs.Common.{◌≡◌, subst, sym, arith, to_z, of_z}
use Rattle.std.specs.Prelude.{ℤ, pos, ◌-ℤ◌, ◌*ℤ◌, ◌≤ℤ◌}
use Rattle.std.specs.Int.{w32}
use Rattle.std.proofs.lemmas.Int.{ints, to_z-of_z}
use Rattle.solid_mesh.proofs.PassingLemmas.{product_is, rising, falling}
use Rattle.solid_mesh.proofs.passing.least_product.Goals as goal

pub returns-then-factor-lt0-clause-least : goal.returns-then-factor-lt0-clause-least
returns-then-factor-lt0-clause-least c n h =
    let k = c.args.factor in
    let o = c.args.origin in
    let r = c.args.range.now in
    let sign : c.args.factor ≤ℤ pos 0 = omega (arith, ints) in
    let whole : to_z w32 (of_z w32 r.to) ≡ r.to = omega (arith, ints) in
    let is = product_is k r.to o c.product.ensures.size c.product.ensures.value (to_z-of_z w32 k c.ranges.factor) whole (to_z-of_z w32 o c.ranges.origin) in
    subst (λ (z : ℤ). z ≤ℤ (k *ℤ (n -ℤ o))) (sym is) (falling k n r.to o sign h.to)

pub returns-clause-least : goal.returns-clause-least
returns-clause-least c n h =
    let k = c.args.factor in
    let o = c.args.origin in
    let r = c.args.range.now in
    let sign : pos 0 ≤ℤ c.args.factor = omega (arith, ints) in
    let whole : to_z w32 (of_z w32 r.from) ≡ r.from = omega (arith, ints) in
    let is = product_is k r.from o c.product-2.ensures.size c.product-2.ensures.value (to_z-of_z w32 k c.ranges.factor) whole (to_z-of_z w32 o c.ranges.origin) in
    subst (λ (z : ℤ). z ≤ℤ (k *ℤ (n -ℤ o))) (sym is) (rising k r.from n o sign h.from)
