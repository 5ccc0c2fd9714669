use Rattle.std.proofs.Common.{rules, ◌≡◌, ◌<◌, ◌^◌, ℤ, arith, false, FitsSigned, to_z, of_z, ◌∙◌}
use Rattle.std.specs.Prelude.{pos, ◌*ℤ◌, ◌<ℤ◌, unsigned_abs}
use Rattle.std.specs.Ordering.{int_cmp, is_lt}
use Rattle.std.specs.Int.{w128}
use Rattle.std.proofs.lemmas.Int.{ints, to_z-of_z}
use lib.Signed.{le_z}
use Rattle.integers.proofs.Worth.{Reads, known, below, via, pass, times}
use Rattle.edge_pick.proofs.Creases.{by_ratios}
use Rattle.edge_pick.proofs.edges.turns.Goals as goal

above : (p : ℤ) → le_z p (pos 0) ≡ false → pos 0 <ℤ p
above p h = grind (arith, ints)

pub returns : goal.returns
returns c =
    let f = c.args.fraction in
    let p = c.args.product in
    let b = c.args.right in
    let p_fits : FitsSigned w128 p = search rules in
    let a_fits : FitsSigned w128 c.args.left = search rules in
    let p_read : Reads (to_z w128 (of_z w128 p)) p (2 ^ 88) = pass w128 (below p (2 ^ 88) c.requires.product_in_range) tt in
    let b_read : Reads (to_z w128 (of_z w128 b)) b (2 ^ 88) = pass w128 (below b (2 ^ 88) c.requires.right_in_range) tt in
    let f_small : unsigned_abs (pos f) < 2 ^ 32 = omega (arith, c.ranges.fraction.fits) in
    let f_read : Reads (to_z w128 (of_z w128 c.from.result)) (pos f) (2 ^ 32) = pass w128 (via c.from.ensures (below (pos f) (2 ^ 32) f_small)) tt in
    let million : Reads (pos 1000000) (pos 1000000) (2 ^ 20) = known (pos 1000000) (2 ^ 20) (omega arith) in
    let den = pass w128 (times million p_read) tt in
    let num = pass w128 (times f_read b_read) tt in
    let left = to_z-of_z w128 c.args.left a_fits in
    by_ratios (pos f) p c.args.left b c.lt.result (above p (simp to_z-of_z at c.if-product-le0.false))
    (c.lt.ensures ∙ (λ i. is_lt (int_cmp (p_read.is i *ℤ den.is i) (num.is i *ℤ left i))))
