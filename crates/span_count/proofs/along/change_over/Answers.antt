use Rattle.std.proofs.Common.{◌+◌, ◌<◌, ◌^◌, FitsSigned, to_z, w8, w64, sym, subst, arith, rules}
use Rattle.std.specs.Prelude.{pos, ◌+ℤ◌}
use Rattle.std.proofs.lemmas.Int.{ints}
use Rattle.cross_find.specs.declared.meter.Crossing.{Crossing}
use Rattle.span_count.proofs.CarriedCounts.{AreSums, sums_none, sums_more, sums_all, sums_small, in_byte, addend, sum_fits, sum_read}
use Rattle.span_count.proofs.along.change_over.Goals as goal

pub loop-x-init : goal.loop-x-init
loop-x-init c = record { on_left = sums_none (λ (y : Crossing). y.left) c.args.crossings.now (pos 0); on_right = sums_none (λ (y : Crossing). y.right) c.args.crossings.now (pos 0) }

pub overflow_add-left : goal.overflow_add-left
overflow_add-left c =
    let f : FitsSigned w8 c.x-item.result.left = search rules in
    let few : c.loop-x.x-index < 2 ^ 32 = omega arith in
    subst (λ z. FitsSigned w64 (to_z w64 c.loop-x.left-bits +ℤ z)) (sym (addend c.x-item.result.left c.from-left.result c.from-left.ensures f))
    (sum_fits (λ (y : Crossing). y.left) c.args.crossings.now (pos 0) c.loop-x.x-index (to_z w64 c.loop-x.left-bits) c.x-item.result.left c.loop-x.invariant.on_left (omega (arith, ints), omega (arith, ints)) few f)

pub overflow_add-right : goal.overflow_add-right
overflow_add-right c =
    let f : FitsSigned w8 c.x-item.result.right = search rules in
    let few : c.loop-x.x-index < 2 ^ 32 = omega arith in
    subst (λ z. FitsSigned w64 (to_z w64 c.loop-x.right-bits +ℤ z)) (sym (addend c.x-item.result.right c.from-right.result c.from-right.ensures f))
    (sum_fits (λ (y : Crossing). y.right) c.args.crossings.now (pos 0) c.loop-x.x-index (to_z w64 c.loop-x.right-bits) c.x-item.result.right c.loop-x.invariant.on_right (omega (arith, ints), omega (arith, ints)) few f)

pub loop-x-preserved : goal.loop-x-preserved
loop-x-preserved c =
    let xs = c.args.crossings.now in
    let k = c.loop-x.x-index in
    let x = c.x-item.result in
    let l = to_z w64 c.loop-x.left-bits in
    let r = to_z w64 c.loop-x.right-bits in
    let few : k < 2 ^ 32 = omega arith in
    let fits_l : FitsSigned w8 x.left = search rules in
    let fits_r : FitsSigned w8 x.right = search rules in
    let is_l = sum_read l x.left c.from-left.result c.from-left.ensures fits_l (sum_fits (λ (y : Crossing). y.left) xs (pos 0) k l x.left c.loop-x.invariant.on_left (omega (arith, ints), omega (arith, ints)) few fits_l) in
    let is_r = sum_read r x.right c.from-right.result c.from-right.ensures fits_r (sum_fits (λ (y : Crossing). y.right) xs (pos 0) k r x.right c.loop-x.invariant.on_right (omega (arith, ints), omega (arith, ints)) few fits_r) in
    record {
      on_left = subst (AreSums (λ (y : Crossing). y.left) xs (pos 0) (k + 1)) (sym is_l)
          (sums_more (λ (y : Crossing). y.left) xs (pos 0) k l c.loop-x.invariant.on_left x c.loop-x-test.true (sym c.x-item.is) (in_byte x.left fits_l).0 (in_byte x.left fits_l).1);
      on_right = subst (AreSums (λ (y : Crossing). y.right) xs (pos 0) (k + 1)) (sym is_r)
          (sums_more (λ (y : Crossing). y.right) xs (pos 0) k r c.loop-x.invariant.on_right x c.loop-x-test.true (sym c.x-item.is) (in_byte x.right fits_r).0 (in_byte x.right fits_r).1);
    }

pub returns-clause-left : goal.returns-clause-left
returns-clause-left c = sums_all (λ (y : Crossing). y.left) c.args.crossings.now c.loop-x.x-index (to_z w64 c.loop-x.left-bits) c.loop-x.invariant.on_left c.loop-x-test.false

pub returns-clause-right : goal.returns-clause-right
returns-clause-right c = sums_all (λ (y : Crossing). y.right) c.args.crossings.now c.loop-x.x-index (to_z w64 c.loop-x.right-bits) c.loop-x.invariant.on_right c.loop-x-test.false

pub returns-clause-small : goal.returns-clause-small
returns-clause-small c =
    let few : c.loop-x.x-index < 2 ^ 32 = omega (arith, c.loop-x.auto.x-index-end, c.requires.few) in
    record {
      left = sums_small (λ (y : Crossing). y.left) c.args.crossings.now c.loop-x.x-index (to_z w64 c.loop-x.left-bits) c.loop-x.invariant.on_left few;
      right = sums_small (λ (y : Crossing). y.right) c.args.crossings.now c.loop-x.x-index (to_z w64 c.loop-x.right-bits) c.loop-x.invariant.on_right few;
    }
