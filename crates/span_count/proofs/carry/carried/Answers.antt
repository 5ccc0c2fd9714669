use Rattle.std.proofs.Common.{◌+◌, ◌<◌, ◌^◌, ℤ, ◌+ℤ◌, FitsSigned, to_z, of_z, w64, w8, sym, subst, arith, rules}
use Rattle.std.proofs.lemmas.Int.{to_z-of_z}
use Rattle.span_count.proofs.CarriedCounts.{AreCarriedUpTo, carried_none, carried_more, carried_all, in_byte, addend, sum_fits, sum_read}
use Rattle.geometry.proofs.SamePlaces.{same}
use Rattle.cross_find.specs.declared.meter.Crossing.{Crossing}
use Rattle.span_count.proofs.carry.carried.Goals as goal

pub add_span-requires-clause-from : goal.add_span-requires-clause-from
add_span-requires-clause-from c = c.loop-x.invariant.spans_right.place

pub loop-x-init : goal.loop-x-init
loop-x-init c =
    let l_fits : FitsSigned w64 c.args.first.left = search rules in
    let r_fits : FitsSigned w64 c.args.first.right = search rules in
    let at = λ (p q : ℤ). AreCarriedUpTo c.args.from c.args.to c.args.crossings.now c.args.first.left c.args.first.right 0 c.args.from p q c.new-spans.result.items in
    subst (λ p. at p (to_z w64 (of_z w64 c.args.first.right))) (sym (to_z-of_z w64 c.args.first.left l_fits)) (subst (at c.args.first.left) (sym (to_z-of_z w64 c.args.first.right r_fits))
    (carried_none c.args.from c.args.to c.args.crossings.now c.args.first.left c.args.first.right c.requires.from c.requires.some c.new-spans.result.items c.new-spans.ensures.items))

pub overflow_add-left : goal.overflow_add-left
overflow_add-left c =
    let f : FitsSigned w8 c.x-item.result.left = search rules in
    let few : c.loop-x.x-index < 2 ^ 32 = omega arith in
    subst (λ z. FitsSigned w64 (to_z w64 c.loop-x.left-bits +ℤ z)) (sym (addend c.x-item.result.left c.from-left.result c.from-left.ensures f))
    (sum_fits (λ (y : Crossing). y.left) c.args.crossings.now c.args.first.left c.loop-x.x-index (to_z w64 c.loop-x.left-bits) c.x-item.result.left c.loop-x.invariant.left_is c.requires.small.left few f)

pub overflow_add-right : goal.overflow_add-right
overflow_add-right c =
    let f : FitsSigned w8 c.x-item.result.right = search rules in
    let few : c.loop-x.x-index < 2 ^ 32 = omega arith in
    subst (λ z. FitsSigned w64 (to_z w64 c.loop-x.right-bits +ℤ z)) (sym (addend c.x-item.result.right c.from-right.result c.from-right.ensures f))
    (sum_fits (λ (y : Crossing). y.right) c.args.crossings.now c.args.first.right c.loop-x.x-index (to_z w64 c.loop-x.right-bits) c.x-item.result.right c.loop-x.invariant.right_is c.requires.small.right few f)

pub loop-x-preserved : goal.loop-x-preserved
loop-x-preserved c =
    let xs = c.args.crossings.now in
    let k = c.loop-x.x-index in
    let x = c.x-item.result in
    let l = to_z w64 c.loop-x.left-bits in
    let r = to_z w64 c.loop-x.right-bits in
    let few : k < 2 ^ 32 = omega arith in
    let fits_l : FitsSigned w8 x.left = search rules in
    let fits_r : FitsSigned w8 x.right = search rules in
    let is_l = sum_read l x.left c.from-left.result c.from-left.ensures fits_l (sum_fits (λ (y : Crossing). y.left) xs c.args.first.left k l x.left c.loop-x.invariant.left_is c.requires.small.left few fits_l) in
    let is_r = sum_read r x.right c.from-right.result c.from-right.ensures fits_r (sum_fits (λ (y : Crossing). y.right) xs c.args.first.right k r x.right c.loop-x.invariant.right_is c.requires.small.right few fits_r) in
    let at = λ (p q : ℤ). AreCarriedUpTo c.args.from c.args.to xs c.args.first.left c.args.first.right (k + 1) c.in_ok-at.at p q c.add_span.new.spans.items in
    subst (λ p. at p (to_z w64 (of_z w64 (r +ℤ to_z w64 (of_z w64 c.from-right.result))))) (sym is_l) (subst (at (l +ℤ x.left)) (sym is_r)
    (carried_more c.args.from c.args.to xs c.requires.sorted c.args.first.left c.args.first.right k c.loop-x.at l r c.loop-x.spans.items c.loop-x.invariant c.end_until.result c.add_span.new.spans.items c.in_ok-at.at
    c.in_ok-at.ensures.place c.in_ok-at.ensures.added x c.loop-x-test.true (sym c.x-item.is) (in_byte x.left fits_l).0 (in_byte x.left fits_l).1 (in_byte x.right fits_r).0 (in_byte x.right fits_r).1
    c.end_until.ensures.end))

pub returns : goal.returns
returns c =
    carried_all c.args.from c.args.to c.args.crossings.now c.requires.sorted c.args.first.left c.args.first.right c.loop-x.x-index c.loop-x.at (to_z w64 c.loop-x.left-bits) (to_z w64 c.loop-x.right-bits) c.loop-x.spans.items
    c.loop-x.invariant c.args.to _ c.in_ok-add_span.field-0 c.in_ok-add_span.ensures.place c.in_ok-add_span.ensures.added c.loop-x-test.false (same c.args.to)
