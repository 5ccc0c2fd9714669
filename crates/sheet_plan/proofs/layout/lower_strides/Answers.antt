use Rattle.std.proofs.Common.{rules, arith, ◌+ℤ◌, to_z, FitsSigned}
use Rattle.std.specs.Int.{w64}
use Rattle.std.proofs.lemmas.Int.{ints, to_z-of_z}
use Rattle.sheet_plan.specs.Layout.{lower_part_of}
use Rattle.sheet_plan.proofs.Sums.{total_more, total_all}
use Rattle.sheet_plan.proofs.layout.lower_strides.Goals as goal

pub loop-shape-init : goal.loop-shape-init
loop-shape-init c = record { value = omega (arith, ints); least = omega (arith, ints); greatest = omega (arith, ints) }

pub loop-shape-preserved : goal.loop-shape-preserved
loop-shape-preserved c =
    let part_fits : FitsSigned w64 c.lower_part-sum.result = search rules in
    let least = c.loop-shape.invariant.least in
    let greatest = c.loop-shape.invariant.greatest in
    let part = c.lower_part-sum.ensures.size in
    let more = c.loop-shape-test.true in
    let few = c.requires.few in
    let sum_fits : FitsSigned w64 (to_z w64 c.loop-shape.sum-bits +ℤ c.lower_part-sum.result) = omega (arith, ints) in
    simp to_z-of_z (record {
      value = total_more lower_part_of c.args.shapes.now c.loop-shape.shape-index _ _ _ c.loop-shape-test.true c.lower_part-sum.ensures.value c.loop-shape.invariant.value;
      least = omega (arith, ints);
      greatest = omega (arith, ints);
    })

pub returns-clause-value : goal.returns-clause-value
returns-clause-value c = total_all lower_part_of c.args.shapes.now c.loop-shape.shape-index _ c.loop-shape-test.false c.loop-shape.invariant.value

pub returns-clause-size : goal.returns-clause-size
returns-clause-size c =
    let least = c.loop-shape.invariant.least in
    let greatest = c.loop-shape.invariant.greatest in
    let end = c.loop-shape.auto.shape-index-end in
    let few = c.requires.few in
    record { least = omega (arith, ints); greatest = omega (arith, ints) }
