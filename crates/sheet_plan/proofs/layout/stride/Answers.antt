use Rattle.std.proofs.Common.{rules, arith, FitsSigned}
use Rattle.std.specs.Int.{w64}
use Rattle.std.proofs.lemmas.Int.{ints, clamps, to_z-of_z}
use Rattle.sheet_plan.specs.Layout.{part_of}
use Rattle.sheet_plan.proofs.Sums.{greatest_first, greatest_more, greatest_all}
use Rattle.sheet_plan.proofs.layout.stride.Goals as goal

pub loop-shape-init : goal.loop-shape-init
loop-shape-init c = record { value = greatest_first (part_of c.args.band) c.args.shapes.now; size = record { least = omega (arith, ints); greatest = omega (arith, ints) } }

pub loop-shape-preserved : goal.loop-shape-preserved
loop-shape-preserved c =
    let part_fits : FitsSigned w64 c.part.result = search rules in
    let max_fits : FitsSigned w64 c.max-greatest.result = search rules in
    let is = simp to_z-of_z at c.max-greatest.ensures.value in
    let part = c.part.ensures.size in
    let so_far = c.loop-shape.invariant.size in
    simp to_z-of_z (record {
      value = greatest_more (part_of c.args.band) c.args.shapes.now c.loop-shape.shape-index _ _ _ _ c.loop-shape-test.true c.part.ensures.value is c.loop-shape.invariant.value;
      size = record { least = omega (arith, ints, clamps, is); greatest = omega (arith, ints, clamps, is) };
    })

pub returns-clause-value : goal.returns-clause-value
returns-clause-value c = greatest_all (part_of c.args.band) c.args.shapes.now c.loop-shape.shape-index _ c.loop-shape.invariant.size.least c.loop-shape-test.false c.loop-shape.invariant.value
