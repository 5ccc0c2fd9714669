use Rattle.std.proofs.Common.{◌≡◌, length, refl, ltb-false, arith}
use Rattle.solid_mesh.specs.Solids.{solid_part}
use Rattle.integers.proofs.Lists.{some_element}
use Rattle.out_grid.proofs.BoxSizes.{sizes_more, sizes_all}
use Rattle.out_grid.proofs.halving.are_crowded.Goals as goal

pub loop-tri-init : goal.loop-tri-init
loop-tri-init c = record { met = refl; small = omega arith; counted = omega arith }

pub loop-tri-preserved : goal.loop-tri-preserved
loop-tri-preserved c =
    let triangles = (solid_part c.args.solid.now).triangles in
    let k = c.loop-tri.tri in
    let h = c.loop-tri.invariant in
    let (t, at) = some_element triangles k (omega (arith, c.loop-tri-test.true, c.triangles-tri-end.ensures.count)) in
    record {
      met = omega (arith, h.met, c.cells-met.ensures.value, c.box_of.ensures.size t at, sizes_more c.args.columns c.args.cells.now triangles k t at);
      small = omega (arith, h.small, c.cells-met.ensures.size);
      counted = omega (arith, h.counted);
    }

pub returns-clause-roomy : goal.returns-clause-roomy
returns-clause-roomy c calm =
    let triangles = (solid_part c.args.solid.now).triangles in
    let all : c.loop-tri.tri ≡ length triangles = omega (arith, c.loop-tri-test.false, c.loop-tri.auto.tri-end, c.triangles-tri-end.ensures.count) in
    let few = ltb-false _ _ calm in
    omega (arith, few, c.from.ensures, c.triangles.ensures.count, c.loop-tri.invariant.met, sizes_all c.args.columns c.args.cells.now triangles c.loop-tri.tri all)

pub returns-clause-counted : goal.returns-clause-counted
returns-clause-counted c = omega (arith, c.loop-tri.invariant.counted, c.loop-tri-test.false, c.loop-tri.auto.tri-end, c.triangles-tri-end.ensures.count)
