use Rattle.std.proofs.Common.{◌+◌, rules, arith, sym, subst, ℤ, FitsSigned}
use Rattle.std.specs.Int.{w64}
use Rattle.std.proofs.lemmas.Int.{ints, clamps, to_z-of_z}
use Rattle.lattice.specs.declared.points.Corner.{Corner}
use Rattle.lattice.specs.Points.{of_vector, point_of, scaled}
use Rattle.lattice.specs.Triple.{dot}
use Rattle.solid_mesh.specs.Solids.{solid_part}
use Rattle.sheet_plan.proofs.Extremes.{IsExtreme, AtMost, AtLeast, first, least_step, greatest_step, least, greatest}
use Rattle.sheet_plan.proofs.extents.reach_along.Goals as goal

pub loop-i-init : goal.loop-i-init
loop-i-init c =
    let fits : FitsSigned w64 c.along-least.result = search rules in
    let V = λ (k : Corner). dot (of_vector c.args.axis.now) (scaled (point_of k)) in
    let corners = (solid_part c.args.solid.now).corners in
    simp to_z-of_z (record {
      least = first AtMost V corners 0 c.corner.result _ c.corner.ensures c.along-least.ensures.value;
      greatest = first AtLeast V corners 0 c.corner.result _ c.corner.ensures c.along-least.ensures.value;
      ordered = omega (arith, ints);
      least_size = c.along-least.ensures.size;
      greatest_size = c.along-least.ensures.size;
    })

pub loop-i-preserved : goal.loop-i-preserved
loop-i-preserved c =
    let fits : FitsSigned w64 c.along-value.result = search rules in
    let least_fits : FitsSigned w64 c.min-least.result = search rules in
    let greatest_fits : FitsSigned w64 c.max-greatest.result = search rules in
    let V = λ (k : Corner). dot (of_vector c.args.axis.now) (scaled (point_of k)) in
    let corners = (solid_part c.args.solid.now).corners in
    let least_is = simp to_z-of_z at c.min-least.ensures.value in
    let greatest_is = simp to_z-of_z at c.max-greatest.ensures.value in
    let lower = least_step V corners c.loop-i.i c.corner-in-loop-i.result _ c.along-value.result c.corner-in-loop-i.ensures c.along-value.ensures.value c.loop-i.invariant.least in
    let higher = greatest_step V corners c.loop-i.i c.corner-in-loop-i.result _ c.along-value.result c.corner-in-loop-i.ensures c.along-value.ensures.value c.loop-i.invariant.greatest in
    let ordered = c.loop-i.invariant.ordered in
    let least_small = c.loop-i.invariant.least_size in
    let greatest_small = c.loop-i.invariant.greatest_size in
    let new_small = c.along-value.ensures.size in
    simp to_z-of_z (record {
      least = subst (λ (z : ℤ). IsExtreme AtMost V corners (c.loop-i.i + 1) z) (sym least_is) lower;
      greatest = subst (λ (z : ℤ). IsExtreme AtLeast V corners (c.loop-i.i + 1) z) (sym greatest_is) higher;
      ordered = omega (arith, ints, clamps, least_is, greatest_is);
      least_size = omega (arith, ints, clamps, least_is);
      greatest_size = omega (arith, ints, clamps, greatest_is);
    })

pub returns-clause-least : goal.returns-clause-least
returns-clause-least c = least _ _ c.loop-i.i _ (omega (arith, c.corners-i-end.ensures, c.loop-i-test.false)) c.loop-i.invariant.least

pub returns-clause-greatest : goal.returns-clause-greatest
returns-clause-greatest c = greatest _ _ c.loop-i.i _ (omega (arith, c.corners-i-end.ensures, c.loop-i-test.false)) c.loop-i.invariant.greatest
