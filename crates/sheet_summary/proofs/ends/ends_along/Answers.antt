use Rattle.std.proofs.Common.{rules, arith, FitsSigned}
use Rattle.std.specs.Int.{w64, int_min, int_max}
use Rattle.std.proofs.lemmas.Int.{ints, clamps, to_z-of_z}
use Rattle.solid_mesh.specs.Solids.{solid_part}
use Rattle.sheet_summary.specs.Ends.{coordinate, least_of, greatest_of}
use Rattle.sheet_summary.proofs.Extents.{begun, next, least_cons, greatest_cons}
use Rattle.sheet_summary.proofs.ends.ends_along.Goals as goal

pub loop-i-init : goal.loop-i-init
loop-i-init c =
    let fits : FitsSigned w64 c.coordinate-least.result = search rules in
    let f = coordinate c.args.axis in
    let corners = (solid_part c.args.solid.now).corners in
    simp to_z-of_z (record {
      least = begun f int_min least_of least_cons corners c.corner.result c.coordinate-least.result c.corner.ensures c.coordinate-least.ensures.value;
      greatest = begun f int_max greatest_of greatest_cons corners c.corner.result c.coordinate-least.result c.corner.ensures c.coordinate-least.ensures.value;
      ordered = omega (arith, ints);
      least_size = c.coordinate-least.ensures.size;
      greatest_size = c.coordinate-least.ensures.size;
    })

pub loop-i-preserved : goal.loop-i-preserved
loop-i-preserved c =
    let fits : FitsSigned w64 c.coordinate-value.result = search rules in
    let least_fits : FitsSigned w64 c.min-least.result = search rules in
    let greatest_fits : FitsSigned w64 c.max-greatest.result = search rules in
    let f = coordinate c.args.axis in
    let corners = (solid_part c.args.solid.now).corners in
    let least_is = simp to_z-of_z at c.min-least.ensures.value in
    let greatest_is = simp to_z-of_z at c.max-greatest.ensures.value in
    let at = c.corner-in-loop-i.ensures in
    let is = c.coordinate-value.ensures.value in
    let old = c.loop-i.invariant in
    let ordered = old.ordered in
    let least_small = old.least_size in
    let greatest_small = old.greatest_size in
    let new_small = c.coordinate-value.ensures.size in
    simp to_z-of_z (record {
      least = next f int_min least_of least_cons corners c.loop-i.i c.corner-in-loop-i.result _ c.coordinate-value.result _ _ at is least_is old.least;
      greatest = next f int_max greatest_of greatest_cons corners c.loop-i.i c.corner-in-loop-i.result _ c.coordinate-value.result _ _ at is greatest_is old.greatest;
      ordered = omega (arith, ints, clamps, least_is, greatest_is);
      least_size = omega (arith, ints, clamps, least_is);
      greatest_size = omega (arith, ints, clamps, greatest_is);
    })
