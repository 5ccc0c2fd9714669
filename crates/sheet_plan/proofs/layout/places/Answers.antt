use Rattle.std.proofs.Common.{rules, ◌≡◌, ℕ, ◌+◌, ◌+ℤ◌, to_z, FitsSigned, length, ap, ◌∙◌, subst, arith}
use Rattle.std.specs.Int.{w64}
use Rattle.std.proofs.lemmas.Int.{ints, to_z-of_z}
use Rattle.std.proofs.lemmas.List.{length_push}
use Rattle.std.proofs.lemmas.Option.{get_or_from_slice_get}
use Rattle.lattice.specs.Points.{of_dir}
use Rattle.sheet_plan.specs.declared.bounds.Extent.{Extent}
use Rattle.sheet_plan.specs.declared.cells.Shape.{Shape}
use Rattle.sheet_plan.specs.declared.sheet.Spread.{Spread}
use Rattle.sheet_plan.specs.Layout.{lower_part_of, StandsInCell}
use Rattle.sheet_plan.proofs.Listed.{each_more}
use Rattle.sheet_plan.proofs.Sums.{total_taken}
use Rattle.sheet_plan.proofs.layout.places.Goals as goal

pub loop-i-preserved : goal.loop-i-preserved
loop-i-preserved c =
    let step = c.in_ok-push.ensures.items in
    let old = c.loop-i.places.items in
    let i = c.loop-i.i in
    let part_fits : FitsSigned w64 c.lower_part-taken.result = search rules in
    let least = c.loop-i.invariant.least in
    let greatest = c.loop-i.invariant.greatest in
    let part = c.lower_part-taken.ensures.size in
    let more = c.loop-i-test.true in
    let few = c.requires.few in
    let sum_fits : FitsSigned w64 (to_z w64 c.loop-i.taken-bits +ℤ c.lower_part-taken.result) = omega (arith, ints) in
    simp to_z-of_z (record {
      count = ap length step ∙ length_push old c.place.result ∙ ap (λ (n : ℕ). n + 1) c.loop-i.invariant.count;
      taken = total_taken lower_part_of c.args.shapes.now i _ _ _ c.loop-i-test.true c.lower_part-taken.ensures.value c.loop-i.invariant.taken;
      least = omega (arith, ints);
      greatest = omega (arith, ints);
      direction = each_more (λ (j : ℕ) (e : Extent) (p : Spread). of_dir p.d ≡ of_dir e.d) c.args.extents.now old _ c.place.result i c.loop-i.invariant.count step c.loop-i.invariant.direction
          (λ e at. c.place.ensures.direction ∙ ap (λ (x : Extent). of_dir x.d) (c.index-extents-i.is ∙ get_or_from_slice_get c.args.extents.now i e c.index-extents-i.result at));
      each = each_more (λ (j : ℕ) (s : Shape) (p : Spread). StandsInCell c.args.shapes.now j s p) c.args.shapes.now old _ c.place.result i c.loop-i.invariant.count step c.loop-i.invariant.each
          (λ s at. subst (λ (z : Shape). StandsInCell c.args.shapes.now i z c.place.result) (get_or_from_slice_get c.args.shapes.now i s _ at) (c.place.ensures.stands c.args.shapes.now i c.of-rows.ensures.value c.of-columns.ensures.value c.loop-i.invariant.taken));
    })

pub returns : goal.returns
returns c = record {
  count = c.loop-i.invariant.count ∙ omega (arith, c.loop-i-test.false, c.loop-i.auto.i-end);
  direction = c.loop-i.invariant.direction;
  each = c.loop-i.invariant.each;
}
