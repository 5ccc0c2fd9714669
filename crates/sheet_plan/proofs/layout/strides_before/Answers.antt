use Rattle.std.proofs.Common.{rules, ◌≡◌, ℕ, List, refl, ap, ◌∙◌, arith, ◌+ℤ◌, to_z, FitsSigned}
use Rattle.std.specs.Int.{w64}
use Rattle.std.proofs.lemmas.Int.{ints, to_z-of_z}
use Rattle.sheet_plan.specs.declared.cells.Bands.{Bands}
use Rattle.sheet_plan.specs.declared.cells.Bands.TheVariants.{Rows, Columns}
use Rattle.sheet_plan.specs.declared.cells.Shape.{Shape}
use Rattle.sheet_plan.specs.Layout.{stride}
use Rattle.sheet_plan.specs.inner.Strides.{band_at, stride_in}
use Rattle.sheet_plan.proofs.Sums.{sum_more}
use Rattle.sheet_plan.proofs.layout.strides_before.Goals as goal

stride-at : (bands : Bands) (shapes : List Shape) (number : ℕ) → stride shapes (band_at bands number) ≡ stride_in bands shapes number
stride-at Rows shapes number = refl
stride-at Columns shapes number = refl

pub loop-number-preserved : goal.loop-number-preserved
loop-number-preserved c =
    let stride_fits : FitsSigned w64 c.stride-sum.result = search rules in
    let least = c.loop-number.invariant.least in
    let greatest = c.loop-number.invariant.greatest in
    let size = c.stride-sum.ensures.size in
    let more = c.loop-number-test.true in
    let few = c.requires.few in
    let sum_fits : FitsSigned w64 (to_z w64 c.loop-number.sum-bits +ℤ c.stride-sum.result) = omega (arith, ints) in
    simp to_z-of_z (record {
      value = sum_more (stride_in c.args.bands c.args.shapes.now) c.loop-number.number _ _ c.loop-number.invariant.value
          (c.stride-sum.ensures.value ∙ ap (stride c.args.shapes.now) c.at.ensures ∙ stride-at c.args.bands c.args.shapes.now c.loop-number.number);
      least = omega (arith, ints);
      greatest = omega (arith, ints);
    })
