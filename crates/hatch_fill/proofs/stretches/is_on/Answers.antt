use Rattle.std.proofs.Common.{◌≡◌, ◌↔◌, ◌<◌, ◌^◌, ◌∙◌, Bool, true, refl, sym, ap, arith, to_z, of_z, FitsSigned, [], ◌∷◌}
use Rattle.std.specs.Prelude.{ℤ, pos, ◌*ℤ◌, unsigned_abs, IsTrue}
use Rattle.std.specs.Cmp.{int_cmp_is}
use Rattle.std.specs.Int.{w64, w128}
use Rattle.std.specs.Ordering.{int_cmp, is_eq}
use Rattle.std.specs.declared.cmp.Ordering.{Ordering}
use Rattle.std.specs.declared.cmp.Ordering.TheVariants.{Less, Equal, Greater}
use Rattle.std.proofs.lemmas.Int.{ints}
use Rattle.integers.proofs.Orders.{equal_of_cmp}
use Rattle.integers.proofs.Ring.{var, con, ◌⊗◌, ring}
use Rattle.hatch_fill.proofs.stretches.is_on.Goals as goal

-- a number that passed through the machine's
through : (r v : ℤ) → FitsSigned w64 v → r ≡ to_z w64 (of_z w64 v) → to_z w128 (of_z w128 r) ≡ v
through r v h e = omega (arith, ints, h.sfits, e)

below : (r v : ℤ) → FitsSigned w64 v → r ≡ to_z w64 (of_z w64 v) → unsigned_abs (to_z w128 (of_z w128 r)) < 2 ^ 127
below r v h e = omega (arith, ints, h.sfits, e)

told : (x y : ℤ) (b : Bool) → b ≡ is_eq (int_cmp x y) → IsTrue b ↔ (x ≡ y)
told x y b e = ((λ t. equal_of_cmp x y (by (int_cmp x y) (sym e ∙ t))), (λ f. e ∙ ap is_eq (sym (int_cmp_is x y Equal f))))
  where
    by : (r : Ordering) → is_eq r ≡ true → r ≡ Equal
    by Less h = cc
    by Equal h = refl
    by Greater h = cc

pub invariant_of-eq-clause-not_least : goal.invariant_of-eq-clause-not_least
invariant_of-eq-clause-not_least c = below c.into.result c.args.at c.ranges.at c.into.ensures

pub returns : goal.returns
returns c =
    let p = c.args.p.now in
    let h = c.diagonal.ensures.ratio in
    let t = told (c.diagonal.result.num *ℤ pos 1) (to_z w128 (of_z w128 c.into.result) *ℤ c.diagonal.result.den) c.eq.result c.eq.ensures in
    let left = ring (c.diagonal.result.num ∷ []) (var 0) (var 0 ⊗ con (pos 1)) refl in
    let right : to_z w128 (of_z w128 c.into.result) *ℤ c.diagonal.result.den ≡ c.args.at *ℤ p.w = λ i. through c.into.result c.args.at c.ranges.at c.into.ensures i *ℤ h.den i in (
      (λ b. sym h.num ∙ left ∙ t.0 b ∙ right),
      (λ e. t.1 (sym left ∙ h.num ∙ e ∙ sym right)),
    )
