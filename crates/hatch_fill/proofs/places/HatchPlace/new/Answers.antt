use Rattle.std.proofs.Common.{arith, subst, sym, rules, FitsSigned, to_z, of_z}
use Rattle.std.specs.Prelude.{ℤ, ◌-ℤ◌, ◌*ℤ◌}
use Rattle.std.specs.Int.{w64, w128}
use Rattle.std.proofs.lemmas.Int.{ints, to_z-of_z}
use Rattle.cut_plane.proofs.Lists.{not_true}
use Rattle.hatch_fill.specs.inner.Places.{IsNear}
use Rattle.hatch_fill.proofs.Near.{diagonal_near}
use Rattle.hatch_fill.proofs.places.HatchPlace.new.Goals as goal

-- a number that passed through the machine's
through : (d n m : ℤ) → FitsSigned w64 d → IsNear (n -ℤ (d *ℤ m)) m → IsNear (n -ℤ (to_z w64 (of_z w64 d) *ℤ m)) m
through d n m fits h = simp to_z-of_z h

pub returns-then-unsigned_abs-clause-none : goal.returns-then-unsigned_abs-clause-none
returns-then-unsigned_abs-clause-none c e spot =
    let x = c.args.across.now in
    let d_fits = c.ranges.diagonal in
    let near = diagonal_near c.args.diagonal x.num x.den x.positive spot in
    let value = simp to_z-of_z at c.unsigned_abs.ensures.value in
    omega (arith, ints, near, value, c.if-unsigned_abs.true)

pub returns-then-not-is_near-2-clause-none : goal.returns-then-not-is_near-2-clause-none
returns-then-not-is_near-2-clause-none c e spot =
    let x = c.args.across.now in
    let d_fits = c.ranges.diagonal in
    let n_fits : FitsSigned w128 x.num = search rules in
    let m_fits : FitsSigned w128 x.den = search rules in
    let v_fits : FitsSigned w128 c.upward.result = search rules in
    let value = simp to_z-of_z at c.upward.ensures in
    let told = simp to_z-of_z at c.is_near-2.ensures in
    not_true c.is_near-2.result c.if-not-is_near-2.true (told.1 (subst (λ (z : ℤ). IsNear z x.den) (sym value) spot.upward))

pub invariant_of-result-clause-across_near : goal.invariant_of-result-clause-across_near
invariant_of-result-clause-across_near c =
    let x = c.args.across.now in
    let n_fits : FitsSigned w128 x.num = search rules in
    let m_fits : FitsSigned w128 x.den = search rules in
    let told = simp to_z-of_z at c.is_near.ensures in
    told.0 c.if-not-is_near.false

pub invariant_of-result-clause-upward_near : goal.invariant_of-result-clause-upward_near
invariant_of-result-clause-upward_near c =
    let x = c.args.across.now in
    let d_fits = c.ranges.diagonal in
    let n_fits : FitsSigned w128 x.num = search rules in
    let m_fits : FitsSigned w128 x.den = search rules in
    let v_fits : FitsSigned w128 c.upward.result = search rules in
    let value = simp to_z-of_z at c.upward.ensures in
    let told = simp to_z-of_z at c.is_near-2.ensures in
    through c.args.diagonal x.num x.den d_fits (subst (λ (z : ℤ). IsNear z x.den) value (told.0 c.if-not-is_near-2.false))
