use Rattle.std.proofs.Common.{◌≤◌, ◌^◌, arith, subst, sym, rules, FitsSigned, to_z, of_z}
use Rattle.std.specs.Prelude.{ℤ, unsigned_abs}
use Rattle.std.specs.Int.{w64, w128}
use Rattle.std.proofs.lemmas.Int.{ints, to_z-of_z}
use Rattle.hatch_fill.specs.inner.Places.{IsNear}
use Rattle.hatch_fill.proofs.Near.{diagonal_near}
use Rattle.hatch_fill.proofs.places.HatchPlace.upward.Goals as goal

pub upward-requires-clause-first : goal.upward-requires-clause-first
upward-requires-clause-first c =
    let t = c.args.self.now in
    narrow t.diagonal (diagonal_near t.diagonal t.across.num t.across.den t.across.positive (record { short = t.short; across = t.across_near; upward = t.upward_near }))
  where
    narrow : (x : ℤ) → unsigned_abs x ≤ 2 ^ 22 → unsigned_abs (to_z w64 (of_z w64 x)) ≤ 2 ^ 22
    narrow x h = omega (arith, ints)

pub returns-clause-near : goal.returns-clause-near
returns-clause-near c =
    let t = c.args.self.now in
    let d_fits : FitsSigned w64 t.diagonal = search rules in
    let v_fits : FitsSigned w128 c.upward.result = search rules in
    let value = simp to_z-of_z at c.upward.ensures in
    simp to_z-of_z (subst (λ (z : ℤ). IsNear z t.across.den) (sym value) t.upward_near)
