use Rattle.std.proofs.Common.{◌≡◌, ◌≢◌, ◌↔◌, Bool, true, false, refl, subst}
use Rattle.std.specs.Prelude.{ℤ, ◌+ℤ◌, ◌*ℤ◌, ◌<ℤ◌, IsTrue}
use mathlib.Core.Bool.{beq}
use Rattle.lattice.specs.Points.{of_dir, of_spot}
use Rattle.cut_plane.proofs.Beside.{told_left, told_right}
use Rattle.cut_plane.proofs.parity.is_right_of.Goals as goal

same : (s t : Bool) → beq s t ≡ true → s ≡ t
same true true e = refl
same true false e = cc
same false true e = cc
same false false e = refl

other : (s t : Bool) → beq s t ≡ false → s ≢ t
other true true e f = cc
other true false e f = cc
other false true e f = cc
other false false e f = cc

pub returns-then-is_not_above : goal.returns-then-is_not_above
returns-then-is_not_above c =
    told_left (of_dir c.args.d.now) c.args.segment.now (of_spot c.args.p.now) c.is_not_above.result c.is_not_above-2.result c.is_not_above.ensures c.is_not_above-2.ensures
    (same c.is_not_above.result c.is_not_above-2.result c.if-is_not_above.true)

pub returns : goal.returns
returns c =
    let x = c.args.segment.now in
    let u = c.across.ensures.ratio in
    let v = c.upward.ensures.ratio in
    told_right (of_dir c.args.d.now) x (of_spot c.args.p.now) c.is_not_above.result c.is_not_above-2.result c.is_not_above.ensures c.is_not_above-2.ensures
    (other c.is_not_above.result c.is_not_above-2.result c.if-is_not_above.false) c.is_before.result
    (turned ((x.line.a *ℤ c.across.result.num) +ℤ (x.line.b *ℤ c.upward.result.num)) (x.line.c *ℤ c.across.result.den) _ _ c.is_before.result
    (λ i. (x.line.a *ℤ u.num i) +ℤ (x.line.b *ℤ v.num i)) (λ i. x.line.c *ℤ u.den i) c.is_before.ensures)
  where
    turned : (k l m n : ℤ) (r : Bool) → k ≡ m → l ≡ n → IsTrue r ↔ (k <ℤ l) → IsTrue r ↔ (m <ℤ n)
    turned k l m n r e f h = subst (λ (y : ℤ). IsTrue r ↔ (m <ℤ y)) f (subst (λ (x : ℤ). IsTrue r ↔ (x <ℤ l)) e h)
