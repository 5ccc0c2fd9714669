use Rattle.std.proofs.Common.{◌≡◌, ◌≤◌, ◌^◌, sym, subst, ap, ◌∙◌, ℤ, pos, ◌<ℤ◌, to_z, of_z, unsigned_abs, arith}
use Rattle.std.specs.Int.{w64, int_signum}
use Rattle.std.proofs.lemmas.Int.{ints}
use Rattle.lattice.specs.Triple.{Triple, dot}
use Rattle.lattice.specs.Points.{of_dir, of_normal}
use Rattle.meeting.proofs.Fronts.{signs, front-positive, zero-of-sign, sign-size, no-fault}
use Rattle.meeting.proofs.touching.front.Goals as goal

-- the sign of a component of a normal
sign_read : (k r : ℤ) → unsigned_abs k ≤ 2 ^ 43 → r ≡ int_signum (to_z w64 (of_z w64 k)) → to_z w64 (of_z w64 r) ≡ int_signum k
sign_read k r h e =
    let own : to_z w64 (of_z w64 k) ≡ k = omega (arith, ints) in
    let is : r ≡ int_signum k = e ∙ ap int_signum own in
    let small = sign-size k in
    let read : to_z w64 (of_z w64 r) ≡ r = omega (arith, ints, small, is) in
    read ∙ is

pub unreachable-requires : goal.unreachable-requires
unreachable-requires c =
    let n = c.args.normal.now in
    let x = sign_read n.x c.signum.result n.x_in_range c.signum.ensures.value in
    let y = sign_read n.y c.signum-2.result n.y_in_range c.signum-2.ensures.value in
    let z = sign_read n.z c.signum-3.result n.z_in_range c.signum-3.ensures.value in
    no-fault c.new.result c.in-Err.field-0 (record { x = to_z w64 (of_z w64 c.signum.result); y = to_z w64 (of_z w64 c.signum-2.result); z = to_z w64 (of_z w64 c.signum-3.result) })
    c.in-Err.is c.new.ensures.zero c.new.ensures.range
    (record { x = omega (arith, ints); y = omega (arith, ints); z = omega (arith, ints) })
    (λ h. c.requires (record { x = zero-of-sign n.x (sym x ∙ h.x); y = zero-of-sign n.y (sym y ∙ h.y); z = zero-of-sign n.z (sym z ∙ h.z) }))

pub returns : goal.returns
returns c =
    let n = c.args.normal.now in
    let x = sign_read n.x c.signum.result n.x_in_range c.signum.ensures.value in
    let y = sign_read n.y c.signum-2.result n.y_in_range c.signum-2.ensures.value in
    let z = sign_read n.z c.signum-3.result n.z_in_range c.signum-3.ensures.value in
    let total : of_dir c.in-Ok.d ≡ signs (of_normal n) = c.in-Ok.ensures.components ∙ (λ i. record { x = x i; y = y i; z = z i }) in
    subst (λ (k : Triple). pos 0 <ℤ dot k (of_normal n)) (sym total) (front-positive (of_normal n) c.requires)
