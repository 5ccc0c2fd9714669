use Rattle.std.proofs.Common.{◌≡◌, ◌<◌, ◌≤◌, ◌^◌, ◌∙◌, arith, to_z, of_z}
use Rattle.std.specs.Prelude.{ℤ, ◌+ℤ◌, ◌-ℤ◌, ◌*ℤ◌, unsigned_abs}
use Rattle.std.specs.Int.{w32, w128}
use Rattle.std.proofs.lemmas.Int.{ints}
use Rattle.solid_mesh.proofs.spots.spot_at.Goals as goal

-- a component that passed through the machine's numbers
component : (r n d a b : ℤ) → unsigned_abs r < 2 ^ 89 → unsigned_abs a ≤ 2 ^ 20 → unsigned_abs b ≤ 2 ^ 20
    → r ≡ ((d -ℤ n) *ℤ to_z w32 (of_z w32 a)) +ℤ (n *ℤ to_z w32 (of_z w32 b)) → to_z w128 (of_z w128 r) ≡ ((d -ℤ n) *ℤ a) +ℤ (n *ℤ b)
component r n d a b fits h k e =
    let out : to_z w128 (of_z w128 r) ≡ r = omega (arith, ints) in
    let first : to_z w32 (of_z w32 a) ≡ a = omega (arith, ints) in
    let second : to_z w32 (of_z w32 b) ≡ b = omega (arith, ints) in
    out ∙ e ∙ (λ i. ((d -ℤ n) *ℤ first i) +ℤ (n *ℤ second i))

pub returns : goal.returns
returns c =
    let t = c.args.t.now in
    let a = c.args.a.now in
    let b = c.args.b.now in
    let x = component c.coordinate_at.result t.num t.den a.x b.x c.coordinate_at.ensures.size a.x_in_range b.x_in_range c.coordinate_at.ensures.value in
    let y = component c.coordinate_at-2.result t.num t.den a.y b.y c.coordinate_at-2.ensures.size a.y_in_range b.y_in_range c.coordinate_at-2.ensures.value in
    let z = component c.coordinate_at-3.result t.num t.den a.z b.z c.coordinate_at-3.ensures.size a.z_in_range b.z_in_range c.coordinate_at-3.ensures.value in
    let w : to_z w128 (of_z w128 t.den) ≡ t.den = omega (arith, ints) in
    λ i. record { x = x i; y = y i; z = z i; w = w i }
