use Rattle.std.proofs.Common.{◌≡◌, ◌+◌, ◌<◌, ◌≤◌, ◌*◌, ◌^◌, ℕ, ◌∙◌, arith, to_z, of_z}
use Rattle.std.specs.Prelude.{ℤ, pos, ◌+ℤ◌, ◌*ℤ◌, unsigned_abs}
use Rattle.std.specs.Int.{w32, w64, w128}
use Rattle.std.proofs.lemmas.Int.{ints}
use Rattle.cut_plane.proofs.side_crossings.crossing.Goals as goal

-- a distance that passed through the machine's numbers
distance : (n : ℕ) (r z : ℤ) → unsigned_abs r < 2 ^ 23 → n ≡ unsigned_abs (to_z w64 (of_z w64 r)) → r ≡ z → n ≡ unsigned_abs z
distance n r z small e f = omega (arith, ints)

small : (n : ℕ) (r : ℤ) → unsigned_abs r < 2 ^ 23 → n ≡ unsigned_abs (to_z w64 (of_z w64 r)) → n < 2 ^ 24
small n r h e = omega (arith, ints)

divisor : (r : ℤ) (m n : ℕ) → m < 2 ^ 24 → n < 2 ^ 24 → r ≡ pos (m + n) → to_z w128 (of_z w128 r) ≡ pos (m + n)
divisor r m n h k e = omega (arith, ints)

-- and a coordinate
component : (r a b i j : ℤ) (m n : ℕ) → unsigned_abs r ≤ 2 ^ 20 * (m + n) → m < 2 ^ 24 → n < 2 ^ 24 → unsigned_abs a ≤ 2 ^ 20 → unsigned_abs b ≤ 2 ^ 20
    → r ≡ (i *ℤ to_z w32 (of_z w32 a)) +ℤ (j *ℤ to_z w32 (of_z w32 b)) → to_z w128 (of_z w128 r) ≡ (i *ℤ a) +ℤ (j *ℤ b)
component r a b i j m n near hm hn h k e =
    let out : to_z w128 (of_z w128 r) ≡ r = omega (arith, ints) in
    let first : to_z w32 (of_z w32 a) ≡ a = omega (arith, ints) in
    let second : to_z w32 (of_z w32 b) ≡ b = omega (arith, ints) in
    out ∙ e ∙ (λ i'. (i *ℤ first i') +ℤ (j *ℤ second i'))

pub returns : goal.returns
returns c =
    let k = c.args.k.now in
    let l = c.args.l.now in
    let near = distance c.unsigned_abs-near.result c.over.result _ c.over.ensures.size c.unsigned_abs-near.ensures.value c.over.ensures.value in
    let far = distance c.unsigned_abs-far.result c.over-2.result _ c.over-2.ensures.size c.unsigned_abs-far.ensures.value c.over-2.ensures.value in
    let near_size = small c.unsigned_abs-near.result c.over.result c.over.ensures.size c.unsigned_abs-near.ensures.value in
    let far_size = small c.unsigned_abs-far.result c.over-2.result c.over-2.ensures.size c.unsigned_abs-far.ensures.value in
    let x = component c.mixed.result k.x l.x (pos c.unsigned_abs-near.result) (pos c.unsigned_abs-far.result) c.unsigned_abs-near.result c.unsigned_abs-far.result c.mixed.ensures.near near_size far_size k.x_in_range l.x_in_range c.mixed.ensures.value ∙ (λ i. (pos (near i) *ℤ k.x) +ℤ (pos (far i) *ℤ l.x)) in
    let y = component c.mixed-2.result k.y l.y (pos c.unsigned_abs-near.result) (pos c.unsigned_abs-far.result) c.unsigned_abs-near.result c.unsigned_abs-far.result c.mixed-2.ensures.near near_size far_size k.y_in_range l.y_in_range c.mixed-2.ensures.value ∙ (λ i. (pos (near i) *ℤ k.y) +ℤ (pos (far i) *ℤ l.y)) in
    let z = component c.mixed-3.result k.z l.z (pos c.unsigned_abs-near.result) (pos c.unsigned_abs-far.result) c.unsigned_abs-near.result c.unsigned_abs-far.result c.mixed-3.ensures.near near_size far_size k.z_in_range l.z_in_range c.mixed-3.ensures.value ∙ (λ i. (pos (near i) *ℤ k.z) +ℤ (pos (far i) *ℤ l.z)) in
    let w = divisor c.from.result _ _ near_size far_size c.from.ensures ∙ (λ i. pos (near i + far i)) in
    λ i. record { x = x i; y = y i; z = z i; w = w i }
